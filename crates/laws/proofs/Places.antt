-- From the code's order to the model's: a loop that updates the pack at each pair is, seen at one place, a fold over the pairs (`placewise`).
-- `add_mean` and `add_hist` are the updates of state s in a pack of n states, as stores. Assumes nothing.
use mathlib.Core.Path.{◌≡◌, refl, sym, ap, ◌∙◌, subst}
use mathlib.Core.Logic.{◌≢◌}
use Rattle.std.specs.Prelude.{Option, None, Some}
use mathlib.Core.List.{List, [], ◌∷◌, ◌++◌, map, map-map, map-append}
use mathlib.Core.Bool.{Bool, true, false, cond}
use Prim.Native.Nat.{ℕ, zero, suc, ◌+◌, ◌-◌, ◌*◌, ◌/◌, ◌%◌, ◌<◌, ◌≤◌}
use native.Mathlib.Nat.{div-add-mod', add-zero, zero-add}
use native.Mathlib.Numerals.{add-one}
use native.Mathlib.Omega.{arith}
use lib.Arith.{digits_div, digits_mod}
use lib.Dec.{T, eqb, eqb→eq, eqb_refl, eqb-suc-suc, eqb-zero-suc}
use lib.ListN.{length, set, drop, length-set, length-append, length-map, length-drop, get_or-append}
use lib.Seq.{get_or-set_same, get_or-set_other, drop-cons, set_at, append_snoc, get_or-append-add, get_or-drop}
use lib.Ieee.{Float, nan, binary64, add, mul}
use Rattle.definitions.specs.Lists.{at, range, upto, overwritten, add_opt, fold_at, later_pairs, all_pairs}
use Rattle.definitions.specs.Reducer.{mean_term, in_bin}
use Rattle.laws.specs.Loops.{loop_left, run_on, fold_pack}
use Rattle.laws.specs.Stores.{bump, add_hist, add_mean}
use Rattle.laws.proofs.Lists.{with, range_length, range_add}
use Rattle.laws.proofs.Loops.{run_append, loop_map, loop_flat, flat_map_law}

module _ {A : Type 0} (upd : A → List Float → List Float) (n : ℕ) (t : ℕ → A → Option Float) (keeps : (a : A) (s : List Float) → length (upd a s) ≡ length s)
    (one : (a : A) (s : List Float) (p : ℕ) → length s ≡ n → p < n → at (upd a s) p ≡ add_opt (t p a) (at s p)) where
  pub placewise : (l : List A) (s : List Float) (p : ℕ) → length s ≡ n → p < n → at (fold_pack upd l s) p ≡ fold_at (t p) (at s p) l
  placewise [] s p e h = refl
  placewise (a ∷ l) s p e h = placewise l (upd a s) p (keeps a s ∙ e) h ∙ ap (λ (x : Float). fold_at (t p) x l) (one a s p e h)

-- ---- code that fills the front of a slice: after i turns it is `overwritten i f s`
module _ (f : ℕ → Float) where
  range_at : (k n i : ℕ) → i < n → at (map f (range k n)) i ≡ f (k + i)
  range_at k zero i h = absurd (omega arith)
  range_at k (suc n) zero h = ap f (sym (add-zero k))
  range_at k (suc n) (suc i) h = range_at (suc k) n i (omega arith) ∙ ap f (omega arith)

  pub table_length : (n : ℕ) → length (map f (upto n)) ≡ n
  table_length n = length-map (upto n) f ∙ range_length 0 n

  pub table_at : (n i : ℕ) → i < n → at (map f (upto n)) i ≡ f i
  table_at n i h = range_at 0 n i h ∙ ap f (zero-add i)

  pub overwritten_none : (s : List Float) → overwritten 0 f s ≡ s
  overwritten_none s = refl

  pub overwritten_more : (i : ℕ) (s : List Float) → i < length s → set (overwritten i f s) i (f i) ≡ overwritten (i + 1) f s
  overwritten_more i s h =
      ap (λ (l : List Float). set (map f (upto i) ++ l) i (f i)) (drop-cons s i nan h)
      ∙ set_at (map f (upto i)) (at s i) (drop (suc i) s) (f i) i (table_length i)
      ∙ sym (append_snoc (map f (upto i)) (f i) (drop (suc i) s))
      ∙ sym (ap (λ (l : List Float). l ++ drop (i + 1) s) (ap (map f) (range_add 0 i 1) ∙ map-append f (upto i) (range (0 + i) 1))
      ∙ (λ j. map f (upto i) ++ (f (zero-add i j) ∷ []) ++ drop (add-one i j) s))

  -- the same from an invariant
  pub overwritten_turn : (i : ℕ) (s q : List Float) → i < length s → q ≡ overwritten i f s → set q i (f i) ≡ overwritten (i + 1) f s
  overwritten_turn i s q h e = ap (λ (l : List Float). set l i (f i)) e ∙ overwritten_more i s h

  pub overwritten_length : (n : ℕ) (s : List Float) → n ≤ length s → length (overwritten n f s) ≡ length s
  overwritten_length n s h = length-append (map f (upto n)) (drop n s) ∙ (λ i. table_length n i + length-drop n s i) ∙ omega arith

  pub overwritten_at : (n : ℕ) (s : List Float) (i : ℕ) → i < n → at (overwritten n f s) i ≡ f i
  overwritten_at n s i h = get_or-append (map f (upto n)) (drop n s) nan i (omega (arith, table_length n)) ∙ table_at n i h

  pub overwritten_past : (n : ℕ) (s : List Float) (i : ℕ) → n ≤ i → at (overwritten n f s) i ≡ at s i
  overwritten_past n s i h =
      ap (at (overwritten n f s)) (omega (arith, table_length n)) ∙ get_or-append-add (map f (upto n)) (drop n s) (i - n) nan ∙ get_or-drop n s (i - n) nan ∙ ap (at s) (omega arith)

-- ---- number e of state s is at e * n + s
bump_here : (i : ℕ) (x : Float) (s : List Float) → i < length s → at (bump i x s) i ≡ add binary64 (at s i) x
bump_here i x s h = get_or-set_same s i (add binary64 (at s i) x) nan h

bump_else : (i p : ℕ) (x : Float) (s : List Float) → p ≢ i → at (bump i x s) p ≡ at s p
bump_else i p x s h = get_or-set_other s i p (add binary64 (at s i) x) nan h

-- place p is number p / n of state p % n
place_of_law : (n p : ℕ) → p / n * n + p % n ≡ p
place_of_law n p = div-add-mod' p n

-- at place p a bump of number e of state s is an addition if p is that place
bump_at : (n s e p : ℕ) (x : Float) (pack : List Float) → s < n → p < length pack
    → at (bump (e * n + s) x pack) p ≡ add_opt (in_bin (Some s) (p % n) (in_bin (Some e) (p / n) (Some x))) (at pack p)
bump_at n s e p x pack hs hp =
    go (eqb s (p % n)) (eqb e (p / n)) (eqb→eq s (p % n)) (eqb→eq e (p / n))
    (λ q. rw (ap (λ (k : ℕ). k % n) q ∙ digits_mod e hs) (eqb_refl s)) (λ q. rw (ap (λ (k : ℕ). k / n) q ∙ digits_div e hs) (eqb_refl e))
  where
    go : (a b : Bool) → (T a → s ≡ p % n) → (T b → e ≡ p / n) → (p ≡ e * n + s → T a) → (p ≡ e * n + s → T b)
        → at (bump (e * n + s) x pack) p ≡ add_opt (cond a (cond b (Some x) None) None) (at pack p)
    go true true f g h k =
        let q : p ≡ e * n + s = sym (place_of_law n p) ∙ sym (ap (λ (i : ℕ). i * n + p % n) (g tt)) ∙ sym (ap (λ (i : ℕ). e * n + i) (f tt)) in
        ap (λ (i : ℕ). at (bump (e * n + s) x pack) i) q ∙ bump_here (e * n + s) x pack (subst (λ (i : ℕ). i < length pack) q hp) ∙ ap (λ (i : ℕ). add binary64 (at pack i) x) (sym q)
    go true false f g h k = bump_else (e * n + s) p x pack (λ q. k q)
    go false b f g h k = bump_else (e * n + s) p x pack (λ q. h q)

pub hist_at : (n s b p : ℕ) (w : Float) (pack : List Float) → s < n → p < length pack
    → at (add_hist n s b w pack) p ≡ add_opt (in_bin (Some s) (p % n) (in_bin (Some b) (p / n) (Some w))) (at pack p)
hist_at n s b p w pack hs hp = bump_at n s b p w pack hs hp

pub mean_at : (n s p : ℕ) (v w : Float) (pack : List Float) → s < n → p < length pack
    → at (add_mean n s v w pack) p ≡ add_opt (in_bin (Some s) (p % n) (mean_term (p / n) v w)) (at pack p)
mean_at n s p v w pack hs hp =
    bump_at n s 1 p w (bump (0 * n + s) (mul binary64 v w) pack) hs (subst (λ (k : ℕ). p < k) (sym (length-set pack (0 * n + s) (add binary64 (at pack (0 * n + s)) (mul binary64 v w)))) hp)
    ∙ ap (add_opt (in_bin (Some s) (p % n) (in_bin (Some 1) (p / n) (Some w)))) (bump_at n s 0 p (mul binary64 v w) pack hs hp)
    ∙ go (eqb s (p % n)) (p / n)
  where
    go : (a : Bool) (e : ℕ)
        → add_opt (cond a (in_bin (Some 1) e (Some w)) None) (add_opt (cond a (in_bin (Some 0) e (Some (mul binary64 v w))) None) (at pack p)) ≡ add_opt (cond a (mean_term e v w) None) (at pack p)
    go false e = refl
    go true zero = refl
    go true (suc zero) = refl
    go true (suc (suc e)) =
        ap (λ (t : Bool). add_opt (cond t (Some w) None) (add_opt (cond (eqb 0 (suc (suc e))) (Some (mul binary64 v w)) None) (at pack p))) (eqb-suc-suc 0 (suc e) ∙ eqb-zero-suc e)
        ∙ ap (λ (t : Bool). add_opt (cond t (Some (mul binary64 v w)) None) (at pack p)) (eqb-zero-suc (suc e))

-- ---- the two loops over pairs, as what is left of them: a loop's invariant may say that what is left, run on the pack as it is now, gives the result
module _ {A : Type 0} (upd : A × A → List Float → List Float) (g : ℕ → A) (h : ℕ → A) where
  -- the second index runs from j for m turns
  abbrev pub row_left : ℕ → ℕ → ℕ → List Float → List Float
  row_left i j m s = loop_left (λ k s. upd (g i, h k) s) j m s

  -- cross: the first index runs from i for n turns, the second from 0 for m
  abbrev pub cross_left : ℕ → ℕ → ℕ → List Float → List Float
  cross_left i n m s = loop_left (λ k s. row_left k 0 m s) i n s

  pub row_is : (i j m : ℕ) (s : List Float) → row_left i j m s ≡ fold_pack upd (map (with (g i)) (map h (range j m))) s
  row_is i j m s = loop_map upd (λ k. (g i, h k)) j m s ∙ ap (λ (l : List (A × A)). run_on upd l s) (sym (map-map (with (g i)) h (range j m)))

  pub cross_is : (i n m : ℕ) (s : List Float) → cross_left i n m s ≡ fold_pack upd (all_pairs (map g (range i n)) (map h (range 0 m))) s
  cross_is i n m s =
      loop_flat upd (λ k. map (with (g k)) (map h (range 0 m))) (λ k s. row_left k 0 m s) (λ k s. row_is k 0 m s) i n s
      ∙ ap (λ (l : List (A × A)). run_on upd l s) (sym (flat_map_law g (λ a. map (with a) (map h (range 0 m))) (range i n)))

module _ {A : Type 0} (upd : A × A → List Float → List Float) (g : ℕ → A) where
  -- auto: the second index runs from the first's successor
  abbrev pub auto_left : ℕ → ℕ → List Float → List Float
  auto_left i zero s = s
  auto_left i (suc n) s = auto_left (suc i) n (row_left upd g g i (suc i) n s)

  pub auto_is : (i n : ℕ) (s : List Float) → auto_left i n s ≡ fold_pack upd (later_pairs (map g (range i n))) s
  auto_is i zero s = refl
  auto_is i (suc n) s =
      let l = later_pairs (map g (range (suc i) n)) in
      auto_is (suc i) n (row_left upd g g i (suc i) n s) ∙ ap (run_on upd l) (row_is upd g g i (suc i) n s) ∙ sym (run_append upd (map (with (g i)) (map g (range (suc i) n))) l s)

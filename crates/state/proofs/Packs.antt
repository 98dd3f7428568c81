-- Turns of the loops over a pack, and the consolidation, pack by pack in the code and place by place in its definition.
use mathlib.Core.Path.{◌≡◌, refl, sym, ◌∙◌, ap}
use Rattle.std.specs.Prelude.{Option, Some, replicate}
use mathlib.Core.Bool.{false}
use mathlib.Core.List.{List, ◌∷◌, ◌++◌, map, append-nil}
use Prim.Native.Nat.{ℕ, zero, suc, ◌+◌, ◌-◌, ◌*◌, ◌<◌, ◌≤◌}
use native.Mathlib.Nat.{add-zero, zero-mul, le_refl, mul-le-mul_right}
use native.Mathlib.Omega.{arith}
use lib.ListN.{length, set, take, drop, take-append-drop, drop_of_length-le, length-drop}
use lib.Seq.{take_at, drop_at, drop-drop, ext_get_or, get_or-take, get_or-drop, length-take-le}
use lib.Ieee.{Float, nan, binary64, add}
use Rattle.definitions.specs.Lists.{at, range, upto, overwritten, add_opt, fold_at}
use Rattle.definitions.specs.Floats.{zero_f}
use Rattle.definitions.specs.State.{reset_pack, merge_packs, consolidate_packs}
use Rattle.laws.proofs.Places.{table_length, table_at, overwritten_turn, overwritten_past}

-- a turn that stores x in the next place
pub turn : (f : ℕ → Float) (i n : ℕ) (s q : List Float) (x : Float) → i < n → n ≤ length s → q ≡ overwritten i f s → x ≡ f i → set q i x ≡ overwritten (i + 1) f s
turn f i n s q x h l e v = ap (set q i) v ∙ overwritten_turn f i s q (omega arith) e

-- a place that is not yet reached
kept : (f : ℕ → Float) (i k : ℕ) (s q : List Float) → i ≤ k → q ≡ overwritten i f s → at q k ≡ at s k
kept f i k s q h e = ap (λ (l : List Float). at l k) e ∙ overwritten_past f i s k h

pub over : {A : Type 0} (f : ℕ → A) (i n : ℕ) (q : A) → i ≤ n → n ≤ i → q ≡ f i → q ≡ f n
over f i n q h k e =
    let s : i ≡ n = omega arith in
    e ∙ ap f s

module _ (s : List Float) (i n : ℕ) (q t : List Float) where
  pub merge_turn : i < n → n ≤ length s → q ≡ merge_packs i s t → set q i (add binary64 (at q i) (at t i)) ≡ merge_packs (i + 1) s t
  merge_turn h l e =
      let f : ℕ → Float = λ p. add binary64 (at s p) (at t p) in
      turn f i n s q _ h l e (ap (λ (x : Float). add binary64 x (at t i)) (kept f i i s q (le_refl i) e))

  pub merge_done : i ≤ n → n ≤ i → q ≡ merge_packs i s t → q ≡ merge_packs n s t
  merge_done = over (λ k. merge_packs k s t) i n q

-- ---- the consolidation
fold_more : (t : ℕ → Option Float) (x : Float) (k n : ℕ) → fold_at t x (range k (suc n)) ≡ add_opt (t (k + n)) (fold_at t x (range k n))
fold_more t x k zero = ap (λ (i : ℕ). add_opt (t i) x) (sym (add-zero k))
fold_more t x k (suc n) = fold_more t (add_opt (t k) x) (suc k) n ∙ ap (λ (i : ℕ). add_opt (t i) (fold_at t x (range k (suc n)))) (omega arith)

map_same : (f g : ℕ → Float) (k n : ℕ) → ((p : ℕ) → p < k + n → f p ≡ g p) → map f (range k n) ≡ map g (range k n)
map_same f g k zero h = refl
map_same f g k (suc n) h = λ i. h k (omega arith) i ∷ map_same f g (suc k) n (λ p l. h p (omega arith)) i

front : (n : ℕ) (s : List Float) → n ≤ length s → map (at s) (upto n) ≡ take n s
front n s h =
    ext_get_or nan (map (at s) (upto n)) (take n s) (table_length (at s) n ∙ sym (length-take-le n s h))
    (λ i l. let k : i < n = omega (arith, table_length (at s) n) in table_at (at s) n i k ∙ sym (get_or-take n s i nan k))

-- the first places written over with themselves
own : (n : ℕ) (s : List Float) → n ≤ length s → overwritten n (at s) s ≡ s
own n s h = ap (λ (l : List Float). l ++ drop n s) (front n s h) ∙ take-append-drop n s

-- ---- the reset, by std's `fill`
zeros_are : (k n : ℕ) → replicate n (zero_f false) ≡ map (λ p. zero_f false) (range k n)
zeros_are k zero = refl
zeros_are k (suc n) = ap (λ (l : List Float). zero_f false ∷ l) (zeros_are (suc k) n)

pub filled : (n : ℕ) (s q : List Float) → n ≤ length s → q ≡ replicate (length (take n s)) (zero_f false) → q ++ drop n s ≡ reset_pack n s
filled n s q h e = ap (λ (l : List Float). l ++ drop n s) (e ∙ ap (λ (k : ℕ). replicate k (zero_f false)) (length-take-le n s h) ∙ zeros_are 0 n)

-- ---- the merge, into the pack's part of a slice
pub merged_part : (n : ℕ) (s t q : List Float) → n ≤ length s → q ≡ merge_packs (length (take n s)) (take n s) t → q ++ drop n s ≡ merge_packs n s t
merged_part n s t q h e =
    let k : length (take n s) ≡ n = length-take-le n s h in
    let g : ℕ → Float = λ p. add binary64 (at (take n s) p) (at t p) in
    ap (λ (l : List Float). l ++ drop n s)
    (e
    ∙ (λ i. map g (upto (k i)) ++ drop (k i) (take n s))
    ∙ ap (λ (l : List Float). map g (upto n) ++ l) (drop_of_length-le (take n s) (omega arith))
    ∙ append-nil (map g (upto n))
    ∙ map_same g (λ p. add binary64 (at s p) (at t p)) 0 n (λ p b. let m : p < n = omega arith in ap (λ (x : Float). add binary64 x (at t p)) (get_or-take n s p nan m)))

-- with none or one, nothing changes
pub packs_few : (n packs : ℕ) (s : List Float) → packs * n ≤ length s → packs ≤ 1 → s ≡ consolidate_packs packs n s
packs_few n zero s k h = refl
packs_few n (suc zero) s k h = sym (own n s (omega arith))
packs_few n (suc (suc packs)) s k h = absurd (omega arith)

-- the fold at place p over packs 1, .., j
abbrev folded : ℕ → List Float → ℕ → ℕ → Float
folded n s j p = fold_at (λ i. Some (at s (i * n + p))) (at s p) (range 1 j)

-- what packs 0, .., j make
abbrev pub made : ℕ → List Float → ℕ → List Float
made n s j = map (folded n s j) (upto n)

-- what stands from pack j + 1 on
abbrev pub rest_from : ℕ → List Float → ℕ → List Float
rest_from n s j = drop (j * n) (drop n s)

pub made_none : (n packs : ℕ) (s q : List Float) → 0 < packs → packs * n ≤ length s → q ≡ take n s → q ≡ made n s 0
made_none n packs s q z h e = e ∙ sym (front n s (omega (arith, mul-le-mul_right n z)))

pub rest_whole : (n : ℕ) (s t r : List Float) → t ≡ drop n s → r ≡ t → r ≡ rest_from n s 0
rest_whole n s t r e f = f ∙ e ∙ ap (λ (k : ℕ). drop k (drop n s)) (sym (zero-mul n))

-- packs 0, .., j have been added; c packs are left to add
module _ (n packs j : ℕ) (s : List Float) (h : packs * n ≤ length s) where
  rest_length : length (rest_from n s j) ≡ length s - n - j * n
  rest_length = length-drop (j * n) (drop n s) ∙ ap (λ (k : ℕ). k - j * n) (length-drop n s)

  last : (c : ℕ) → c + suc j ≡ packs → (0 < c → length (rest_from n s j) < n) → packs ≡ suc j
  last zero e g = omega arith
  last (suc c) e g =
      let k : suc (suc j) ≤ packs = omega arith in
      absurd (omega (arith, rest_length, mul-le-mul_right n k, g (omega arith)))

  pub made_all : (c : ℕ) (q r : List Float) → c + suc j ≡ packs → (0 < c → length (rest_from n s j) < n) → q ≡ made n s j → r ≡ drop n s → q ++ r ≡ consolidate_packs packs n s
  made_all c q r b g e f = (λ i. e i ++ f i) ∙ sym (ap (λ (k : ℕ). consolidate_packs k n s) (last c b g))

  other_at : (p : ℕ) → p < n → at (take n (rest_from n s j)) p ≡ at s (suc j * n + p)
  other_at p g =
      get_or-take n (rest_from n s j) p nan g
      ∙ get_or-drop (j * n) (drop n s) p nan
      ∙ get_or-drop n s (j * n + p) nan
      ∙ ap (at s) (omega arith)

  -- a turn of the loop
  pub made_more : (q o r t : List Float) → q ≡ made n s j → r ≡ rest_from n s j → r ≡ o ++ t → length o ≡ n → merge_packs (length q) q o ≡ made n s (suc j)
  made_more q o r t e b c d =
      let k : length q ≡ n = ap length e ∙ table_length (folded n s j) n in
      let f : o ≡ take n (rest_from n s j) = sym (take_at o t n d) ∙ ap (take n) (sym c ∙ b) in
      let g : ℕ → Float = λ p. add binary64 (at q p) (at o p) in
      (λ i. map g (upto (k i)) ++ drop (k i) q)
      ∙ ap (λ (l : List Float). map g (upto n) ++ l) (drop_of_length-le q (omega arith))
      ∙ append-nil (map g (upto n))
      ∙ map_same g (folded n s (suc j)) 0 n (λ p b.
      let m : p < n = omega arith in
      (λ i. add binary64 ((ap (λ (l : List Float). at l p) e ∙ table_at (folded n s j) n p m) i) ((ap (λ (l : List Float). at l p) f ∙ other_at p m) i))
      ∙ ap (λ (i : ℕ). add binary64 (folded n s j p) (at s (i * n + p))) (omega arith)
      ∙ sym (fold_more (λ i. Some (at s (i * n + p))) (at s p) 1 j))

  pub rest_more : (o r t : List Float) → r ≡ rest_from n s j → r ≡ o ++ t → length o ≡ n → t ≡ rest_from n s (suc j)
  rest_more o r t b c d = sym (drop_at o t n d) ∙ ap (drop n) (sym c ∙ b) ∙ drop-drop n (j * n) (drop n s) ∙ ap (λ (m : ℕ). drop m (drop n s)) (omega arith)

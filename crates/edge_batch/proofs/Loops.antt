-- Loops over a batch, of which the first marks what the second has to find.
use mathlib.Core.Path.{◌≡◌, refl, sym, ap, subst, ◌∙◌}
use mathlib.Core.Logic.{⊎_elim}
use mathlib.Core.List.{List, [], ◌∷◌, ◌++◌, map}
use Prim.Native.Nat.{ℕ, suc, ◌+◌, ◌<◌, ◌≤◌, min}
use native.Mathlib.Numerals.{add-one}
use native.Mathlib.Nat.{eq-or-lt_of_le}
use native.Mathlib.Omega.{arith}
use lib.Bits.{bit_or, or_add_and, and_le_r, or_comm}
use lib.ListN.{length, get_or, set, take, drop}
use lib.Seq.{drop-cons, drop-set-lt, append_snoc, take-suc-set, set-get_or, get_or-set_same, get_or-set_other}
use Rattle.std.proofs.lemmas.List.{length-drop, take-append-drop}
use lib.Ieee.{Float, nan}
use Rattle.definitions.specs.Lists.{at}
use Rattle.edge_batch.specs.Batch.{each}

-- ---- each number made anew of its value and itself
pub each_after : (f : Float → ℕ → ℕ) (g : Float → ℕ) (x : List Float) (l : List ℕ) → each f x (each (λ v n. g v) x l) ≡ each (λ v n. f v (g v)) x l
unfolding each
each_after f g [] l = refl
each_after f g (v ∷ x) [] = refl
each_after f g (v ∷ x) (n ∷ l) = λ i. f v (g v) ∷ each_after f g x l i

-- of the value alone
pub each_value : (f : Float → ℕ) (x : List Float) (l : List ℕ) → length l ≡ length x → each (λ v n. f v) x l ≡ map f x
unfolding each
each_value f [] [] h = refl
each_value f [] (n ∷ l) h = absurd (omega arith)
each_value f (v ∷ x) [] h = absurd (omega arith)
each_value f (v ∷ x) (n ∷ l) h = λ i. f v ∷ each_value f x l (omega arith) i

module _ (f : Float → ℕ → ℕ) where
  each_cons : (v : Float) (n : ℕ) (x : List Float) (l : List ℕ) → each f (v ∷ x) (n ∷ l) ≡ f v n ∷ each f x l
  unfolding each
  each_cons v n x l = refl

  each_end : (x : List Float) (l : List ℕ) → min (length x) (length l) ≤ 0 → each f x l ≡ l
  unfolding each
  each_end [] l h = refl
  each_end (v ∷ x) [] h = refl
  each_end (v ∷ x) (n ∷ l) h = absurd (omega (arith, h))

  -- q are done, and the rest is as it was
  abbrev pub Done : List Float → List ℕ → ℕ → List ℕ → Type 0
  Done x before q l = each f x before ≡ take q l ++ each f (drop q x) (drop q l)

  pub each_start : (x : List Float) (l : List ℕ) → Done x l 0 l
  each_start x l = refl

  module _ (x : List Float) (before : List ℕ) (q : ℕ) (l : List ℕ) (d : Done x before q l) where
    pub each_set : (v : ℕ) → q < length x → q < length l → v ≡ f (at x q) (get_or l q 0) → Done x before (q + 1) (set l q v)
    each_set v h k w =
        let r = each f (drop (suc q) x) (drop (suc q) l) in
        d ∙ (λ i. take q l ++ each f (drop-cons x q nan h i) (drop-cons l q 0 k i)) ∙ ap (λ (k : List ℕ). take q l ++ k) (each_cons _ _ _ _)
        ∙ ap (λ (b : ℕ). take q l ++ b ∷ r) (sym w) ∙ sym (append_snoc (take q l) v r) ∙ ap (λ (k : List ℕ). k ++ r) (sym (take-suc-set l q v k))
        ∙ ap (λ (k : List ℕ). take (suc q) (set l q v) ++ each f (drop (suc q) x) k) (sym (drop-set-lt (suc q) l q v (omega arith)))
        ∙ ap (λ (n : ℕ). take n (set l q v) ++ each f (drop n x) (drop n (set l q v))) (sym (add-one q))

    pub each_next : (k : List ℕ) (v : ℕ) → q < length x → q < length l → k ≡ set l q v → v ≡ f (at x q) (get_or l q 0) → Done x before (q + 1) k
    each_next k v h m z w = subst (Done x before (q + 1)) (sym z) (each_set v h m w)

    -- a number that stays
    pub each_kept : (k : List ℕ) → q < length x → q < length l → k ≡ l → get_or l q 0 ≡ f (at x q) (get_or l q 0) → Done x before (q + 1) k
    each_kept k h m z w = each_next k (get_or l q 0) h m (z ∙ sym (set-get_or l q 0)) w

    pub each_done : min (length x) (length l) ≤ q → l ≡ each f x before
    each_done h = sym (d ∙ ap (λ (k : List ℕ). take q l ++ k) (each_end (drop q x) (drop q l) (omega (arith, h, length-drop q x, length-drop q l))) ∙ take-append-drop q l)

-- ---- the bitwise or is at least each number so far
or_left : (a b : ℕ) → a ≤ bit_or a b
or_left a b = omega (arith, or_add_and a b, and_le_r a b)

or_right : (a b : ℕ) → b ≤ bit_or a b
or_right a b = omega (arith, or_left b a, or_comm a b)

pub most_next : (l : List ℕ) (q v m : ℕ) → q < length l → ((i : ℕ) → i < q → get_or l i 0 ≤ m) → (i : ℕ) → i < q + 1 → get_or (set l q v) i 0 ≤ bit_or m v
most_next l q v m k h i w =
    ⊎_elim (λ (e : i ≡ q). omega (arith, or_right m v, ap (λ (n : ℕ). get_or (set l q v) n 0) e ∙ get_or-set_same l q v 0 (omega arith))) (λ (s : i < q). omega (arith, or_left m v, h i s, get_or-set_other l q i v 0 (λ (e : i ≡ q). omega (arith, s, e))))
    (eq-or-lt_of_le (omega arith))

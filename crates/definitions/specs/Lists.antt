-- Words about lists that the definitions share. Definitions only.
use Rattle.std.specs.Prelude.{Option, None, Some}
use Rattle.std.specs.Prelude.{List, [], ◌∷◌, ◌++◌, map, ℕ, zero, suc, ◌+◌, max, length, get_or, drop, ℤ, pos, ◌+ℤ◌, Float}
use Rattle.std.specs.Float.{nan, binary64}
use Rattle.std.specs.Float.Ieee.{add}

-- the number at place i
abbrev pub at : List Float → ℕ → Float
at l i = get_or l i nan

-- k, k + 1, .., n numbers in all
abbrev pub range : ℕ → ℕ → List ℕ
range k zero = []
range k (suc n) = k ∷ range (suc k) n

abbrev pub upto : ℕ → List ℕ
upto n = range 0 n

-- f of 0, .., n - 1 stands in the first n places; the tail is not touched
abbrev pub overwritten : ℕ → (ℕ → Float) → List Float → List Float
overwritten n f s = map f (upto n) ++ drop n s

-- x with what is given added to it, if anything is
abbrev pub add_opt : Option Float → Float → Float
add_opt None x = x
add_opt (Some y) x = add binary64 x y

module _ {A B : Type 0} where
  abbrev pub flat_map : (A → List B) → List A → List B
  flat_map g [] = []
  flat_map g (x ∷ xs) = g x ++ flat_map g xs

module _ {A : Type 0} where
  -- P holds of each element
  abbrev pub All : (A → Type 0) → List A → Type 0
  All P [] = Unit {0}
  All P (x ∷ xs) = P x × All P xs

  -- first ascending, second ascending within it; auto pairs only a later second
  abbrev pub later_pairs : List A → List (A × A)
  later_pairs [] = []
  later_pairs (a ∷ l) = map (λ b. (a, b)) l ++ later_pairs l

  abbrev pub all_pairs : List A → List A → List (A × A)
  all_pairs l m = flat_map (λ a. map (λ b. (a, b)) m) l

  -- to x is added, in the list's order, what t gives for each element
  abbrev pub fold_at : (A → Option Float) → Float → List A → Float
  fold_at t x [] = x
  fold_at t x (a ∷ l) = fold_at t (add_opt (t a) x) l

  -- ---- whole-number sums
  abbrev pub sum_by : (A → ℤ) → List A → ℤ
  sum_by f [] = pos 0
  sum_by f (x ∷ xs) = f x +ℤ sum_by f xs

  -- every element with every later one
  abbrev pub pair_sum : (A → A → ℤ) → List A → ℤ
  pair_sum f [] = pos 0
  pair_sum f (x ∷ xs) = sum_by (f x) xs +ℤ pair_sum f xs

  -- the largest of the numbers f gives, 0 for no element
  abbrev pub largest : (A → ℕ) → List A → ℕ
  largest f [] = 0
  largest f (a ∷ l) = max (f a) (largest f l)

  -- how many pairs of an element with a later one there are
  abbrev pub later_count : List A → ℕ
  later_count [] = 0
  later_count (a ∷ l) = length l + later_count l

module _ {A B : Type 0} where
  -- every element of l with every element of m
  abbrev pub cross_sum : (A → B → ℤ) → List A → List B → ℤ
  cross_sum f l m = sum_by (λ a. sum_by (λ b. f a b) m) l

-- Sums of whole numbers. `sum_by f l` over a list and `sum_n n f` over 0, .. n - 1; they add, swap and re-bracket, and a list's order does not matter (`List.Permᴰ`).
-- `pair_sum f l`: every element with every later one. For a symmetric f the order of the list does not matter either. Assumes nothing.
use mathlib.Core.Path.{◌≡◌, refl, sym, ap, ◌∙◌, fun_ext}
use mathlib.Core.List.{List, [], ◌∷◌, ◌++◌, map, Permᴰ}
use Prim.Native.Nat.{ℕ, zero, suc, ◌+◌, ◌*◌, ◌≤◌, ◌<◌, zero-le}
use native.Mathlib.Nat.{suc-mul, add-zero, zero-add}
use native.Mathlib.Omega.{arith}
use lib.ListN.{length}
use lib.IntN.{ℤ, pos, nat_abs, ◌+ℤ◌, +ℤ_idl, +ℤ_idr, +ℤ_assoc}
use Rattle.definitions.specs.Lists.{range, upto, flat_map, All, later_pairs, all_pairs, sum_by, pair_sum, cross_sum}
use Rattle.laws.proofs.Lists.{on, with, upto_all, range_suc, range_add}
use Rattle.laws.proofs.Integers.{swap4, sums, abs_add, +ℤ-left-comm}

abbrev pub O : ℤ
O = pos 0

-- ---- over a list
module _ {A : Type 0} where
  abbrev pub nat_sum : (A → ℕ) → List A → ℕ
  nat_sum f [] = 0
  nat_sum f (x ∷ xs) = f x + nat_sum f xs

  -- the sizes of what is summed
  abbrev pub size_by : (A → ℤ) → List A → ℕ
  size_by f l = nat_sum (λ x. nat_abs (f x)) l

  pub sum_by_size : (f : A → ℤ) (l : List A) → nat_abs (sum_by f l) ≤ size_by f l
  sum_by_size f [] = zero-le
  sum_by_size f (x ∷ xs) = omega (arith, abs_add (f x) (sum_by f xs), sum_by_size f xs)

  pub nat_sum_le : (f g : A → ℕ) → ((x : A) → f x ≤ g x) → (l : List A) → nat_sum f l ≤ nat_sum g l
  nat_sum_le f g h [] = zero-le
  nat_sum_le f g h (x ∷ xs) = omega (arith, h x, nat_sum_le f g h xs)

  -- at most c times the number of terms
  pub nat_sum_most : (f : A → ℕ) (c : ℕ) (l : List A) → All (λ x. f x ≤ c) l → nat_sum f l ≤ length l * c
  nat_sum_most f c [] h = zero-le
  nat_sum_most f c (x ∷ xs) h = omega (arith, suc-mul (length xs) c, h.0, nat_sum_most f c xs h.1)

  pub nat_sum_pos : (f : A → ℕ) (l : List A) → sum_by (λ x. pos (f x)) l ≡ pos (nat_sum f l)
  nat_sum_pos f [] = refl
  nat_sum_pos f (x ∷ xs) = ap (λ (k : ℤ). pos (f x) +ℤ k) (nat_sum_pos f xs)

  pub sum_by_all : (f g : A → ℤ) (l : List A) → All (λ x. f x ≡ g x) l → sum_by f l ≡ sum_by g l
  sum_by_all f g [] h = refl
  sum_by_all f g (x ∷ xs) h = λ i. h.0 i +ℤ sum_by_all f g xs h.1 i

  pub sum_by_congr : (f g : A → ℤ) → ((x : A) → f x ≡ g x) → (l : List A) → sum_by f l ≡ sum_by g l
  sum_by_congr f g h l = ap (λ (k : A → ℤ). sum_by k l) (fun_ext h)

  pub sum_by_append : (f : A → ℤ) (l m : List A) → sum_by f (l ++ m) ≡ sum_by f l +ℤ sum_by f m
  sum_by_append f [] m = sym (+ℤ_idl (sum_by f m))
  sum_by_append f (x ∷ xs) m = ap (λ (k : ℤ). f x +ℤ k) (sum_by_append f xs m) ∙ sym (+ℤ_assoc (f x) (sum_by f xs) (sum_by f m))

  pub sum_by_zero : (l : List A) → sum_by (λ x. O) l ≡ O
  sum_by_zero [] = refl
  sum_by_zero (x ∷ xs) = +ℤ_idl (sum_by (λ x. O) xs) ∙ sum_by_zero xs

  pub sum_by_add : (f g : A → ℤ) (l : List A) → sum_by (λ x. f x +ℤ g x) l ≡ sum_by f l +ℤ sum_by g l
  sum_by_add f g [] = refl
  sum_by_add f g (x ∷ xs) = ap (λ (k : ℤ). f x +ℤ g x +ℤ k) (sum_by_add f g xs) ∙ swap4 (f x) (g x) (sum_by f xs) (sum_by g xs)

  pub sum_by_perm : (f : A → ℤ) {l m : List A} → Permᴰ l m → sum_by f l ≡ sum_by f m
  sum_by_perm f Permᴰ.nil = refl
  sum_by_perm f (Permᴰ.cons {a = a} {b = b} {l₁ = l} {l₂ = m} e d) = ap (λ (x : A). f x +ℤ sum_by f l) e ∙ ap (λ (k : ℤ). f b +ℤ k) (sum_by_perm f d)
  sum_by_perm f (Permᴰ.swap {a = a} {b = b} {a' = c} {b' = d} {l = l} e h) =
      ap (λ (x : A). f x +ℤ (f b +ℤ sum_by f l)) e ∙ ap (λ (x : A). f d +ℤ (f x +ℤ sum_by f l)) h ∙ +ℤ-left-comm (f d) (f c) (sum_by f l)
  sum_by_perm f (Permᴰ.trans d e) = sum_by_perm f d ∙ sum_by_perm f e

  -- ---- every element with every later one
  pub pair_sum_perm : (f : A → A → ℤ) → ((x y : A) → f x y ≡ f y x) → {l m : List A} → Permᴰ l m → pair_sum f l ≡ pair_sum f m
  pair_sum_perm f s Permᴰ.nil = refl
  pair_sum_perm f s (Permᴰ.cons {a = a} {b = b} {l₁ = l} {l₂ = m} e d) =
      ap (λ (x : A). sum_by (f x) l +ℤ pair_sum f l) e ∙ ap (λ (k : ℤ). k +ℤ pair_sum f l) (sum_by_perm (f b) d) ∙ ap (λ (k : ℤ). sum_by (f b) m +ℤ k) (pair_sum_perm f s d)
  pair_sum_perm f s (Permᴰ.swap {a = a} {b = b} {a' = c} {b' = d} {l = l} e h) =
      ap (λ (x : A). f x b +ℤ sum_by (f x) l +ℤ (sum_by (f b) l +ℤ pair_sum f l)) e
      ∙ ap (λ (x : A). f d x +ℤ sum_by (f d) l +ℤ (sum_by (f x) l +ℤ pair_sum f l)) h
      ∙ ap (λ (k : ℤ). k +ℤ sum_by (f d) l +ℤ (sum_by (f c) l +ℤ pair_sum f l)) (s d c)
      ∙ turn (f c d) (sum_by (f d) l) (sum_by (f c) l) (pair_sum f l)
    where
      turn : (p q r t : ℤ) → p +ℤ q +ℤ (r +ℤ t) ≡ p +ℤ r +ℤ (q +ℤ t)
      turn p q r t = swap4 p q r t
  pair_sum_perm f s (Permᴰ.trans d e) = pair_sum_perm f s d ∙ pair_sum_perm f s e

-- a list cut in two: the pairs within each part, and those across
module _ {A : Type 0} where
  pub pair_sum_append : (f : A → A → ℤ) (l m : List A) → pair_sum f (l ++ m) ≡ pair_sum f l +ℤ (pair_sum f m +ℤ sum_by (λ a. sum_by (λ b. f a b) m) l)
  pair_sum_append f [] m = sym (+ℤ_idl (pair_sum f m +ℤ O) ∙ +ℤ_idr (pair_sum f m))
  pair_sum_append f (x ∷ l) m =
      ap (λ (s : ℤ). s +ℤ pair_sum f (l ++ m)) (sum_by_append (f x) l m) ∙ ap (λ (s : ℤ). sum_by (f x) l +ℤ sum_by (f x) m +ℤ s) (pair_sum_append f l m)
      ∙ turn (sum_by (f x) l) (sum_by (f x) m) (pair_sum f l) (pair_sum f m) (sum_by (λ a. sum_by (λ b. f a b) m) l)
    where
      turn : (a b c d e : ℤ) → a +ℤ b +ℤ (c +ℤ (d +ℤ e)) ≡ a +ℤ c +ℤ (d +ℤ (b +ℤ e))
      turn a b c d e = simp sums

-- ---- two lists
module _ {A B : Type 0} where
  pub sum_by_map : (g : B → A) (f : A → ℤ) (l : List B) → sum_by f (map g l) ≡ sum_by (λ x. f (g x)) l
  sum_by_map g f [] = refl
  sum_by_map g f (x ∷ xs) = ap (λ (k : ℤ). f (g x) +ℤ k) (sum_by_map g f xs)

  pub nat_sum_map : (g : B → A) (f : A → ℕ) (l : List B) → nat_sum f (map g l) ≡ nat_sum (λ x. f (g x)) l
  nat_sum_map g f [] = refl
  nat_sum_map g f (x ∷ xs) = ap (λ (k : ℕ). f (g x) + k) (nat_sum_map g f xs)

  pub sum_by_swap : (f : A → B → ℤ) (l : List A) (m : List B) → sum_by (λ a. sum_by (λ b. f a b) m) l ≡ sum_by (λ b. sum_by (λ a. f a b) l) m
  sum_by_swap f [] m = sym (sum_by_zero m)
  sum_by_swap f (x ∷ xs) m = ap (λ (k : ℤ). sum_by (f x) m +ℤ k) (sum_by_swap f xs m) ∙ sym (sum_by_add (f x) (λ b. sum_by (λ a. f a b) xs) m)

  -- cross: each set in another order by itself
  pub cross_sum_perm : (f : A → B → ℤ) {l l' : List A} {m m' : List B} → Permᴰ l l' → Permᴰ m m' → cross_sum f l m ≡ cross_sum f l' m'
  cross_sum_perm f {l} {l'} {m} {m'} p q =
      sum_by_perm (λ a. sum_by (λ b. f a b) m) p ∙ sum_by_congr (λ a. sum_by (λ b. f a b) m) (λ a. sum_by (λ b. f a b) m') (λ a. sum_by_perm (f a) q) l'

  -- re-bracketing: a list of lists
  pub sum_by_flat_map : (f : B → ℤ) (g : A → List B) (l : List A) → sum_by f (flat_map g l) ≡ sum_by (λ a. sum_by f (g a)) l
  sum_by_flat_map f g [] = refl
  sum_by_flat_map f g (x ∷ xs) = sum_by_append f (g x) (flat_map g xs) ∙ ap (λ (k : ℤ). sum_by f (g x) +ℤ k) (sum_by_flat_map f g xs)

-- ---- over the pairs of a list
module _ {A : Type 0} where
  pub later_sum : (f : A → A → ℤ) (l : List A) → sum_by (on f) (later_pairs l) ≡ pair_sum f l
  later_sum f [] = refl
  later_sum f (a ∷ l) = sum_by_append (on f) (map (with a) l) (later_pairs l) ∙ (λ i. sum_by_map (with a) (on f) l i +ℤ later_sum f l i)

  pub cross_sum_law : (f : A → A → ℤ) (l m : List A) → sum_by (on f) (all_pairs l m) ≡ cross_sum f l m
  cross_sum_law f l m = sum_by_flat_map (on f) (λ a. map (with a) m) l ∙ sum_by_congr (λ a. sum_by (on f) (map (with a) m)) (λ a. sum_by (f a) m) (λ a. sum_by_map (with a) (on f) m) l

-- ---- over 0, .. n - 1
abbrev pub sum_n : ℕ → (ℕ → ℤ) → ℤ
sum_n n f = sum_by f (upto n)

pub sum_n_congr : (n : ℕ) (f g : ℕ → ℤ) → ((i : ℕ) → i < n → f i ≡ g i) → sum_n n f ≡ sum_n n g
sum_n_congr n f g h = sum_by_all f g (upto n) (upto_all (λ i. f i ≡ g i) n h)

-- from k on
pub sum_by_range : (k n : ℕ) (f : ℕ → ℤ) → sum_by f (range k n) ≡ sum_n n (λ i. f (k + i))
sum_by_range zero n f = sum_n_congr n f (λ i. f (0 + i)) (λ i h. ap f (sym (zero-add i)))
sum_by_range (suc k) n f =
    ap (sum_by f) (range_suc k n) ∙ sum_by_map suc f (range k n) ∙ sum_by_range k n (λ i. f (suc i))
    ∙ sum_n_congr n (λ i. f (suc (k + i))) (λ i. f (suc k + i)) (λ i h. ap f (omega arith))

-- the first and the last term by themselves
pub sum_n_first : (n : ℕ) (f : ℕ → ℤ) → sum_n (suc n) f ≡ f 0 +ℤ sum_n n (λ i. f (suc i))
sum_n_first n f = ap (λ (s : ℤ). f 0 +ℤ s) (ap (sum_by f) (range_suc 0 n) ∙ sum_by_map suc f (upto n))

pub sum_n_split : (n m : ℕ) (f : ℕ → ℤ) → sum_n (n + m) f ≡ sum_n n f +ℤ sum_n m (λ i. f (n + i))
sum_n_split n m f = ap (sum_by f) (range_add 0 n m ∙ ap (λ (k : ℕ). upto n ++ range k m) (zero-add n)) ∙ sum_by_append f (upto n) (range n m) ∙ ap (λ (s : ℤ). sum_n n f +ℤ s) (sum_by_range n m f)

pub sum_n_last : (n : ℕ) (f : ℕ → ℤ) → sum_n (suc n) f ≡ sum_n n f +ℤ f n
sum_n_last n f = let e : suc n ≡ n + 1 = omega arith in ap (λ (k : ℕ). sum_n k f) e ∙ sum_n_split n 1 f ∙ ap (λ (s : ℤ). sum_n n f +ℤ s) (+ℤ_idr (f (n + 0)) ∙ ap f (add-zero n))

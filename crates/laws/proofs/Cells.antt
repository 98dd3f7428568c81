-- A block's cells, listed in the order z, y, x. Block sums as sums over the pairs of listed cells: cross, every cell of a with every cell of b; auto, every cell with every later one.
-- `grid_cross` and `grid_auto` are what demand 3 wants of the offsets' order. Assumes nothing.
use mathlib.Core.Path.{◌≡◌, refl, sym, ap, ◌∙◌}
use mathlib.Core.List.{List, [], ◌∷◌, ◌++◌, map}
use mathlib.Core.Bool.{Bool, true, false}
use Prim.Native.Nat.{ℕ, zero, suc, ◌<◌}
use native.Mathlib.Nat.{le_of_lt, le_refl}
use native.Mathlib.Omega.{arith}
use lib.Dec.{ltb}
use borrow.Author.Tests.{lt-ltb, le-ltb, eq-eqb, ne_eqb}
use lib.IntN.{ℤ, ◌+ℤ◌, +ℤ_idl}
use Rattle.definitions.specs.Lists.{range, upto, flat_map, All, sum_by, pair_sum, cross_sum}
use Rattle.definitions.specs.Blocks.{Cell, cell, row, plane, cells, after}
use Rattle.definitions.specs.Survey.{when_z}
use Rattle.laws.proofs.Lists.{all_imp, append_all, map_all, flat_all, range_all, upto_all}
use Rattle.laws.proofs.Sums.{O, sum_by_all, sum_by_map, sum_by_zero, sum_by_add, sum_by_flat_map, sum_n}
use Rattle.laws.proofs.Grid.{Six, over3, diag3, all3, before, grid3, grid3_auto}

sum_cells : (Lz Ly Lx : ℕ) (g : Cell → ℤ) → sum_by g (cells Lz Ly Lx) ≡ sum_n Lz (λ z. sum_n Ly (λ y. sum_n Lx (λ x. g (cell z y x))))
sum_cells Lz Ly Lx g =
    sum_by_flat_map g (plane Ly Lx) (upto Lz)
    ∙ (λ i. sum_n Lz (λ z. (sum_by_flat_map g (row Lx z) (upto Ly) ∙ (λ j. sum_n Ly (λ y. sum_by_map (cell z y) g (upto Lx) j))) i))

abbrev pub six : (Cell → Cell → ℤ) → Six
six f z y x w v u = f (cell z y x) (cell w v u)

cross_cells : (Lz Ly Lx Mz My Mx : ℕ) (f : Cell → Cell → ℤ) → cross_sum f (cells Lz Ly Lx) (cells Mz My Mx) ≡ all3 Lz Ly Lx Mz My Mx (six f)
cross_cells Lz Ly Lx Mz My Mx f =
    sum_cells Lz Ly Lx (λ a. sum_by (f a) (cells Mz My Mx)) ∙ (λ i. sum_n Lz (λ z. sum_n Ly (λ y. sum_n Lx (λ x. sum_cells Mz My Mx (f (cell z y x)) i))))

-- ---- a list in a strict order: a pair of elements, the first before the second in the order, is an element with a later one
module _ {A : Type 0} (lt : A → A → Bool) where
  abbrev pub Ordered : A → A → Type 0
  Ordered a b = (lt a b ≡ true) × (lt b a ≡ false)

  abbrev pub Sorted : List A → Type 0
  Sorted [] = Unit {0}
  Sorted (a ∷ l) = (lt a a ≡ false) × All (Ordered a) l × Sorted l

  module _ (f : A → A → ℤ) where
    abbrev guarded : A → A → ℤ
    guarded a b = when_z (lt a b) (f a b)

    when_is : (a b : A) (t : Bool) → lt a b ≡ t → guarded a b ≡ when_z t (f a b)
    when_is a b t e = ap (λ (t : Bool). when_z t (f a b)) e

    pub sorted_pairs : (l : List A) → Sorted l → pair_sum f l ≡ cross_sum guarded l l
    sorted_pairs [] s = refl
    sorted_pairs (a ∷ l) s =
        let row : sum_by (guarded a) l ≡ sum_by (f a) l = sum_by_all (guarded a) (f a) l (all_imp (Ordered a) (λ b. guarded a b ≡ f a b) (λ b h. when_is a b true h.0) l s.1) in
        let col : sum_by (λ b. guarded b a) l ≡ O =
        sum_by_all (λ b. guarded b a) (λ b. O) l (all_imp (Ordered a) (λ b. guarded b a ≡ O) (λ b h. when_is b a false h.1) l s.1) ∙ sum_by_zero l in
        sym ((λ i. (when_is a a false s.0 i +ℤ row i) +ℤ (sum_by_add (λ b. guarded b a) (λ b. sum_by (guarded b) l) l ∙ (λ j. col j +ℤ sym (sorted_pairs l s.2) j)) i)
        ∙ (λ i. +ℤ_idl (sum_by (f a) l) i +ℤ +ℤ_idl (pair_sum f l) i))

  sorted_append : (l m : List A) → Sorted l → Sorted m → All (λ a. All (Ordered a) m) l → Sorted (l ++ m)
  sorted_append [] m s t h = t
  sorted_append (a ∷ l) m s t h = (s.0, append_all (Ordered a) l m s.1 h.0, sorted_append l m s.2 t h.1)

  -- rows of sorted rows
  sorted_rows : (g : ℕ → List A) → ((i : ℕ) → Sorted (g i)) → ((i : ℕ) → All (λ a. (j : ℕ) → i < j → All (Ordered a) (g j)) (g i)) → (k n : ℕ) → Sorted (flat_map g (range k n))
  sorted_rows g s h k zero = tt
  sorted_rows g s h k (suc n) =
      sorted_append (g k) (flat_map g (range (suc k) n)) (s k) (sorted_rows g s h (suc k) n)
      (all_imp (λ a. (j : ℕ) → k < j → All (Ordered a) (g j)) (λ a. All (Ordered a) (flat_map g (range (suc k) n)))
      (λ a f. flat_all (Ordered a) g (range (suc k) n) (range_all (λ j. All (Ordered a) (g j)) (suc k) n (λ j p q. f j p))) (g k) (h k))

-- ---- the cells are in the order z, y, x
abbrev pub before_c : Cell → Cell → Bool
before_c a b = before a.z a.y a.x b.z b.y b.x

not_below : (a : ℕ) → ltb a a ≡ false
not_below a = le-ltb a a (le_refl a)

by_z : (z y x w v u : ℕ) → z < w → Ordered before_c (cell z y x) (cell w v u)
by_z z y x w v u h = (rw (lt-ltb z w h), rw (le-ltb w z (le_of_lt h), ne_eqb w z (λ e. omega arith)))

by_y : (z y x v u : ℕ) → y < v → Ordered before_c (cell z y x) (cell z v u)
by_y z y x v u h = (rw (not_below z, eq-eqb z z refl, lt-ltb y v h), rw (not_below z, eq-eqb z z refl, le-ltb v y (le_of_lt h), ne_eqb v y (λ e. omega arith)))

by_x : (z y x u : ℕ) → x < u → Ordered before_c (cell z y x) (cell z y u)
by_x z y x u h = (rw (not_below z, eq-eqb z z refl, not_below y, eq-eqb y y refl, lt-ltb x u h), rw (not_below z, eq-eqb z z refl, not_below y, eq-eqb y y refl, le-ltb u x (le_of_lt h)))

-- all of a row or a plane, by the form of its cells
row_all : (P : Cell → Type 0) (nx z y : ℕ) → ((x : ℕ) → P (cell z y x)) → All P (row nx z y)
row_all P nx z y h = map_all P (cell z y) (upto nx) (upto_all (λ x. P (cell z y x)) nx (λ x l. h x))

plane_all : (P : Cell → Type 0) (ny nx z : ℕ) → ((y x : ℕ) → P (cell z y x)) → All P (plane ny nx z)
plane_all P ny nx z h = flat_all P (row nx z) (upto ny) (upto_all (λ y. All P (row nx z y)) ny (λ y l. row_all P nx z y (h y)))

sorted_row : (z y k n : ℕ) → Sorted before_c (map (cell z y) (range k n))
sorted_row z y k zero = tt
sorted_row z y k (suc n) = (
  rw (not_below z, eq-eqb z z refl, not_below y, eq-eqb y y refl, not_below k),
  map_all (Ordered before_c (cell z y k)) (cell z y) (range (suc k) n) (range_all (λ u. Ordered before_c (cell z y k) (cell z y u)) (suc k) n (λ u p q. by_x z y k u p)),
  sorted_row z y (suc k) n,
)

sorted_plane : (ny nx z : ℕ) → Sorted before_c (plane ny nx z)
sorted_plane ny nx z = sorted_rows before_c (row nx z) (λ y. sorted_row z y 0 nx)
    (λ y. row_all (λ a. (v : ℕ) → y < v → All (Ordered before_c a) (row nx z v)) nx z y (λ x v h. row_all (Ordered before_c (cell z y x)) nx z v (λ u. by_y z y x v u h))) 0 ny

sorted_cells : (nz ny nx : ℕ) → Sorted before_c (cells nz ny nx)
sorted_cells nz ny nx = sorted_rows before_c (plane ny nx) (sorted_plane ny nx)
    (λ z. plane_all (λ a. (w : ℕ) → z < w → All (Ordered before_c a) (plane ny nx w)) ny nx z (λ y x w h. plane_all (Ordered before_c (cell z y x)) ny nx w (λ v u. by_z z y x w v u h))) 0 nz

-- ---- what a run over blocks sums is what the book sums
pub grid_cross : (Lz Ly Lx Mz My Mx : ℕ) (f : Cell → Cell → ℤ) → 0 < Lz → 0 < Ly → 0 < Lx
    → over3 Lz Ly Lx Mz My Mx (λ dz dy dx. diag3 Lz Ly Lx Mz My Mx dz dy dx (six f)) ≡ cross_sum f (cells Lz Ly Lx) (cells Mz My Mx)
grid_cross Lz Ly Lx Mz My Mx f hz hy hx = grid3 Lz Ly Lx Mz My Mx (six f) hz hy hx ∙ sym (cross_cells Lz Ly Lx Mz My Mx f)

pub grid_auto : (Lz Ly Lx : ℕ) (f : Cell → Cell → ℤ) → 0 < Lz → 0 < Ly → 0 < Lx
    → over3 Lz Ly Lx Lz Ly Lx (λ dz dy dx. when_z (after dz dy dx) (diag3 Lz Ly Lx Lz Ly Lx dz dy dx (six f))) ≡ pair_sum f (cells Lz Ly Lx)
grid_auto Lz Ly Lx f hz hy hx =
    grid3_auto Lz Ly Lx Lz Ly Lx (six f) hz hy hx
    ∙ sym (cross_cells Lz Ly Lx Lz Ly Lx (λ a b. when_z (before_c a b) (f a b)))
    ∙ sym (sorted_pairs before_c f (cells Lz Ly Lx) (sorted_cells Lz Ly Lx))

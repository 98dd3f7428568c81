-- Pairs, and the loops over them, turn by turn.
use mathlib.Core.Path.{◌≡◌, refl, sym, ap, subst, ◌∙◌}
use mathlib.Core.List.{List}
use Prim.Native.Nat.{ℕ, zero, suc, ◌+◌, ◌-◌, ◌<◌, ◌≤◌}
use native.Mathlib.Nat.{sub-zero}
use native.Mathlib.Numerals.{add-one}
use native.Mathlib.Omega.{arith}
use lib.Ieee.{Float}
use Rattle.definitions.specs.Points as points
use Rattle.laws.proofs.Places.{row_left, cross_left, auto_left, row_is, cross_is, auto_is}
use Rattle.parallel_serial.specs.declared.Setup.{Setup}
use Rattle.parallel_serial.specs.declared.Sets.{Sets}
use Rattle.parallel_serial.specs.declared.Sets.TheVariants.{Auto, Cross}
use Rattle.parallel_serial.specs.Sets.{first_of, second_of}
use Rattle.unstructured.specs.declared.held.Points.{Points}
use Rattle.unstructured.specs.Pairs.{point_in, points_in, first_partner, pair_step, row_added, filled, row_from, run_filled}

-- ---- one row
module _ (setup : Setup) (a : points.Point) (g : ℕ → points.Point) (n : ℕ) (z : List Float) where
  pub row_done : (j : ℕ) (s : List Float) → n ≤ j → row_added setup a g j (n - j) s ≡ z → s ≡ z
  unfolding row_added
  row_done j s h inv =
      let m : n - j ≡ 0 = omega arith in
      rw m at inv

-- ---- all rows: what is left of the loop, from first point i on for n turns; the row of i starts at start i, and the second set has m points
module _ (setup : Setup) where
  module _ (start : ℕ → ℕ) (g h : ℕ → points.Point) (m : ℕ) where
    unfoldable pub fill_left : ℕ → ℕ → List Float → List Float
    fill_left i zero s = s
    fill_left i (suc n) s = fill_left (suc i) n (row_added setup (g i) h (start i) (m - start i) s)

    module _ (n : ℕ) (z : List Float) where
      fill_turn : (i : ℕ) (a : points.Point) (from : ℕ) (s q : List Float) → i < n → a ≡ g i → from ≡ start i → q ≡ row_added setup a h from (m - from) s → fill_left i (n - i) s ≡ z
          → fill_left (i + 1) (n - (i + 1)) q ≡ z
      unfolding fill_left
      fill_turn i a from s q l e f k inv =
          let d : n - i ≡ suc (n - (i + 1)) = omega arith in
          (rw (add-one i, k, e, f)) ∙ (rw (d, add-one i) at inv)

      fill_done : (i : ℕ) (s : List Float) → n ≤ i → fill_left i (n - i) s ≡ z → s ≡ z
      unfolding fill_left
      fill_done i s l inv =
          let d : n - i ≡ 0 = omega arith in
          rw d at inv

  row_left_law : (g h : ℕ → points.Point) (i k n : ℕ) (s : List Float) → row_added setup (g i) h k n s ≡ row_left (pair_step setup) g h i k n s
  unfolding row_added
  row_left_law g h i k n s = sym (row_is (pair_step setup) g h i k n s)

  cross_left_law : (g h : ℕ → points.Point) (m i n : ℕ) (s : List Float) → fill_left (λ _. 0) g h m i n s ≡ cross_left (pair_step setup) g h i n m s
  unfolding fill_left
  cross_left_law g h m i zero s = refl
  cross_left_law g h m i (suc n) s =
      cross_left_law g h m (suc i) n _ ∙ ap (cross_left (pair_step setup) g h (suc i) n m) (ap (λ (k : ℕ). row_added setup (g i) h 0 k s) (sub-zero m) ∙ row_left_law g h i 0 m s)

  auto_left_law : (g : ℕ → points.Point) (m i n : ℕ) (s : List Float) → m ≡ i + n → fill_left (λ k. k + 1) g g m i n s ≡ auto_left (pair_step setup) g i n s
  unfolding fill_left
  auto_left_law g m i zero s e = refl
  auto_left_law g m i (suc n) s e =
      let k : m - (i + 1) ≡ n = omega arith in
      auto_left_law g m (suc i) n _ (omega arith) ∙ ap (auto_left (pair_step setup) g (suc i) n) ((rw (k, add-one i)) ∙ row_left_law g g i (suc i) n s)

-- ---- the same of a run's sets
module _ (setup : Setup) (sets : Sets Points) where
  -- from first point i on
  abbrev pub rows_left : ℕ → List Float → List Float
  rows_left i s = fill_left setup (first_partner sets) (point_in (first_of sets)) (point_in (second_of sets)) (second_of sets).n i ((first_of sets).n - i) s

  pub rows_start : (s : List Float) → rows_left 0 s ≡ run_filled setup sets s
  unfolding filled points_in
  rows_start s = go sets
    where
      go : (t : Sets Points) → fill_left setup (first_partner t) (point_in (first_of t)) (point_in (second_of t)) (second_of t).n 0 ((first_of t).n - 0) s ≡ run_filled setup t s
      go (Auto a) = (rw (sub-zero a.n)) ∙ auto_left_law setup (point_in a) a.n 0 a.n s (omega arith) ∙ auto_is (pair_step setup) (point_in a) 0 a.n s
      go (Cross a b) = (rw (sub-zero a.n)) ∙ cross_left_law setup (point_in a) (point_in b) b.n 0 a.n s ∙ cross_is (pair_step setup) (point_in a) (point_in b) 0 a.n b.n s

  -- first and second are what calls answered
  pub rows_turn : (first second : Points) (z : List Float) (i : ℕ) (a : points.Point) (from : ℕ) (s q : List Float) → first ≡ first_of sets → second ≡ second_of sets → i < first.n
      → a ≡ point_in first i → from ≡ first_partner sets i → q ≡ row_from setup a second from s → rows_left i s ≡ z → rows_left (i + 1) q ≡ z
  rows_turn first second z i a from s q e f l p r h inv =
      fill_turn setup (first_partner sets) (point_in (first_of sets)) (point_in (second_of sets)) (second_of sets).n (first_of sets).n z i a from s q
      (subst (λ (x : Points). i < x.n) e l) (p ∙ ap (λ (x : Points). point_in x i) e) r (h ∙ ap (λ (x : Points). row_from setup a x from s) f) inv

  pub rows_done : (first : Points) (z : List Float) (i : ℕ) (s : List Float) → first ≡ first_of sets → first.n ≤ i → rows_left i s ≡ z → s ≡ z
  rows_done first z i s e l inv =
      fill_done setup (first_partner sets) (point_in (first_of sets)) (point_in (second_of sets)) (second_of sets).n (first_of sets).n z i s
      (subst (λ (x : Points). x.n ≤ i) e l) inv

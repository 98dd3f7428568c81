-- The cells of an offset, turn by turn: what is left of a loop, run on the state as it is now, gives the loop's result. Assumes nothing.
use mathlib.Core.Path.{◌≡◌, sym, ap, ◌∙◌}
use mathlib.Core.List.{List}
use Prim.Native.Nat.{ℕ, zero, suc, ◌+◌, ◌-◌, ◌*◌, ◌<◌, ◌≤◌}
use native.Mathlib.Nat.{sub-zero, add-zero, zero-add, add-mul}
use native.Mathlib.Numerals.{add-one}
use native.Mathlib.Omega.{arith}
use lib.Ieee.{Float}
use Rattle.laws.specs.Loops.{loop_left}
use Rattle.parallel_serial.specs.declared.Setup.{Setup}
use Rattle.twopoint_cartesian.specs.Cells.{Row, Plane, Pairs, row_at, plane_at, cells_added, row_added, plane_added, block_added}

loop_join : {S : Type 0} (body : ℕ → S → S) (k m l : ℕ) (s : S) → loop_left body k (m + l) s ≡ loop_left body (k + m) l (loop_left body k m s)
loop_join body k zero l s = λ t. loop_left body (sym (add-zero k) t) (zero-add l t) s
loop_join body k (suc m) l s =
    let d : suc m + l ≡ suc (m + l) = omega arith in
    let e : suc k + m ≡ k + suc m = omega arith in
    ap (λ (i : ℕ). loop_left body k i s) d ∙ loop_join body (suc k) m l (body k s) ∙ ap (λ (i : ℕ). loop_left body i l (loop_left body (suc k) m (body k s))) e

module _ {S : Type 0} (body : ℕ → S → S) (n : ℕ) (z : S) where
  pub left_turn : (k : ℕ) (s q : S) → k < n → q ≡ body k s → loop_left body k (n - k) s ≡ z → loop_left body (k + 1) (n - (k + 1)) q ≡ z
  left_turn k s q h e inv =
      let m : n - k ≡ suc (n - (k + 1)) = omega arith in
      (λ t. loop_left body (add-one k t) (n - (k + 1)) (e t)) ∙ (rw m at inv)

  pub left_done : (k : ℕ) (s : S) → n ≤ k → loop_left body k (n - k) s ≡ z → s ≡ z
  left_done k s h inv =
      let m : n - k ≡ 0 = omega arith in
      rw m at inv

pub row_place : (i y r s : ℕ) → i + (y + r) * s ≡ i + y * s + r * s
row_place i y r s = omega (arith, add-mul y r s)

module _ (setup : Setup) where
  module _ (r : Row) (k : ℕ) where
    pub row_start : (s : List Float) → row_added setup r 0 (k - 0) s ≡ row_added setup r 0 k s
    row_start s = ap (λ (m : ℕ). row_added setup r 0 m s) (sub-zero k)

    module _ (z : List Float) (x : ℕ) (s : List Float) where
      -- pair x
      pub row_turn : (q : List Float) → x < k → q ≡ cells_added setup r.a r.b (r.i + x) (r.j + x) s → row_added setup r x (k - x) s ≡ z → row_added setup r (x + 1) (k - (x + 1)) q ≡ z
      unfolding row_added
      row_turn q h e = left_turn (λ x s. cells_added setup r.a r.b (r.i + x) (r.j + x) s) k z x s q h e

      pub row_end : k ≤ x → row_added setup r x (k - x) s ≡ z → s ≡ z
      unfolding row_added
      row_end = left_done (λ x s. cells_added setup r.a r.b (r.i + x) (r.j + x) s) k z x s

  module _ (p : Plane) (k : ℕ) where
    pub plane_start : (s : List Float) → plane_added setup p 0 (k - 0) s ≡ plane_added setup p 0 k s
    plane_start s = ap (λ (m : ℕ). plane_added setup p 0 m s) (sub-zero k)

    module _ (z : List Float) (y : ℕ) (s : List Float) where
      -- row y, u
      pub plane_turn : (u : Row) (q : List Float) → y < k → u ≡ row_at p y → q ≡ row_added setup u 0 u.n s → plane_added setup p y (k - y) s ≡ z → plane_added setup p (y + 1) (k - (y + 1)) q ≡ z
      unfolding plane_added
      plane_turn u q h eu e = left_turn (λ y s. row_added setup (row_at p y) 0 p.rows.n s) k z y s q h (e ∙ λ t. row_added setup (eu t) 0 (eu t).n s)

      pub plane_done : k ≤ y → plane_added setup p y (k - y) s ≡ z → s ≡ z
      unfolding plane_added
      plane_done = left_done (λ y s. row_added setup (row_at p y) 0 p.rows.n s) k z y s

  module _ (q : Pairs) (l : ℕ) where
    pub block_start : (s : List Float) → block_added setup q 0 (l - 0) s ≡ block_added setup q 0 l s
    block_start s = ap (λ (m : ℕ). block_added setup q 0 m s) (sub-zero l)

    module _ (e : List Float) (z : ℕ) (s : List Float) where
      -- plane z, u
      pub block_turn : (u : Plane) (w : List Float) → z < l → u ≡ plane_at q z → w ≡ plane_added setup u 0 u.rows.m s → block_added setup q z (l - z) s ≡ e → block_added setup q (z + 1) (l - (z + 1)) w ≡ e
      unfolding block_added
      block_turn u w h eu f = left_turn (λ z s. plane_added setup (plane_at q z) 0 q.planes.rows.m s) l e z s w h (f ∙ λ t. plane_added setup (eu t) 0 (eu t).rows.m s)

      pub block_done : l ≤ z → block_added setup q z (l - z) s ≡ e → s ≡ e
      unfolding block_added
      block_done = left_done (λ z s. plane_added setup (plane_at q z) 0 q.planes.rows.m s) l e z s

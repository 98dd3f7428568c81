-- The index displacement as the machine forms it, and the squared distance of an offset. Assumes nothing.
use mathlib.Core.Path.{◌≡◌, ap, ◌∙◌}
use mathlib.Core.Bool.{false}
use Prim.Native.Nat.{◌^◌, ◌≤◌}
use native.Mathlib.Omega.{arith}
use lib.IntN.{ℤ, pos, negsuc, nat_abs, ◌+ℤ◌, ◌-ℤ◌}
use lib.Dec.{T, le→leb, lt→ltb}
use lib.Signed.{mag}
use lib.Ieee.{Float, binary64, add, mul, of_int, of_bits, in_float}
use mir.Syntax.{w64}
use mir.Val.{SFits, to_z, of_z}
use mir.ValLaws.{to_z-of_z}
use Rattle.definitions.specs.Points.{square}
use Rattle.definitions.specs.Floats.{zero_f}
use Rattle.definitions.specs.Blocks.{displaced, distance_squared}
use Rattle.laws.proofs.Integers.{abs_add, abs_sub}
use Rattle.idx_3d_offset.specs.declared.Idx3DOffset.{Idx3DOffset}
use Rattle.idx_3d_offset.specs.Offsets.{idx_of}
use Rattle.spatial.specs.declared.Block.{Block}
use Rattle.spatial.specs.declared.CellWidth.{CellWidth}
use Rattle.spatial.specs.Readings.{block_of, width_of}
use Rattle.twopoint_cartesian.specs.Held.{Near, AllNear}

mag_abs : (z : ℤ) → mag z ≤ nat_abs z
mag_abs (pos n) = omega arith
mag_abs (negsuc n) = omega arith

pub fits : (z : ℤ) → nat_abs z ≤ 3_000_000 → SFits w64 z
fits z h = record { sfits = omega (arith, mag_abs z) }

exact : (z : ℤ) → nat_abs z ≤ 3_000_000 → T (in_float binary64 z)
unfolding in_float
exact (pos n) h = le→leb n (2 ^ 53) (omega arith)
exact (negsuc n) h = lt→ltb n (2 ^ 53) (omega arith)

module _ (z : ℤ) (n : Near z) where
  pub back : to_z w64 (of_z w64 z) ≡ z
  back = to_z-of_z w64 z (fits z (omega (arith, n.near)))

module _ (d ga gb : ℤ) (nd : Near d) (na : Near ga) (nb : Near gb) where
  sum : to_z w64 (of_z w64 d) +ℤ to_z w64 (of_z w64 gb) ≡ d +ℤ gb
  sum = λ t. back d nd t +ℤ back gb nb t

  small : nat_abs (d +ℤ gb) ≤ 2_000_000
  small = omega (arith, abs_add d gb, nd.near, nb.near)

  pub sum_fits : SFits w64 (to_z w64 (of_z w64 d) +ℤ to_z w64 (of_z w64 gb))
  sum_fits = rw sum (fits (d +ℤ gb) (omega (arith, small)))

  difference : to_z w64 (of_z w64 (to_z w64 (of_z w64 d) +ℤ to_z w64 (of_z w64 gb))) -ℤ to_z w64 (of_z w64 ga) ≡ d +ℤ gb -ℤ ga
  difference = λ t. (to_z-of_z w64 (to_z w64 (of_z w64 d) +ℤ to_z w64 (of_z w64 gb)) sum_fits ∙ sum) t -ℤ back ga na t

  difference_small : nat_abs (d +ℤ gb -ℤ ga) ≤ 3_000_000
  difference_small = omega (arith, abs_sub (d +ℤ gb) ga, small, na.near)

  pub difference_fits : SFits w64 (to_z w64 (of_z w64 (to_z w64 (of_z w64 d) +ℤ to_z w64 (of_z w64 gb))) -ℤ to_z w64 (of_z w64 ga))
  difference_fits = rw difference (fits (d +ℤ gb -ℤ ga) difference_small)

  difference_back : to_z w64 (of_z w64 (to_z w64 (of_z w64 (to_z w64 (of_z w64 d) +ℤ to_z w64 (of_z w64 gb))) -ℤ to_z w64 (of_z w64 ga))) ≡ d +ℤ gb -ℤ ga
  difference_back = to_z-of_z w64 _ difference_fits ∙ difference

  pub difference_exact : T (in_float binary64 (to_z w64 (of_z w64 (to_z w64 (of_z w64 (to_z w64 (of_z w64 d) +ℤ to_z w64 (of_z w64 gb))) -ℤ to_z w64 (of_z w64 ga)))))
  difference_exact = rw difference_back (exact (d +ℤ gb -ℤ ga) difference_small)

  pub squared : (width : Float) → square (mul binary64 (of_int binary64 (to_z w64 (of_z w64 (to_z w64 (of_z w64 (to_z w64 (of_z w64 d) +ℤ to_z w64 (of_z w64 gb))) -ℤ to_z w64 (of_z w64 ga))))) width) ≡ square (displaced d ga gb width)
  squared width = ap (λ (z : ℤ). square (mul binary64 (of_int binary64 z) width)) difference_back

  -- of numbers that are read back
  pub same_displaced : (width r : Float) → r ≡ square (displaced (to_z w64 (of_z w64 d)) (to_z w64 (of_z w64 ga)) (to_z w64 (of_z w64 gb)) width) → r ≡ square (displaced d ga gb width)
  same_displaced width r e = e ∙ λ t. square (displaced (back d nd t) (back ga na t) (back gb nb t) width)

pub near_back : (z : ℤ) → Near z → Near (to_z w64 (of_z w64 z))
near_back z n = rw (back z n) n

-- the three axes, from 0.0
module _ (width : CellWidth) (a b : Block) (o : Idx3DOffset) (no : AllNear o.0 o.1 o.2) (na : AllNear a.gz a.gy a.gx) (nb : AllNear b.gz b.gy b.gx) where
  pub distance_is : (z y x : Float)
      → z ≡ square (displaced (to_z w64 (of_z w64 o.0)) (to_z w64 (of_z w64 a.gz)) (to_z w64 (of_z w64 b.gz)) width.z)
      → y ≡ square (displaced (to_z w64 (of_z w64 o.1)) (to_z w64 (of_z w64 a.gy)) (to_z w64 (of_z w64 b.gy)) width.y)
      → x ≡ square (displaced (to_z w64 (of_z w64 o.2)) (to_z w64 (of_z w64 a.gx)) (to_z w64 (of_z w64 b.gx)) width.x)
      → add binary64 (add binary64 (add binary64 (of_bits binary64 0) z) y) x ≡ distance_squared (width_of width) (block_of a) (block_of b) (idx_of o)
  unfolding of_bits
  distance_is z y x ez ey ex =
      λ t. add binary64 (add binary64 (add binary64 (zero_f false) (same_displaced o.0 a.gz b.gz no.z_near na.z_near nb.z_near width.z z ez t)) (same_displaced o.1 a.gy b.gy no.y_near na.y_near nb.y_near width.y y ey t)) (same_displaced o.2 a.gx b.gx no.x_near na.x_near nb.x_near width.x x ex t)

-- Where a segment starts, in closed form, and that this is within the indices.
use mathlib.Core.Path.{◌≡◌, refl}
use mathlib.Core.Bool.{Bool, true, false, cond}
use Prim.Native.Nat.{ℕ, zero, suc, ◌+◌, ◌*◌, ◌/◌, ◌%◌, ◌≤◌, min}
use native.Mathlib.Omega.{arith}
use native.Mathlib.Nat.{div-add-mod', mul-le-mul_right}
use lib.Dec.{ltb}
use borrow.Author.Tests.{ltb-true, ltb-false}
use Rattle.definitions.specs.Segments.{segment_start}

module _ (n k : ℕ) where
  pub start_closed : (i : ℕ) → segment_start n k i ≡ i * (n / k) + min i (n % k)
  unfolding segment_start
  start_closed zero = omega arith
  start_closed (suc i) = go (ltb i (n % k)) refl (start_closed i)
    where
      go : (b : Bool) → ltb i (n % k) ≡ b → segment_start n k i ≡ i * (n / k) + min i (n % k)
          → segment_start n k i + (n / k + cond b 1 0) ≡ suc i * (n / k) + min (suc i) (n % k)
      go true e h = omega (arith, ltb-true)
      go false e h = omega (arith, ltb-false)

  pub start_within : (i : ℕ) → i ≤ k → segment_start n k i ≤ n
  start_within i h = omega (arith, start_closed i, mul-le-mul_right (n / k) h, div-add-mod' n k)

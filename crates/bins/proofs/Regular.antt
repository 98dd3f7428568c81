-- Each outcome of the regular edges, from the tests that lead to it.
use mathlib.Core.Path.{◌≡◌}
use Rattle.std.specs.Prelude.{None, Some}
use mathlib.Core.Bool.{Bool, true, false, ◌||◌}
use Prim.Native.Nat.{ℕ, ◌≤◌}
use native.Mathlib.Omega.{arith}
use lib.IntN.{pos}
use lib.Dec.{T, le→leb}
use lib.Ieee.{Float, binary64, lt, le, sub, div, in_float}
use Rattle.definitions.specs.Floats.{as_usize}
use Rattle.definitions.specs.Bins.{regular_index}

-- a number of bins within the limit is a float exactly
pub count_exact : (n : ℕ) → n ≤ 256 → T (in_float binary64 (pos n))
unfolding in_float
count_exact n h = le→leb n _ (omega arith)

-- ---- the lookup: r says whether the value is outside the ends
module _ (min max size x : Float) (r : Bool) (q : r ≡ (lt x min || le max x)) where
  pub index_past : r ≡ true → None ≡ regular_index min max size x
  unfolding regular_index
  index_past h = rw (← q, h)

  pub index_at : (i : ℕ) → r ≡ false → i ≡ as_usize (div binary64 (sub binary64 x min) size) → Some i ≡ regular_index min max size x
  unfolding regular_index
  index_at i h k = rw (← q, h, k)

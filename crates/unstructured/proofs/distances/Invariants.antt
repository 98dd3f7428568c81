use mathlib.Core.Path.{◌≡◌}
use Prim.Native.Nat.{ℕ, ◌+◌, ◌<◌}
use lib.ListN.{get_or}
use lib.Ieee.{nan}
use Rattle.definitions.specs.Points.{squared_diff_norm}
use Rattle.unstructured_points.specs.Readings.{the_point}
use Rattle.unstructured.specs.Pairs.{point_in}
use Rattle.unstructured.proofs.distances.Given as goal

abbrev pub invariant-loop-e : goal.invariant-loop-e
invariant-loop-e l = (x : ℕ) → x < l.e → get_or l.d x nan ≡ squared_diff_norm (the_point l.a) (point_in l.set (l.j + x))

use mathlib.Core.Path.{◌≡◌}
use Prim.Native.Nat.{◌-◌}
use Rattle.twopoint_cartesian.specs.Cells.{plane_of, plane_added}
use Rattle.twopoint_cartesian.proofs.held.Histograms.add_plane.Given as goal

abbrev pub invariant-loop-y : goal.invariant-loop-y
invariant-loop-y l =
    plane_added l.self.distances.setup (plane_of l.pairs) l.y (l.pairs.rows.m - l.y) l.state ≡ plane_added l.self.distances.setup (plane_of l.pairs) 0 l.pairs.rows.m l.initial.state

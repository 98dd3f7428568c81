use mathlib.Core.Path.{◌≡◌}
use Prim.Native.Nat.{◌-◌}
use Rattle.twopoint_cartesian.specs.Cells.{pairs_of, block_added}
use Rattle.twopoint_cartesian.proofs.held.Histograms.add_planes.Given as goal

abbrev pub invariant-loop-z : goal.invariant-loop-z
invariant-loop-z l = block_added l.self.distances.setup (pairs_of l.pairs) l.z (l.pairs.planes.l - l.z) l.state ≡ block_added l.self.distances.setup (pairs_of l.pairs) 0 l.pairs.planes.l l.initial.state

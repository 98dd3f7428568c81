use mathlib.Core.Path.{◌≡◌}
use Prim.Native.Nat.{◌-◌}
use Rattle.twopoint_cartesian.specs.Cells.{row_of, row_added}
use Rattle.twopoint_cartesian.proofs.held.Histograms.add_pairs.Given as goal

abbrev pub invariant-loop-x : goal.invariant-loop-x
invariant-loop-x l =
    row_added l.self.distances.setup (row_of l.pairs) l.x (l.pairs.n - l.x) l.state ≡ row_added l.self.distances.setup (row_of l.pairs) 0 l.pairs.n l.initial.state

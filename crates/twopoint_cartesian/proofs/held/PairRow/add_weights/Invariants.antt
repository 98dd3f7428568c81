use mathlib.Core.Path.{◌≡◌}
use Prim.Native.Nat.{◌-◌}
use lib.ListN.{length}
use Rattle.twopoint_cartesian.specs.Cells.{row_of, weights_added}
use Rattle.twopoint_cartesian.proofs.held.PairRow.add_weights.Given as goal

abbrev pub invariant-loop-x : goal.invariant-loop-x
invariant-loop-x l = weights_added (row_of l.fn.self) l.found l.x (length l.found - l.x) l.state ≡ weights_added (row_of l.fn.self) l.found 0 (length l.found) l.initial.state

use mathlib.Core.Path.{◌≡◌}
use Prim.Native.Nat.{◌-◌}
use Rattle.twopoint_cartesian.specs.Cells.{row_of, row_in_mean}
use Rattle.twopoint_cartesian.proofs.held.PairRow.row_in_mean.Given as goal

abbrev pub invariant-loop-x : goal.invariant-loop-x
invariant-loop-x l = row_in_mean l.setup (row_of l.self) l.x (l.self.n - l.x) l.m ≡ row_in_mean l.setup (row_of l.self) 0 l.self.n l.initial.m

use mathlib.Core.Path.{◌≡◌}
use Rattle.definitions.specs.Lists.{overwritten}
use Rattle.twopoint_cartesian.specs.Cells.{row_of, row_value}
use Rattle.twopoint_cartesian.proofs.held.PairRow.gather.Given as goal

abbrev pub invariant-loop-x : goal.invariant-loop-x
invariant-loop-x l = l.values ≡ overwritten l.x (row_value l.setup (row_of l.self)) l.initial.values

use mathlib.Core.Path.{◌≡◌}
use Rattle.edge_table.specs.Table.{hints_of}
use Rattle.edge_table.proofs.hint_bins.Given as goal

abbrev pub invariant-loop-b : goal.invariant-loop-b
invariant-loop-b l = (l.hints ≡ hints_of l.table l.list l.b l.initial.hints)

use mathlib.Core.Path.{◌≡◌}
use Rattle.unstructured_points.specs.Readings.{the_point}
use Rattle.unstructured.specs.Pairs.{row_from}
use Rattle.unstructured.proofs.SearchedRows.add_row.Given as goal

abbrev pub invariant-loop-j : goal.invariant-loop-j
invariant-loop-j l = row_from l.self.setup.now (the_point l.a) l.set l.j l.scratch ≡ row_from l.self.setup.now (the_point l.a) l.set l.from l.initial.scratch

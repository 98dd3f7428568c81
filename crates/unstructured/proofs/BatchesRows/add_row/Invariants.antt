use mathlib.Core.Path.{◌≡◌}
use Prim.Native.Nat.{◌-◌}
use Rattle.unstructured_points.specs.Readings.{the_point}
use Rattle.unstructured.specs.Pairs.{row_from}
use Rattle.unstructured.proofs.BatchesRows.add_row.Given as goal

abbrev pub invariant-loop-j : goal.invariant-loop-j
invariant-loop-j l = record {
  left : row_from l.look.setup (the_point l.a) l.set l.j l.scratch ≡ row_from l.look.setup (the_point l.a) l.set l.from l.initial.scratch;
  same : l.self.look ≡ l.initial.self.look;
}

abbrev pub decreases-loop-j : goal.decreases-loop-j
decreases-loop-j l = l.set.n - l.j

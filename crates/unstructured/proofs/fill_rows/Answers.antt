use mathlib.Core.Path.{ap, ◌∙◌}
use native.Mathlib.Omega.{arith}
use Rattle.parallel_serial.specs.declared.Setup.{Setup}
use Rattle.unstructured_points.specs.Readings.{the_point}
use Rattle.unstructured.specs.Pairs.{row_from}
use Rattle.unstructured.proofs.Loops.{rows_turn, rows_done}
use Rattle.unstructured.proofs.fill_rows.Goals as goal

pub loop-i-preserved : goal.loop-i-preserved
loop-i-preserved g c = let x = c.args in
    let t = c.loop-i in
    record {
      left = rows_turn _ x.sets.now _ _ _ t.i _ _ t.scratch _ c.first-first.ensures c.second-second.ensures (omega arith) c.point_at-a.ensures c.first_partner-from.ensures
          (c.add_row.ensures.row ∙ ap (λ (s : Setup). row_from s (the_point c.point_at-a.result) c.second-second.result c.first_partner-from.result t.scratch) t.invariant.same) t.invariant.left;
      same = c.add_row.ensures.same ∙ t.invariant.same;
    }

pub returns : goal.returns
returns g c = rows_done _ c.args.sets.now _ _ c.loop-i.i _ c.first-first.ensures (omega arith) c.loop-i.invariant.left

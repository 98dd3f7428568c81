use Prim.Native.Nat.{◌-◌, ◌≤◌}
use borrow.Author.Rules.{rules}
use Rattle.unstructured_points.specs.Readings.{the_point}
use Rattle.unstructured.specs.Pairs.{point_in}
use Rattle.unstructured.proofs.Batches.{batches_turn}
use Rattle.unstructured.proofs.Loops.{row_done}
use Rattle.unstructured.proofs.BatchesRows.add_row.Goals as goal

pub loop-j-preserved : goal.loop-j-preserved
loop-j-preserved c = let x = c.args in
    let t = c.loop-j in
    let m = c.min-m.result in
    let below : m ≤ x.set.now.n - t.j = search rules in
    record {
      left = batches_turn x.self.now.look.now.setup (the_point x.a) (point_in x.set.now) x.set.now.n _ t.j m t.scratch _ c.loop-j-test.true below c.add_batch.ensures t.invariant.left;
      same = t.invariant.same;
    }

pub returns-clause-row : goal.returns-clause-row
returns-clause-row c = row_done _ _ _ _ _ c.loop-j.j _ c.loop-j-test.false c.loop-j.invariant.left

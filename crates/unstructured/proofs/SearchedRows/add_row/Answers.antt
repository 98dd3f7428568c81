use native.Mathlib.Omega.{arith}
use Rattle.unstructured.proofs.Batches.{row_turn, one_added}
use Rattle.unstructured.proofs.Loops.{row_done}
use Rattle.unstructured.proofs.SearchedRows.add_row.Goals as goal

pub loop-j-preserved : goal.loop-j-preserved
loop-j-preserved c = let t = c.loop-j in
    row_turn _ _ _ _ _ t.j _ _ _ (omega arith) c.point_at-b.ensures (one_added _ _ _ c.pair_found-pair.result _ _ _ c.pair_found-pair.ensures c.value_found-value_bin.ensures c.add.ensures) t.invariant

pub returns : goal.returns
returns c = search row_done

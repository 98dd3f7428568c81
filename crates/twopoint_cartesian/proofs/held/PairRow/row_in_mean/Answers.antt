use Rattle.twopoint_cartesian.proofs.Means.{mean_turn, mean_done}
use Rattle.twopoint_cartesian.proofs.held.PairRow.row_in_mean.Goals as goal

pub loop-x-preserved : goal.loop-x-preserved
loop-x-preserved c = mean_turn _ _ _ _ _ _ _ c.loop-x-test.true c.cells_in_mean-m.ensures c.loop-x.invariant

pub returns : goal.returns
returns c = search mean_done

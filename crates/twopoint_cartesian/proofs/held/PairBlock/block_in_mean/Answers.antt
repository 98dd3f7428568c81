use Rattle.twopoint_cartesian.proofs.Means.{mean_block_turn, mean_block_done}
use Rattle.twopoint_cartesian.proofs.held.PairBlock.block_in_mean.Goals as goal

pub loop-z-preserved : goal.loop-z-preserved
loop-z-preserved c = mean_block_turn _ _ _ _ _ _ _ _ c.loop-z-test.true c.plane.ensures c.plane_in_mean-m.ensures c.loop-z.invariant

pub returns : goal.returns
returns c = search mean_block_done

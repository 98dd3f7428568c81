use Rattle.twopoint_cartesian.proofs.Means.{mean_plane_turn, mean_plane_done}
use Rattle.twopoint_cartesian.proofs.held.PairPlane.plane_in_mean.Goals as goal

pub loop-y-preserved : goal.loop-y-preserved
loop-y-preserved c = mean_plane_turn _ _ _ _ _ _ _ _ c.loop-y-test.true c.row.ensures c.row_in_mean-m.ensures c.loop-y.invariant

pub returns : goal.returns
returns c = search mean_plane_done

use Rattle.twopoint_cartesian.proofs.Histograms.{weights_turn, weights_over}
use Rattle.twopoint_cartesian.proofs.held.PairRow.add_weights.Goals as goal

pub loop-x-preserved : goal.loop-x-preserved
loop-x-preserved c = search weights_turn

pub returns : goal.returns
returns c = search weights_over

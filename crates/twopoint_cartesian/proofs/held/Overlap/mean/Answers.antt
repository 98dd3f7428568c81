use lib.Ieee.{of_bits}
use Rattle.twopoint_cartesian.proofs.Means.{mean_done_cells}
use Rattle.twopoint_cartesian.proofs.held.Overlap.mean.Goals as goal

pub returns : goal.returns
unfolding of_bits
returns c = mean_done_cells _ _ _ _ _ _ c.pairs.ensures c.block_in_mean.ensures

use mathlib.Core.Path.{refl}
use lib.ListN.{length}
use Rattle.twopoint_cartesian.specs.Cells.{row_of}
use Rattle.twopoint_cartesian.proofs.Histograms.{pair_done}
use Rattle.twopoint_cartesian.proofs.held.Histograms.add_pair.Goals as goal

pub returns : goal.returns
returns c = let x = c.args in
    pair_done x.self (length x.state.now) c.requires.sized (row_of x.pairs) x.x _ _ _ _ _ refl c.datum_at-datum.ensures c.component_sum-value.ensures c.number_by-bin.ensures c.add_weight.ensures

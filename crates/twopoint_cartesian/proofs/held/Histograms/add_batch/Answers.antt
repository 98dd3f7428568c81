use mathlib.Core.Path.{refl}
use lib.ListN.{length}
use lib.Seq.{length-take-le}
use Rattle.twopoint_cartesian.specs.Cells.{row_of}
use Rattle.twopoint_cartesian.proofs.Histograms.{row_done}
use Rattle.twopoint_cartesian.proofs.held.Histograms.add_batch.Goals as goal

pub returns : goal.returns
returns c = let x = c.args in
    let k = c.requires.room in
    row_done x.self (length x.state.now) c.requires.sized (row_of x.pairs) _ _ _ _ (length-take-le x.pairs.n x.values.now k.values) (length-take-le x.pairs.n x.found.now k.found)
    c.gather.ensures c.bins_of.ensures x.state.now _ refl c.add_weights.ensures

use Rattle.edge_batch.proofs.Batch.{sure_irregular}
use Rattle.edge_batch.proofs.sure_of.Goals as goal

pub returns-in-Irregular : goal.returns-in-Irregular
returns-in-Irregular g c = (sure_irregular _ c.args.look _ _ _ _ _ c.in-Irregular.is c.places_of.ensures c.sure_bins.ensures.0, c.sure_bins.ensures.1)

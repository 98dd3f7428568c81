use Rattle.edge_batch.proofs.Batch.{found_settled, found_sure}
use Rattle.edge_batch.proofs.bins_of.Goals as goal

pub returns-then-all-ge-SETTLED_LIMIT : goal.returns-then-all-ge-SETTLED_LIMIT
returns-then-all-ge-SETTLED_LIMIT g c = search found_settled

pub returns-else-all-ge-SETTLED_LIMIT : goal.returns-else-all-ge-SETTLED_LIMIT
returns-else-all-ge-SETTLED_LIMIT g c = search found_sure

use Rattle.record_bytes.proofs.Columns.{bin_stored}
use Rattle.record_bytes.proofs.encode_bin.Goals as goal

pub returns : goal.returns
returns c = search bin_stored

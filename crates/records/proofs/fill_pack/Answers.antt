use Rattle.records.proofs.Curve.{files_curve}
use Rattle.records.proofs.fill_pack.Goals as goal

pub returns : goal.returns
returns c = search files_curve

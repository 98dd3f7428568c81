use Rattle.records.proofs.Curve.{records_curve}
use Rattle.records.proofs.run_records.Goals as goal

pub returns : goal.returns
returns c = search records_curve

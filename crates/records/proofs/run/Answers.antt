use Rattle.records.proofs.Curve.{listed_run}
use Rattle.records.proofs.run.Goals as goal

pub returns : goal.returns
returns c = search listed_run

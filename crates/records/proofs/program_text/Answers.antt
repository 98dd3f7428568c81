use Rattle.records.proofs.Outcomes.{front_fitted}
use Rattle.records.proofs.program_text.Goals as goal

pub returns-clause-out_after : goal.returns-clause-out_after
returns-clause-out_after c = search front_fitted

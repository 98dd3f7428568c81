use Rattle.state_refusals.proofs.Refusals.{refused}
use Rattle.state_refusals.proofs.consolidate_refusal.Goals as goal

pub returns-in_err-n : goal.returns-in_err-n
returns-in_err-n c = search (refused, c.in_err-n.was)

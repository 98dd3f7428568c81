use Rattle.state_refusals.proofs.Refusals.{refused_four}
use Rattle.state_refusals.proofs.merge_refusal.Goals as goal

pub returns-in_err-n : goal.returns-in_err-n
returns-in_err-n c = search (refused_four, c.in_err-n.was)

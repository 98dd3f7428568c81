use Rattle.state_refusals.proofs.Refusals.{refused_two}
use Rattle.state_refusals.proofs.result_refusal.Goals as goal

pub returns-in_err-n : goal.returns-in_err-n
returns-in_err-n c = search (refused_two, c.in_err-n.was)

use Rattle.refusals.proofs.Answers.{refused_first, accepted_first}
use Rattle.spatial.proofs.Refusals.{cross_next}
use Rattle.spatial.proofs.sets_refusal.Goals as goal

pub returns-in_err-refusal-in-Cross : goal.returns-in_err-refusal-in-Cross
returns-in_err-refusal-in-Cross c = search (cross_next, refused_first, c.in_err-refusal-in-Cross.was)

pub returns-in_err-refusal-in-Cross-2 : goal.returns-in_err-refusal-in-Cross-2
returns-in_err-refusal-in-Cross-2 c = search (cross_next, accepted_first, refused_first, c.in_ok-refusal-in-Cross.was, c.in_err-refusal-in-Cross-2.was)

use mathlib.Core.Path.{◌∙◌}
use Rattle.refusals.proofs.Answers.{number_carried}
use Rattle.record_refusals.proofs.Rules.{edges_number}
use Rattle.record_refusals.proofs.edges_refusal.Goals as goal

pub returns-in_err-accepted_edges : goal.returns-in_err-accepted_edges
returns-in_err-accepted_edges c = edges_number _ c.requires _ _ _ c.edge_numbers-list.ensures.1 c.decode_edges.ensures.0 (number_carried _ _ c.from_residual.ensures.1 ∙ c.in_err-accepted_edges.ensures.number)

pub returns : goal.returns
returns c = search (edges_number, c.in_ok-accepted_edges.ensures.number)

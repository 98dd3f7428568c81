use mathlib.Core.Path.{◌∙◌}
use borrow.Author.Rules.{rules}
use Rattle.refusals.proofs.Answers.{accepted_leaves}
use Rattle.state.proofs.Packs.{merged_part}
use Rattle.state.proofs.Refusals.{merge_first}
use Rattle.state.proofs.merge_full_statepacks.Goals as goal

pub returns-clause-pack_after : goal.returns-clause-pack_after
returns-clause-pack_after c =
    merged_part _ c.args.pack.now c.args.other.now _ (search (rules, merge_first)) c.add_all.ensures ∙ search (accepted_leaves, c.in_ok-merge_refusal.was)

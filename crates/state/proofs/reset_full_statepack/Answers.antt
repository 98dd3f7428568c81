use mathlib.Core.Path.{◌∙◌}
use borrow.Author.Rules.{rules}
use lib.Ieee.{of_bits}
use Rattle.refusals.proofs.Answers.{accepted_leaves}
use Rattle.state.proofs.Packs.{filled}
use Rattle.state.proofs.Refusals.{reset_within}
use Rattle.state.proofs.reset_full_statepack.Goals as goal

pub returns-clause-pack_after : goal.returns-clause-pack_after
unfolding of_bits
returns-clause-pack_after c =
    filled _ c.args.pack.now c.fill.new.self (search (rules, reset_within)) (c.fill.ensures.after (λ y e. e)) ∙ search (accepted_leaves, c.in_ok-reset_refusal.was)

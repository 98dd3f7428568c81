use mathlib.Core.Path.{◌∙◌, ap}
use mathlib.Core.List.{List}
use lib.ListN.{length}
use lib.Ieee.{Float}
use borrow.Author.Rules.{rules}
use borrow.Author.Tests.{tests}
use Rattle.definitions.specs.Bins.{last_edge}
use Rattle.bins.proofs.Irregular.{key_at}
use Rattle.bins.proofs.Scan.{last_found}
use Rattle.bins.proofs.last_by_scan.Goals as goal

pub returns : goal.returns
returns c =
    last_found _ _ c.iter.result.rest.now c.args.value
    (λ y b q k. (search rules, λ j h e. key_at _ c.args.value (search rules) (rw c.iter.ensures.rest c.type_inv.edges) c.total_key-key.result c.total_key-key.ensures j y.now b e (search (rules, tests))))
    _ c.rposition.result (search (rules, c.iter.ensures.runs_back)) c.rposition.ensures.bound c.rposition.ensures.runs
    ∙ ap (λ (l : List Float). last_edge l c.args.value (length l)) c.iter.ensures.rest

use mathlib.Core.Path.{◌≡◌}
use mathlib.Core.Bool.{true, false}
use borrow.Author.Rules.{rules}
use Rattle.std.specs.Float.{float_is_finite}
use Rattle.std.proofs.lemmas.Iterator.{cases_from_all, YieldsList-from_slice}
use Rattle.edge_validation.proofs.Validation.{all_done}
use Rattle.edge_validation.proofs.all_finite.Goals as goal

pub returns : goal.returns
returns c =
    all_done c.args.edges.now c.all.result (cases_from_all _ _ _ (λ x. float_is_finite x ≡ true) (λ x. float_is_finite x ≡ false) c.all.ensures.ran (YieldsList-from_slice c.args.edges.now cc) (λ x q k. search rules) (λ x q k. search rules))

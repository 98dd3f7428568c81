use mathlib.Core.Path.{sym, ◌∙◌}
use native.Mathlib.Omega.{arith}
use Rattle.std.proofs.lemmas.Grind.{common_steps}
use Rattle.definitions.specs.Bins.{bins}
use Rattle.floats.proofs.Laws.{finite_same}
use Rattle.bins.proofs.RegularBinEdges.new.Goals as goal

pub returns-then-bin_size-clause-number : goal.returns-then-bin_size-clause-number
unfolding bins
returns-then-bin_size-clause-number c =
    let h = finite_same _ ∙ sym c.is_finite.ensures.value ∙ c.if-not-is_finite.false in
    grind (arith, common_steps)

pub returns-clause-number : goal.returns-clause-number
unfolding bins
returns-clause-number c =
    let h = finite_same _ ∙ sym c.is_finite.ensures.value ∙ c.if-not-is_finite.false in
    grind (arith, common_steps)

pub returns-clause-edges : goal.returns-clause-edges
unfolding bins
returns-clause-edges c =
    let h = finite_same _ ∙ sym c.is_finite.ensures.value ∙ c.if-not-is_finite.false in
    grind (arith, common_steps)

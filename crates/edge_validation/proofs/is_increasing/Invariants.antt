use mathlib.Core.Path.{◌≡◌}
use mathlib.Core.Bool.{◌&&◌}
use Rattle.definitions.specs.Rules.{increasing}
use Rattle.edge_validation.proofs.is_increasing.Given as goal

abbrev pub invariant-loop-pair : goal.invariant-loop-pair
invariant-loop-pair l = (l.pair-iterator.size ≡ 2) × (increasing l.edges ≡ l.rises && increasing l.pair-iterator.rest.now)

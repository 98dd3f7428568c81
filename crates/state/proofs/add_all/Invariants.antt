use mathlib.Core.Path.{◌≡◌}
use Rattle.definitions.specs.State.{merge_packs}
use Rattle.state.proofs.add_all.Given as goal

abbrev pub invariant-loop-i : goal.invariant-loop-i
invariant-loop-i l = (l.pack ≡ merge_packs l.i l.initial.pack l.other)

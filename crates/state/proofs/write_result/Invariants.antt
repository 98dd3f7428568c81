use mathlib.Core.Path.{◌≡◌}
use Rattle.definitions.specs.Lists.{overwritten}
use Rattle.definitions.specs.State.{result_number}
use Rattle.state.specs.Readings.{state_kind_of}
use Rattle.state.proofs.write_result.Given as goal

abbrev pub invariant-loop-e : goal.invariant-loop-e
invariant-loop-e l =
    (l.value ≡ overwritten l.e (result_number (state_kind_of l.kind) l.shape.n_states l.s l.pack) l.initial.value)

use mathlib.Core.Path.{◌≡◌}
use Prim.Native.Nat.{◌-◌}
use lib.ListN.{length}
use Rattle.twopoint_cartesian.specs.Cells.{state_merged}
use Rattle.twopoint_cartesian.proofs.merge_state.Given as goal

abbrev pub invariant-loop-e : goal.invariant-loop-e
invariant-loop-e l = state_merged l.n_states l.bin l.state l.e (length l.state - l.e) l.scratch ≡ state_merged l.n_states l.bin l.state 0 (length l.state) l.initial.scratch

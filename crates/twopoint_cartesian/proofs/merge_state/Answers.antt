use mathlib.Core.Path.{refl}
use native.Mathlib.Omega.{arith}
use Rattle.twopoint_cartesian.proofs.Merge.{merge_place, merge_turn, merge_done}
use Rattle.twopoint_cartesian.proofs.merge_state.Goals as goal

pub bounds-scratch-at : goal.bounds-scratch-at
bounds-scratch-at c = omega (arith, merge_place _ _ _ _ c.loop-e.e _ c.requires (omega arith) refl)

pub bounds-scratch-at-in-loop-e : goal.bounds-scratch-at-in-loop-e
bounds-scratch-at-in-loop-e c = omega (arith, merge_place _ _ _ _ c.loop-e.e _ c.requires (omega arith) refl)

pub loop-e-preserved : goal.loop-e-preserved
loop-e-preserved c = search merge_turn

pub returns : goal.returns
returns c = search merge_done

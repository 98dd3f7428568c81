use native.Mathlib.Omega.{arith}
use Rattle.std.proofs.Common.{rules}
use Rattle.std.proofs.lemmas.Int.{ints}
use Rattle.idx_3d_offset.proofs.Steps.{next_x, next_y, next_z, next_none}
use Rattle.idx_3d_offset.proofs.Offset.after.Goals as goal

pub returns-then-x-end-clause-next : goal.returns-then-x-end-clause-next
returns-then-x-end-clause-next c = next_x _ _ _ c.requires _ (omega (arith, ints)) (omega (arith, ints)) (omega (arith, ints))

pub returns-then-y-end-clause-next : goal.returns-then-y-end-clause-next
returns-then-y-end-clause-next c =
    next_y _ _ _ c.requires (omega (arith, ints)) _ (omega (arith, ints)) (omega (arith, ints)) (omega (arith, ints)) (omega (arith, ints))

pub returns-then-z-end-clause-inside : goal.returns-then-z-end-clause-inside
returns-then-z-end-clause-inside c = record { z_axis = search rules; y_axis = search rules; x_axis = search rules }

pub returns-then-z-end-clause-next : goal.returns-then-z-end-clause-next
returns-then-z-end-clause-next c =
    next_z _ _ _ c.requires (omega (arith, ints)) (omega (arith, ints)) _
    (omega (arith, ints)) (omega (arith, ints)) (omega (arith, ints)) (omega (arith, ints))

pub returns-clause-next : goal.returns-clause-next
returns-clause-next c = next_none _ _ _ c.requires (omega (arith, ints)) (omega (arith, ints)) (omega (arith, ints))

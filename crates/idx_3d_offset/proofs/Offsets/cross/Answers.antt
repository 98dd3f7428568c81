use Rattle.idx_3d_offset.proofs.Sequence.{axes_fit, cross_inside, cross_rest}
use Rattle.idx_3d_offset.proofs.Offsets.cross.Goals as goal

pub invariant_of-result : goal.invariant_of-result
invariant_of-result c =
    let h = axes_fit _ _ c.fit.ensures c.if-fit.true in
    let k = axes_fit _ _ c.fit-then-fit.ensures c.if-fit-2.true in
    record { inside = cross_inside _ _ h k _ _ c.lowest-lowest.ensures c.end.ensures }

pub returns-then-fit-2 : goal.returns-then-fit-2
returns-then-fit-2 c =
    let h = axes_fit _ _ c.fit.ensures c.if-fit.true in
    let k = axes_fit _ _ c.fit-then-fit.ensures c.if-fit-2.true in
    cross_rest _ _ h k _ _ c.lowest-lowest.ensures c.end.ensures

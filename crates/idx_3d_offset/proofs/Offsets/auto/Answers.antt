use Rattle.idx_3d_offset.proofs.Sequence.{axes_fit, auto_inside, auto_rest}
use Rattle.idx_3d_offset.proofs.Offsets.auto.Goals as goal

pub after-next-requires : goal.after-next-requires
after-next-requires c = auto_inside _ (axes_fit _ _ c.fit.ensures c.if-fit.true) _ _ c.lowest-lowest.ensures c.end-end.ensures

pub returns-then-fit : goal.returns-then-fit
returns-then-fit c = auto_rest _ (axes_fit _ _ c.fit.ensures c.if-fit.true) _ _ c.lowest-lowest.ensures c.end-end.ensures _ c.after-next.ensures.next

use Rattle.definitions.specs.Run.{two_points}
use Rattle.capi.proofs.Stated.{answered}
use Rattle.capi.proofs.pairstat_points_cross.Goals as goal

pub returns : goal.returns
returns c =
    answered _ _ _ _ _ c.number_of.ensures c.points_cross.ensures.number c.points_cross.ensures.pack_after
    (λ i. two_points (c.set_from-a.ensures i) (c.set_from-b.ensures i))
    c.edges_from.ensures c.edges_from-value.ensures c.kind_from.ensures c.op_from.ensures c.shape_from.ensures

use mathlib.Core.Path.{ap}
use Rattle.definitions.specs.Run.{one_points}
use Rattle.capi.proofs.Stated.{answered}
use Rattle.capi.proofs.pairstat_points_auto.Goals as goal

pub returns : goal.returns
returns c =
    answered _ _ _ _ _ c.number_of.ensures c.points_auto.ensures.number c.points_auto.ensures.pack_after
    (ap one_points c.set_from-set.ensures)
    c.edges_from.ensures c.edges_from-value.ensures c.kind_from.ensures c.op_from.ensures c.shape_from.ensures

use Rattle.twopoint_cartesian.proofs.Cells.{near_offset}
use Rattle.twopoint_cartesian.proofs.Distance.{distance_is}
use Rattle.twopoint_cartesian.proofs.held.Overlap.distance_squared.Goals as goal

pub returns : goal.returns
returns c =
    let p = c.args.self in
    let h = p.reached in
    distance_is c.args.width p.a p.b p.o (near_offset _ _ _ h) h.first.global h.second.global _ _ _ c.displaced_squared-z.ensures c.displaced_squared.ensures c.displaced_squared-2.ensures

use Rattle.spatial.specs.Readings.{block_of}
use Rattle.twopoint_cartesian.proofs.Cells.{near_offset, overlap_is}
use Rattle.twopoint_cartesian.proofs.held.Overlap.axes.Goals as goal

pub returns : goal.returns
returns c = let p = c.args.self in overlap_is (block_of p.a) (block_of p.b) p.o (near_offset _ _ _ p.reached) _ _ _ c.count-z.ensures c.count-y.ensures c.count-x.ensures

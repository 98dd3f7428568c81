use Rattle.definitions.specs.Blocks.{start_a, start_b}
use Rattle.spatial.specs.Readings.{block_of}
use Rattle.twopoint_cartesian.proofs.Cells.{near_offset, first_placed, second_placed, start_placed, start_index, planes_is}
use Rattle.twopoint_cartesian.proofs.held.Overlap.planes.Goals as goal

pub cell_index-i-requires : goal.cell_index-i-requires
cell_index-i-requires c =
    let h = c.args.self.reached in
    start_placed start_a c.args.self.o (near_offset _ _ _ h) _ _ _ c.start_a-az.ensures c.start_a-ay.ensures c.start_a-ax.ensures _ _ _ (first_placed _ _ _ h)

pub cell_index-j-requires : goal.cell_index-j-requires
cell_index-j-requires c =
    let h = c.args.self.reached in
    start_placed start_b c.args.self.o (near_offset _ _ _ h) _ _ _ c.start_b-bz.ensures c.start_b-by.ensures c.start_b-bx.ensures _ _ _ (second_placed _ _ _ h)

pub returns : goal.returns
returns c =
    let n = near_offset _ _ _ c.args.self.reached in
    planes_is c.args.self.a c.args.self.b c.args.self.o c.args.self.reached _ _ _
    (start_index start_a c.args.self.o n _ _ _ c.start_a-az.ensures c.start_a-ay.ensures c.start_a-ax.ensures (block_of c.args.self.a) _ c.cell_index-i.ensures)
    (start_index start_b c.args.self.o n _ _ _ c.start_b-bz.ensures c.start_b-by.ensures c.start_b-bx.ensures (block_of c.args.self.b) _ c.cell_index-j.ensures)
    c.axes-n.ensures

-- What a block, the widths and the blocks of a run stand for in the definitions.
use Rattle.definitions.specs.Blocks as Blocks
use Rattle.definitions.specs.Blocks.{CartesianBlock}
use Rattle.definitions.specs.Run as run
use Rattle.spatial.specs.declared.Block.{Block}
use Rattle.spatial.specs.declared.CellWidth.{CellWidth}
use Rattle.parallel_serial.specs.declared.Sets.{Sets}
use Rattle.parallel_serial.specs.declared.Sets.TheVariants.{Auto, Cross}

-- a block, with its components and weights
abbrev pub block_of : Block → CartesianBlock
block_of b =
    record {
      nz = b.nz;
      ny = b.ny;
      nx = b.nx;
      sz = b.sz;
      sy = b.sy;
      sx = b.sx;
      gz = b.gz;
      gy = b.gy;
      gx = b.gx;
      comp0 = b.comp0.now;
      comp1 = b.comp1.now;
      comp2 = b.comp2.now;
      weights = b.weights.now;
    }

abbrev pub width_of : CellWidth → Blocks.CellWidth
width_of w = record { wz = w.z; wy = w.y; wx = w.x }

abbrev pub sets_of : Sets Block → Blocks.CellWidth → run.Sets
sets_of (Auto a) w = run.one_block w (block_of a)
sets_of (Cross a b) w = run.two_blocks w (block_of a) (block_of b)

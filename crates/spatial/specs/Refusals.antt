-- What the functions that judge a run promise: the definitions' tests in parts.
use Rattle.std.specs.Prelude.{Bool, not, ◌&&◌, ◌||◌, ◌≤◌, ltb}
use Rattle.std.specs.Float.{nan}
use Rattle.definitions.specs.Blocks as Blocks
use Rattle.definitions.specs.Blocks.{CartesianBlock, required_length}
use Rattle.definitions.specs.Rules.{outside, zero_axis}
use Rattle.spatial.specs.declared.Block.{Block}

-- limits and rules on pairs do not read the widths
abbrev pub no_width : Blocks.CellWidth
no_width = record { wz = nan; wy = nan; wx = nan }

-- `over_block` in three parts: axes and strides, the length, the global offsets
unfoldable pub numbers_over : CartesianBlock → Bool
numbers_over b = ltb 64 b.nz || ltb 64 b.ny || ltb 64 b.nx || ltb 65536 b.sz || ltb 65536 b.sy || ltb 65536 b.sx

unfoldable pub length_over : CartesianBlock → Bool
length_over b = not (zero_axis b) && ltb 65536 (required_length b)

unfoldable pub globals_over : CartesianBlock → Bool
globals_over b = outside b.gz || outside b.gy || outside b.gx

-- a block whose axes and strides are within the limits
pub record Limited (b : Block) : Type 0 where
  pub z_axis : b.nz ≤ 64
  pub y_axis : b.ny ≤ 64
  pub x_axis : b.nx ≤ 64
  pub z_stride : b.sz ≤ 65536
  pub y_stride : b.sy ≤ 65536
  pub x_stride : b.sx ≤ 65536

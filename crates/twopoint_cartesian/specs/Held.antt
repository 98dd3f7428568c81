-- What is known of what a run over blocks reads: the slices of its blocks, and the offsets within their reach.
use Rattle.std.specs.Prelude.{◌≡◌, List, Bool, true, false, ℕ, ◌+◌, ◌*◌, ◌≤◌, ◌<◌, length, slice_get, Some, ℤ, nat_abs, Float}
use Rattle.definitions.specs.Blocks as Blocks
use Rattle.definitions.specs.Blocks.{CartesianBlock, Cell, required_length}
use Rattle.reducer.specs.declared.Reducer.TheVariants.{Comp0Mean, ComponentSumMean, ComponentSumHistogram}
use Rattle.reducer.specs.Readings.{BuiltReducer}
use Rattle.idx_3d_offset.specs.declared.Axes.{Axes}
use Rattle.idx_3d_offset.specs.declared.Idx3DOffset.{Idx3DOffset}
use Rattle.idx_3d_offset.specs.Offsets.{idx_of, Reach, Walkable}
use Rattle.parallel_serial.specs.declared.Sets.{Sets}
use Rattle.parallel_serial.specs.Sets.{first_of, second_of}
use Rattle.spatial.specs.declared.Block.{Block}
use Rattle.spatial.specs.Readings.{block_of}
use Rattle.twopoint_cartesian.specs.declared.held.Fields.{Fields}

abbrev pub axes_of : Block → Axes
axes_of b = record { z = b.nz; y = b.ny; x = b.nx }

-- a block's three components and its weights
pub record Columns : Type 0 where
  pub comp0 : List Float
  pub comp1 : List Float
  pub comp2 : List Float
  pub weights : List Float

abbrev pub fields : List Float → List Float → List Float → List Float → Columns
fields c0 c1 c2 w = record { comp0 = c0; comp1 = c1; comp2 = c2; weights = w }

abbrev pub fields_of : Fields → Columns
fields_of f = fields f.comp0.now f.comp1.now f.comp2.now f.weights.now

-- ---- what slices hold
-- cell i
pub record Holds (f : Columns) (i : ℕ) : Type 0 where
  pub in0 : i < length f.comp0
  pub in1 : i < length f.comp1
  pub in2 : i < length f.comp2
  pub in_w : i < length f.weights

-- n cells from i on
pub record RowFits (f : Columns) (i n : ℕ) : Type 0 where
  pub in0 : i + n ≤ length f.comp0
  pub in1 : i + n ≤ length f.comp1
  pub in2 : i + n ≤ length f.comp2
  pub in_w : i + n ≤ length f.weights

-- k rows of n cells, s apart
pub record PlaneFits (f : Columns) (i s n k : ℕ) : Type 0 where
  pub start : i ≤ length f.weights
  pub row : (y : ℕ) → y < k → RowFits f (i + y * s) n

-- l planes, t apart
pub record BlockFits (f : Columns) (i s t n k l : ℕ) : Type 0 where
  pub plane : (z : ℕ) → z < l → PlaneFits f (i + z * t) s n k

-- a global offset or an offset between cells: no sum of three is near the machine's limit
pub record Near (z : ℤ) : Type 0 where
  pub near : nat_abs z ≤ 1_000_000

pub record AllNear (z y x : ℤ) : Type 0 where
  pub z_near : Near z
  pub y_near : Near y
  pub x_near : Near x

-- the numbers of an accepted block, and its slices
pub record Ready (b : CartesianBlock) : Type 0 where
  pub axes : Walkable (record { z = b.nz; y = b.ny; x = b.nx })
  pub z_stride : b.sz ≤ 65536
  pub y_stride : b.sy ≤ 65536
  pub x_stride : b.sx ≡ 1
  pub room : required_length b ≤ length b.weights
  pub in0 : length b.comp0 ≡ length b.weights
  pub in1 : length b.comp1 ≡ length b.weights
  pub in2 : length b.comp2 ≡ length b.weights
  pub global : AllNear b.gz b.gy b.gx

-- two accepted blocks, and an offset within their reach
pub record Reached (a b : Block) (o : Idx3DOffset) : Type 0 where
  pub first : Ready (block_of a)
  pub second : Ready (block_of b)
  pub reach : Reach (axes_of a) (axes_of b) (idx_of o)

-- two accepted blocks, and offsets within their reach
pub record AllReached (a b : Block) (l : List Blocks.Idx3DOffset) : Type 0 where
  pub first : Ready (block_of a)
  pub second : Ready (block_of b)
  pub reach : (i : ℕ) (d : Blocks.Idx3DOffset) → slice_get l i ≡ Some d → Reach (axes_of a) (axes_of b) d

-- the blocks of an accepted run
pub record AllReady (s : Sets Block) : Type 0 where
  pub first : Ready (block_of (first_of s))
  pub second : Ready (block_of (second_of s))

-- a cell, and strides, of which its place can be reckoned
pub record Placed (sz sy sx : ℕ) (c : Cell) : Type 0 where
  pub z_stride : sz ≤ 65536
  pub y_stride : sy ≤ 65536
  pub x_stride : sx ≤ 65536
  pub z_index : c.z < 64
  pub y_index : c.y < 64
  pub x_index : c.x < 64

abbrev pub is_mean : BuiltReducer → Bool
is_mean Comp0Mean = true
is_mean ComponentSumMean = true
is_mean (ComponentSumHistogram e) = false

-- What the private functions promise: the cells of an offset into a state of their own, its merge into its bin, and the walk over the offsets, as updates of stores.
use Rattle.std.specs.Prelude.{List, [], ◌∷◌, false, cond, ℕ, ◌+◌, ◌*◌, ◌≤◌, ◌<◌, ltb, length, get_or, map, replicate, Float}
use Rattle.std.specs.Prelude.{Option, None, Some}
use Rattle.std.specs.Float.{binary64}
use Rattle.std.specs.Float.Ieee.{add, mul}
use Rattle.definitions.specs.Lists.{at}
use Rattle.definitions.specs.Floats.{zero_f}
use Rattle.definitions.specs.Points.{Reading}
use Rattle.definitions.specs.Blocks.{CartesianBlock, Cell, cell, cell_index, start_a, start_b, count, cell_pairs, distance_squared}
use Rattle.definitions.specs.Blocks as Blocks
use Rattle.definitions.specs.Reducer.{Datum, datum_of, component_sum}
use Rattle.definitions.specs.Run.{place}
use Rattle.laws.specs.Loops.{loop_left}
use Rattle.laws.specs.Loops.{fold_pack}
use Rattle.laws.specs.Stores.{bump}
use Rattle.reducer.specs.declared.Reducer.TheVariants.{Comp0Mean, ComponentSumMean, ComponentSumHistogram}
use Rattle.reducer.specs.Readings.{BuiltReducer, op_of}
use Rattle.reducer.specs.Consume.{built_bin, consumed}
use Rattle.idx_3d_offset.specs.declared.Axes.{Axes}
use Rattle.idx_3d_offset.specs.Offsets.{idx_of, cross_seq, auto_seq}
use Rattle.idx_3d_offset.specs.Walk.{offsets_left}
use Rattle.parallel_serial.specs.declared.Setup.{Setup}
use Rattle.parallel_serial.specs.declared.Sets.{Sets}
use Rattle.parallel_serial.specs.declared.Sets.TheVariants.{Auto, Cross}
use Rattle.spatial.specs.declared.Block.{Block}
use Rattle.spatial.specs.Readings.{block_of}
use Rattle.twopoint_cartesian.specs.declared.held.Mean.{Mean}
use Rattle.twopoint_cartesian.specs.declared.held.Rows.{Rows}
use Rattle.twopoint_cartesian.specs.declared.held.Planes.{Planes}
use Rattle.twopoint_cartesian.specs.declared.held.PairRow.{PairRow}
use Rattle.twopoint_cartesian.specs.declared.held.PairPlane.{PairPlane}
use Rattle.twopoint_cartesian.specs.declared.held.PairBlock.{PairBlock}
use Rattle.twopoint_cartesian.specs.declared.held.Overlap.{Overlap}
use Rattle.twopoint_cartesian.specs.declared.held.Overlaps.{Overlaps}
use Rattle.twopoint_cartesian.specs.Held.{Columns, fields, fields_of, axes_of}

abbrev pub reading_in : Columns → ℕ → Reading
reading_in f i = record { v0 = at f.comp0 i; v1 = at f.comp1 i; v2 = at f.comp2 i; w = at f.weights i }

-- ---- pairs of cells
-- a row, a plane and a block of pairs, without what is known of them
pub record Row : Type 0 where
  pub a : Columns
  pub b : Columns
  pub i : ℕ
  pub j : ℕ
  pub n : ℕ

pub record Plane : Type 0 where
  pub a : Columns
  pub b : Columns
  pub rows : Rows

pub record Pairs : Type 0 where
  pub a : Columns
  pub b : Columns
  pub planes : Planes

abbrev pub row_of : PairRow → Row
row_of r = record { a = fields_of r.a; b = fields_of r.b; i = r.i; j = r.j; n = r.n }

abbrev pub plane_of : PairPlane → Plane
plane_of p = record { a = fields_of p.a; b = fields_of p.b; rows = p.rows }

abbrev pub pairs_of : PairBlock → Pairs
pairs_of q = record { a = fields_of q.a; b = fields_of q.b; planes = q.planes }

-- row y of a plane, and its m rows from y on
abbrev pub row_at : Plane → ℕ → Row
row_at p y = record { a = p.a; b = p.b; i = p.rows.i + y * p.rows.sa; j = p.rows.j + y * p.rows.sb; n = p.rows.n }

-- plane z of a block
abbrev pub plane_at : Pairs → ℕ → Plane
plane_at q z = record { a = q.a; b = q.b; rows = record q.planes.rows { i = q.planes.rows.i + z * q.planes.ta; j = q.planes.rows.j + z * q.planes.tb } }

-- pair x of a row
abbrev pub datum_in : Setup → Row → ℕ → Datum
datum_in setup r x = datum_of (op_of setup.op) (reading_in r.a (r.i + x)) (reading_in r.b (r.j + x))

module _ (setup : Setup) where
  -- cell i of a with cell j of b, into a state
  unfoldable pub cells_added : Columns → Columns → ℕ → ℕ → List Float → List Float
  cells_added a b i j s = consumed setup.reducer 1 0 (datum_of (op_of setup.op) (reading_in a i) (reading_in b j)) s

  -- the pairs of a row from x on, n of them
  unfoldable pub row_added : Row → ℕ → ℕ → List Float → List Float
  row_added r x n s = loop_left (λ x s. cells_added r.a r.b (r.i + x) (r.j + x) s) x n s

  -- the rows of a plane from y on, k of them
  unfoldable pub plane_added : Plane → ℕ → ℕ → List Float → List Float
  plane_added p y k s = loop_left (λ y s. row_added (row_at p y) 0 p.rows.n s) y k s

  -- the planes of a block from z on, l of them
  unfoldable pub block_added : Pairs → ℕ → ℕ → List Float → List Float
  block_added q z l s = loop_left (λ z s. plane_added (plane_at q z) 0 q.planes.rows.m s) z l s

-- ---- a histogram's row
-- the value of pair x of a row
unfoldable pub row_value : Setup → Row → ℕ → Float
row_value setup r x = component_sum (datum_in setup r x)

-- the weight to the number of a bin, if it is one
unfoldable pub weight_added : ℕ → Float → List Float → List Float
weight_added b w s = cond (ltb b (length s)) (bump b w s) s

-- the weights of the pairs from x on, m of them, each to its bin
unfoldable pub weights_added : Row → List ℕ → ℕ → ℕ → List Float → List Float
weights_added r found x m s = loop_left (λ x s. weight_added (get_or found x 0) (mul binary64 (at r.a.weights (r.i + x)) (at r.b.weights (r.j + x))) s) x m s

-- room for a row of n
pub record RowRoom (n v f : ℕ) : Type 0 where
  pub values : n ≤ v
  pub found : n ≤ f

-- ---- the same for a mean, its two numbers apart
abbrev pub scalar_of : BuiltReducer → Datum → Float
scalar_of Comp0Mean d = d.c0
scalar_of ComponentSumMean d = component_sum d
scalar_of (ComponentSumHistogram e) d = component_sum d

abbrev pub mean_added : BuiltReducer → Datum → Mean → Mean
mean_added k d m = record { total = add binary64 m.total (mul binary64 (scalar_of k d) d.weight); weight = add binary64 m.weight d.weight }

abbrev pub no_mean : Mean
no_mean = record { total = zero_f false; weight = zero_f false }

-- as a state
abbrev pub mean_state : Mean → List Float
mean_state m = m.total ∷ m.weight ∷ []

module _ (setup : Setup) where
  unfoldable pub cells_in_mean : Row → ℕ → Mean → Mean
  cells_in_mean r x m = mean_added setup.reducer (datum_in setup r x) m

  unfoldable pub row_in_mean : Row → ℕ → ℕ → Mean → Mean
  row_in_mean r x n m = loop_left (λ x m. cells_in_mean r x m) x n m

  unfoldable pub plane_in_mean : Plane → ℕ → ℕ → Mean → Mean
  plane_in_mean p y k m = loop_left (λ y m. row_in_mean (row_at p y) 0 p.rows.n m) y k m

  unfoldable pub block_in_mean : Pairs → ℕ → ℕ → Mean → Mean
  block_in_mean q z l m = loop_left (λ z m. plane_in_mean (plane_at q z) 0 q.planes.rows.m m) z l m

abbrev pub fields_in : CartesianBlock → Columns
fields_in b = fields b.comp0 b.comp1 b.comp2 b.weights

-- the first cells at the offset d, and how many there are on each axis
abbrev pub first_a : Blocks.Idx3DOffset → Cell
first_a d = cell (start_a d.dz) (start_a d.dy) (start_a d.dx)

abbrev pub first_b : Blocks.Idx3DOffset → Cell
first_b d = cell (start_b d.dz) (start_b d.dy) (start_b d.dx)

abbrev pub overlap_of : CartesianBlock → CartesianBlock → Blocks.Idx3DOffset → Axes
overlap_of a b d = record { z = count a.nz b.nz d.dz; y = count a.ny b.ny d.dy; x = count a.nx b.nx d.dx }

-- the rows of the cells at the offset d
abbrev pub planes_of : CartesianBlock → CartesianBlock → Blocks.Idx3DOffset → Planes
planes_of a b d =
    record {
      rows = record { i = cell_index a (first_a d); j = cell_index b (first_b d); sa = a.sy; sb = b.sy; n = count a.nx b.nx d.dx; m = count a.ny b.ny d.dy };
      ta = a.sz;
      tb = b.sz;
      l = count a.nz b.nz d.dz;
    }

abbrev pub pairs_at : CartesianBlock → CartesianBlock → Blocks.Idx3DOffset → Pairs
pairs_at a b d = record { a = fields_in a; b = fields_in b; planes = planes_of a b d }

-- the mean of the cells at the offset d
unfoldable pub offset_mean : Setup → CartesianBlock → CartesianBlock → Blocks.Idx3DOffset → Mean
offset_mean setup a b d = block_in_mean setup (pairs_at a b d) 0 (count a.nz b.nz d.dz) no_mean

module _ (setup : Setup) (a b : CartesianBlock) where
  unfoldable pub pair_step : Cell × Cell → List Float → List Float
  pair_step q s = cells_added setup (fields_in a) (fields_in b) (cell_index a q.0) (cell_index b q.1) s

  -- the pairs of cells at the offset d, in order
  unfoldable pub offset_cells : Blocks.Idx3DOffset → List Float → List Float
  offset_cells d s = fold_pack pair_step (cell_pairs a b d) s

-- ---- a state of its own for each offset, merged once into its bin
-- a state of zeros; shut, so that no goal writes it out
unfoldable pub fresh : ℕ → List Float
fresh n = replicate n (zero_f false)

-- the state's numbers from e on, m of them, added to state b of a pack of n
unfoldable pub state_merged : ℕ → ℕ → List Float → ℕ → ℕ → List Float → List Float
state_merged n b state e m s = loop_left (λ e s. bump (place n e b) (at state e) s) e m s

-- the pack has room for state b
pub record StateFits (n b size len : ℕ) : Type 0 where
  pub few : n ≤ 256
  pub small : size ≤ 256
  pub state : b < n
  pub pack : n * size ≤ len

abbrev pub merged_in : Option ℕ → ℕ → List Float → List Float → List Float
merged_in None n state s = s
merged_in (Some b) n state s = state_merged n b state 0 (length state) s

module _ (setup : Setup) (width : Blocks.CellWidth) (a b : CartesianBlock) (size : ℕ) where
  unfoldable pub offset_added : Blocks.Idx3DOffset → List Float → List Float
  offset_added d s = merged_in (built_bin setup.edges (distance_squared width a b d)) setup.n_states (offset_cells setup a b d (fresh size)) s

  -- all offsets of a list
  unfoldable pub offsets_added : List Blocks.Idx3DOffset → List Float → List Float
  offsets_added l s = fold_pack offset_added l s

-- ---- the walk over the offsets
-- two blocks and an offset between them
pub record Displaced : Type 0 where
  pub a : CartesianBlock
  pub b : CartesianBlock
  pub d : Blocks.Idx3DOffset

abbrev pub displaced : CartesianBlock → CartesianBlock → Blocks.Idx3DOffset → Displaced
displaced a b d = record { a = a; b = b; d = d }

abbrev pub overlap_in : Overlap → Displaced
overlap_in p = displaced (block_of p.a) (block_of p.b) (idx_of p.o)

abbrev pub overlaps_left : Overlaps → List Displaced
overlaps_left s = map (displaced (block_of s.a) (block_of s.b)) (offsets_left s.offsets)

-- those of a run
abbrev pub seq_of : Sets Block → List Displaced
seq_of (Auto a) = map (displaced (block_of a) (block_of a)) (auto_seq (axes_of a))
seq_of (Cross a b) = map (displaced (block_of a) (block_of b)) (cross_seq (axes_of a) (axes_of b))

module _ (setup : Setup) (width : Blocks.CellWidth) (size : ℕ) where
  unfoldable pub overlap_added : Displaced → List Float → List Float
  overlap_added p s = offset_added setup width p.a p.b size p.d s

  unfoldable pub overlaps_added : List Displaced → List Float → List Float
  overlaps_added l s = fold_pack overlap_added l s

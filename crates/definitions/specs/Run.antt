-- One run, read downward. `drive_reduce` of the Rust is the reference. Definitions only; which runs are accepted is Rules'.
use Rattle.std.specs.Prelude.{Option, None, Some}
use Rattle.std.specs.Prelude.{List, false, cond, ℕ, ◌+◌, ◌*◌, ◌/◌, ◌%◌, Float}
use Rattle.std.specs.Float.{binary64}
use Rattle.std.specs.Float.Ieee.{add}
use Rattle.definitions.specs.Lists.{at, overwritten, fold_at, later_pairs, all_pairs}
use Rattle.definitions.specs.Floats.{zero_f}
use Rattle.definitions.specs.Bins.{Edges, bins, bin_of}
use Rattle.definitions.specs.Points.{Point, UnstructuredPoints, points, squared_diff_norm}
use Rattle.definitions.specs.Blocks.{CartesianBlock, CellWidth, Cell, Idx3DOffset, reading_at, offsets_of, is_after, cell_pairs, distance_squared}
use Rattle.definitions.specs.Reducer.{PairOperation, Kind, kind_size, Pair, pair_in, pair_term, datum_of, datum_term, in_bin}

-- auto: one set; cross: two
pub data Sets : Type 0 where
  one_points : UnstructuredPoints → Sets
  two_points : UnstructuredPoints → UnstructuredPoints → Sets
  one_block : CellWidth → CartesianBlock → Sets
  two_blocks : CellWidth → CartesianBlock → CartesianBlock → Sets

-- what a run is handed, but for the caller's slice; `states` and `size` are the pack's shape as the caller states it
pub record Run : Type 0 where
  pub sets : Sets
  pub op : PairOperation
  pub kind : Kind
  pub edges : Edges
  pub states : ℕ
  pub size : ℕ
  pub members : ℕ
  pub teams : ℕ

-- number e of state s is at e times (number of states) plus s
abbrev pub place : ℕ → ℕ → ℕ → ℕ
place states e s = e * states + s

-- so place p is number p / states of state p % states
abbrev pub number_at : ℕ → ℕ → ℕ
number_at states p = p / states

abbrev pub state_at : ℕ → ℕ → ℕ
state_at states p = p % states

-- the places that an accepted run covers, states times state size
abbrev pub used : Run → ℕ
used r = bins r.edges * kind_size r.kind

-- the pair of two points
abbrev pub pair_of : Run → Point × Point → Pair
pair_of r q = pair_in (bin_of r.edges (squared_diff_norm q.0 q.1)) (datum_of r.op q.0.rd q.1.rd)

module _ (r : Run) (p : ℕ) where
  -- what a pair of points adds at place p
  abbrev pub pair_at : Point × Point → Option Float
  pair_at q = pair_term r.kind (state_at (bins r.edges) p) (number_at (bins r.edges) p) (pair_of r q)

  -- what a pair of cells adds to a state of its offset, at that place's number
  abbrev pub cells_at : CartesianBlock → CartesianBlock → Cell × Cell → Option Float
  cells_at a b q = datum_term r.kind (number_at (bins r.edges) p) (datum_of r.op (reading_at a q.0) (reading_at b q.1))

  -- each offset sums its cells in a fresh state, merged once into its bin
  abbrev pub offset_at : CellWidth → CartesianBlock → CartesianBlock → Idx3DOffset → Option Float
  offset_at w a b d =
      in_bin (bin_of r.edges (distance_squared w a b d)) (state_at (bins r.edges) p) (Some (fold_at (cells_at a b) (zero_f false) (cell_pairs a b d)))

  -- the scratch pack, from zeros: cross takes all offsets, auto those after (0, 0, 0)
  unfoldable pub scratch_of : Sets → Float
  scratch_of (one_points s) = fold_at pair_at (zero_f false) (later_pairs (points s))
  scratch_of (two_points s t) = fold_at pair_at (zero_f false) (all_pairs (points s) (points t))
  scratch_of (one_block w a) = fold_at (λ d. cond (is_after d) (offset_at w a a d) None) (zero_f false) (offsets_of a a)
  scratch_of (two_blocks w a b) = fold_at (offset_at w a b) (zero_f false) (offsets_of a b)

  unfoldable pub scratch : Float
  scratch = scratch_of r.sets

-- scratch is added to the caller's pack, caller's number first; a longer slice's tail is not touched
abbrev pub merged : Run → List Float → List Float
merged r s = overwritten (used r) (λ p. add binary64 (at s p) (scratch r p)) s

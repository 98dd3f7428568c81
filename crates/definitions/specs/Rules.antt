-- Operations and where each stops: every rule and limit with its number, a table for each operation, in the stated order. Definitions only.
use Rattle.std.specs.Prelude.{List, [], ◌∷◌, ◌++◌, Bool, true, false, not, cond, ◌&&◌, ◌||◌, ℕ, ◌*◌, ◌/◌, ◌%◌, leb, ltb, eqb, length, ℤ, nat_abs, Float}
use Rattle.std.specs.Int.Signed.{lt_z}
use Rattle.std.specs.Float.{binary64}
use Rattle.std.specs.Float.Ieee.{sub, lt, le, eq}
use Rattle.std.specs.Float.Ieee.Scale.{finite}
use Rattle.definitions.specs.Floats.{zero_f}
use Rattle.definitions.specs.Bins.{Edges, regular, irregular, bins, bin_size}
use Rattle.definitions.specs.Points.{UnstructuredPoints, stride}
use Rattle.definitions.specs.Blocks.{CartesianBlock, CellWidth, required_length}
use Rattle.definitions.specs.Reducer.{StateKind, mean, histogram, state_size, Kind, comp0_mean, component_sum_mean, component_sum_histogram, state_kind, kind_size}
use Rattle.definitions.specs.Run.{Sets, one_points, two_points, one_block, two_blocks, Run, used, merged}

pub record Rule : Type 0 where
  pub number : ℕ
  pub broken : Bool

abbrev pub rule : ℕ → Bool → Rule
rule n b = record { number = n; broken = b }

-- the first broken rule's number; 0 is none
abbrev pub refusal : List Rule → ℕ
refusal [] = 0
refusal (r ∷ l) = cond r.broken r.number (refusal l)

-- a where no rule is broken, else b: what a call leaves
abbrev pub if_accepted : {A : Type 0} → List Rule → A → A → A
if_accepted l a b = cond (eqb (refusal l) 0) a b

-- ---- number 7: a number of the call over one of our limits, or a global offset outside its range
abbrev pub over_points : UnstructuredPoints → Bool
over_points s = ltb 4096 s.count || ltb 8192 (stride s)

abbrev pub outside : ℤ → Bool
outside g = ltb 1000000 (nat_abs g)

abbrev pub zero_axis : CartesianBlock → Bool
zero_axis b = eqb b.nz 0 || eqb b.ny 0 || eqb b.nx 0

-- the length is judged only when no axis is zero
abbrev pub over_block : CartesianBlock → Bool
over_block b =
    ltb 64 b.nz || ltb 64 b.ny || ltb 64 b.nx || ltb 65536 b.sz || ltb 65536 b.sy || ltb 65536 b.sx
    || (not (zero_axis b) && ltb 65536 (required_length b)) || outside b.gz || outside b.gy || outside b.gx

abbrev pub over_sets : Sets → Bool
over_sets (one_points s) = over_points s
over_sets (two_points s t) = over_points s || over_points t
over_sets (one_block w a) = over_block a
over_sets (two_blocks w a b) = over_block a || over_block b

abbrev pub over_edges : Edges → Bool
over_edges e = ltb 256 (bins e)

abbrev pub over_state : StateKind → Bool
over_state mean = false
over_state (histogram n) = ltb 256 n

-- the pack's limit is judged on the shape that the caller states
abbrev pub over_pack : ℕ → ℕ → Bool
over_pack states size = ltb 4096 (states * size)

-- ---- points
abbrev pub point_rules : UnstructuredPoints → List Rule
point_rules s =
    rule 1 (eqb s.count 0)
    ∷ rule 2 (ltb (stride s) s.count)
    ∷ rule 3 (not (eqb (length s.values) (length s.positions)))
    ∷ rule 4 (not (eqb (length s.positions % stride s) 0))
    ∷ rule 5 (not (eqb (length s.positions / stride s) 3))
    ∷ rule 6 (not (eqb (length s.weights) s.count))
    ∷ []

-- ---- edges
abbrev pub all_finite : List Float → Bool
all_finite [] = true
all_finite (x ∷ l) = finite x && all_finite l

abbrev pub increasing : List Float → Bool
increasing [] = true
increasing (x ∷ []) = true
increasing (x ∷ y ∷ l) = lt x y && increasing (y ∷ l)

abbrev pub regular_rules : Float → Float → ℕ → List Rule
regular_rules min max n =
    rule 8 (eqb n 0) ∷ rule 9 (le max min) ∷ rule 10 (not (finite (sub binary64 max min))) ∷ rule 11 (eq (bin_size min max n) (zero_f false)) ∷ []

abbrev pub irregular_rules : List Float → List Rule
irregular_rules es = rule 12 (ltb (length es) 2) ∷ rule 10 (not (all_finite es)) ∷ rule 13 (not (increasing es)) ∷ []

abbrev pub edge_rules : Edges → List Rule
edge_rules (regular min max n) = regular_rules min max n
edge_rules (irregular es) = irregular_rules es

-- ---- blocks and widths
abbrev pub block_rules : CartesianBlock → List Rule
block_rules b =
    rule 14 (zero_axis b)
    ∷ rule 15 (not (eqb b.sx 1))
    ∷ rule 16 (ltb b.sz (b.sy * b.ny))
    ∷ rule 17 (ltb b.sy (b.sx * b.nx))
    ∷ rule 18 (ltb (length b.weights) (required_length b))
    ∷ rule 19 (not (eqb (length b.comp0) (length b.weights) && eqb (length b.comp1) (length b.weights) && eqb (length b.comp2) (length b.weights)))
    ∷ []

-- NaN passes
abbrev pub width_rules : CellWidth → List Rule
width_rules w = rule 20 (le w.wz (zero_f false) || le w.wy (zero_f false) || le w.wx (zero_f false)) ∷ []

-- ---- what each builder by itself judges
abbrev pub points_call_rules : UnstructuredPoints → List Rule
points_call_rules s = rule 7 (over_points s) ∷ point_rules s

abbrev pub edges_call_rules : Edges → List Rule
edges_call_rules e = rule 7 (over_edges e) ∷ edge_rules e

abbrev pub block_call_rules : CartesianBlock → List Rule
block_call_rules b = rule 7 (over_block b) ∷ block_rules b

-- ---- a run: its points, or blocks then widths, a before b; distance edges; value edges; 21; 22; 23; 24
abbrev pub set_rules : Sets → List Rule
set_rules (one_points s) = point_rules s
set_rules (two_points s t) = point_rules s ++ point_rules t
set_rules (one_block w a) = block_rules a ++ width_rules w
set_rules (two_blocks w a b) = block_rules a ++ (block_rules b ++ width_rules w)

abbrev pub kind_rules : Kind → List Rule
kind_rules comp0_mean = []
kind_rules component_sum_mean = []
kind_rules (component_sum_histogram e) = edge_rules e

-- b's global offset before a's in z, y, x order
abbrev pub precedes : CartesianBlock → CartesianBlock → Bool
precedes b a = lt_z b.gz a.gz || (not (lt_z a.gz b.gz) && (lt_z b.gy a.gy || (not (lt_z a.gy b.gy) && lt_z b.gx a.gx)))

-- 22: auto and one cell. One auto point is accepted
abbrev pub pair_rules : Sets → List Rule
pair_rules (one_points s) = []
pair_rules (two_points s t) = []
pair_rules (one_block w a) = rule 22 (ltb (a.nz * (a.ny * a.nx)) 2) ∷ []
pair_rules (two_blocks w a b) = rule 21 (precedes b a) ∷ []

-- the pack's shape is bins by state size, and the slice, of n numbers, is long enough
abbrev pub pack_fits : Run → ℕ → Bool
pack_fits r n = eqb r.states (bins r.edges) && eqb r.size (kind_size r.kind) && leb (used r) n

abbrev pub over_run : Run → Bool
over_run r = over_sets r.sets || over_edges r.edges || over_state (state_kind r.kind) || over_pack r.states r.size

abbrev pub run_rules : Run → ℕ → List Rule
run_rules r n =
    rule 7 (over_run r)
    ∷ (set_rules r.sets
    ++ (edge_rules r.edges
    ++ (kind_rules r.kind
    ++ (pair_rules r.sets
    ++ (rule 23 (not (eqb r.members 1 && eqb r.teams 1)) ∷ rule 24 (not (pack_fits r n)) ∷ [])))))

-- accepted at a slice of n numbers: none of these numbers is met
unfoldable pub accepted : Run → ℕ → Bool
accepted r n = eqb (refusal (run_rules r n)) 0

-- what the caller's slice holds after the run: a refusal leaves it unchanged
unfoldable pub step : Run → List Float → List Float
step r s = cond (accepted r (length s)) (merged r s) s

-- ---- reset, merge, consolidation, result; `n` and `m` are lengths of slices
-- 8: a histogram of no value bins
abbrev pub no_bins : StateKind → Bool
no_bins mean = false
no_bins (histogram n) = eqb n 0

-- a zero in the shape, or a state size not the kind's
abbrev pub bad_shape : StateKind → ℕ → ℕ → Bool
bad_shape k states size = eqb states 0 || eqb size 0 || not (eqb size (state_size k))

abbrev pub reset_rules : StateKind → ℕ → ℕ → ℕ → List Rule
reset_rules k states size n = rule 7 (over_state k || over_pack states size) ∷ rule 8 (no_bins k) ∷ rule 24 (bad_shape k states size || ltb n (states * size)) ∷ []

-- the second pack has a shape and a slice of its own
abbrev pub merge_rules : StateKind → ℕ → ℕ → ℕ → ℕ → ℕ → ℕ → List Rule
merge_rules k states size states2 size2 n m =
    rule 7 (over_state k || over_pack states size || over_pack states2 size2)
    ∷ rule 8 (no_bins k)
    ∷ rule 24 (bad_shape k states size || ltb n (states * size) || not (eqb states2 states) || not (eqb size2 size) || ltb m (states * size))
    ∷ []

abbrev pub consolidate_rules : StateKind → ℕ → ℕ → ℕ → ℕ → List Rule
consolidate_rules k packs states size n = rule 7 (over_state k || over_pack states size) ∷ rule 8 (no_bins k) ∷ rule 24 (bad_shape k states size || ltb n (packs * (states * size))) ∷ []

-- the value slice, of m numbers, needs as many as the state; i is the state's index
abbrev pub result_rules : StateKind → ℕ → ℕ → ℕ → ℕ → ℕ → List Rule
result_rules k states size i n m =
    rule 7 (over_state k || over_pack states size)
    ∷ rule 8 (no_bins k)
    ∷ rule 24 (bad_shape k states size || ltb n (states * size) || ltb m size)
    ∷ rule 25 (not (ltb i states))
    ∷ []

-- ---- segments: no segments, or index not below them
abbrev pub segment_rules : ℕ → ℕ → List Rule
segment_rules i k = rule 26 (not (ltb i k)) ∷ []

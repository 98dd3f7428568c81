-- Whole-number surveys, the list of runs, and the book of demand 3. Definitions only.
use Rattle.std.specs.Prelude.{Option, None, Some}
use Rattle.std.specs.Prelude.{List, [], ◌∷◌, ◌++◌, map, Bool, false, not, cond, ◌&&◌, ◌||◌, ℕ, zero, suc, ◌+◌, ◌*◌, ◌^◌, ◌≤◌, ◌<◌, max, T, ltb, eqb, length, ℤ, pos, nat_abs, ◌+ℤ◌, ◌-ℤ◌, ◌*ℤ◌, Float}
use Rattle.std.specs.Float.{binary64}
use Rattle.std.specs.Float.Ieee.{eq, of_int, fits}
use Rattle.definitions.specs.Lists.{at, upto, All, sum_by, pair_sum, cross_sum, largest, later_count}
use Rattle.definitions.specs.Floats.{zero_f, int_of, is_whole}
use Rattle.definitions.specs.Bins.{Edges, regular, irregular, bins, bin_of}
use Rattle.definitions.specs.Points.{Reading, Point, points}
use Rattle.definitions.specs.Blocks.{CartesianBlock, CellWidth, Cell, reading_at, cells_of}
use Rattle.definitions.specs.Reducer.{PairOperation, elementwise_multiply, elementwise_sub, Kind, comp0_mean, component_sum_mean, component_sum_histogram}
use Rattle.definitions.specs.Run.{Sets, one_points, two_points, one_block, two_blocks, Run, used, number_at, state_at}
use Rattle.definitions.specs.Rules.{accepted, step}

-- ════ the list: the first run gets the slice as it started, each later one as the one before left it
unfoldable pub steps : List Run → List Float → List Float
steps [] s = s
steps (r ∷ l) s = steps l (step r s)

-- ════ what the book reads: a run's points in whole numbers
pub record ReadingZ : Type 0 where
  pub v0 : ℤ
  pub v1 : ℤ
  pub v2 : ℤ
  pub w : ℤ

pub record PointZ : Type 0 where
  pub c0 : ℤ
  pub c1 : ℤ
  pub c2 : ℤ
  pub rd : ReadingZ

abbrev pub reading_z : Reading → ReadingZ
reading_z a = record { v0 = int_of a.v0; v1 = int_of a.v1; v2 = int_of a.v2; w = int_of a.w }

abbrev pub point_z : Point → PointZ
point_z a = record { c0 = int_of a.c0; c1 = int_of a.c1; c2 = int_of a.c2; rd = reading_z a.rd }

-- a cell's coordinate: (global offset + index) times width
abbrev pub coordinate : ℤ → ℕ → Float → ℤ
coordinate g i w = (g +ℤ pos i) *ℤ int_of w

-- a block's cells stand for points, in order z, y, x, at their coordinates
abbrev pub cell_point : CellWidth → CartesianBlock → Cell → PointZ
cell_point w b c = record { c0 = coordinate b.gz c.z w.wz; c1 = coordinate b.gy c.y w.wy; c2 = coordinate b.gx c.x w.wx; rd = reading_z (reading_at b c) }

-- auto: every point with every later one; cross: every point of a with every point of b
pub data Cloud : Type 0 where
  one : List PointZ → Cloud
  two : List PointZ → List PointZ → Cloud

unfoldable pub cloud : Sets → Cloud
cloud (one_points s) = one (map point_z (points s))
cloud (two_points s t) = two (map point_z (points s)) (map point_z (points t))
cloud (one_block w a) = one (map (cell_point w a) (cells_of a))
cloud (two_blocks w a b) = two (map (cell_point w a) (cells_of a)) (map (cell_point w b) (cells_of b))

abbrev pub cloud_sum : (PointZ → PointZ → ℤ) → Cloud → ℤ
cloud_sum f (one l) = pair_sum f l
cloud_sum f (two l m) = cross_sum f l m

-- ════ what a pair adds, in whole numbers
abbrev pub component_z : PairOperation → ℤ → ℤ → ℤ
component_z elementwise_sub a b = b -ℤ a
component_z elementwise_multiply a b = b *ℤ a

abbrev pub component_sum_z : PairOperation → ReadingZ → ReadingZ → ℤ
component_sum_z op a b = component_z op a.v0 b.v0 +ℤ (component_z op a.v1 b.v1 +ℤ component_z op a.v2 b.v2)

abbrev pub value_z : Kind → PairOperation → ReadingZ → ReadingZ → ℤ
value_z comp0_mean op a b = component_z op a.v0 b.v0
value_z component_sum_mean op a b = component_sum_z op a b
value_z (component_sum_histogram e) op a b = component_sum_z op a b

abbrev pub square_z : ℤ → ℤ
square_z x = x *ℤ x

abbrev pub distance_z : PointZ → PointZ → ℤ
distance_z a b = square_z (b.c0 -ℤ a.c0) +ℤ (square_z (b.c1 -ℤ a.c1) +ℤ square_z (b.c2 -ℤ a.c2))

-- z where b, else 0
abbrev pub when_z : Bool → ℤ → ℤ
when_z b z = cond b z (pos 0)

abbrev pub in_bin_z : Option ℕ → ℕ → ℤ → ℤ
in_bin_z None s z = pos 0
in_bin_z (Some b) s z = when_z (eqb b s) z

-- a mean adds value times weight to number 0 of its state, and weight to number 1
abbrev pub mean_term_z : ℕ → ℤ → ℤ → ℤ
mean_term_z zero v w = v *ℤ w
mean_term_z (suc zero) v w = w
mean_term_z (suc (suc e)) v w = pos 0

-- a histogram adds weight to the number of the value's bin, or nothing if there is none; bins follow demand 2's rule on the whole value
abbrev pub term_z : Kind → ℕ → ℤ → ℤ → ℤ
term_z comp0_mean e v w = mean_term_z e v w
term_z component_sum_mean e v w = mean_term_z e v w
term_z (component_sum_histogram h) e v w = in_bin_z (bin_of h (of_int binary64 v)) e w

abbrev pub readings_z : Run → ℕ → ReadingZ → ReadingZ → ℤ
readings_z r p a b = term_z r.kind (number_at (bins r.edges) p) (value_z r.kind r.op a b) (a.w *ℤ b.w)

-- what a pair adds at place p: outside the distance bins, nothing
abbrev pub pair_z : Run → ℕ → PointZ → PointZ → ℤ
pair_z r p a b = in_bin_z (bin_of r.edges (of_int binary64 (distance_z a b))) (state_at (bins r.edges) p) (readings_z r p a.rd b.rd)

-- what an accepted run adds at place p: it takes each pair once
abbrev pub added : Run → ℕ → ℤ
added r p = cloud_sum (pair_z r p) (cloud r.sets)

-- ════ the book
-- an accepted run covers the places of its pack
abbrev pub covers : ℕ → Run → ℕ → Bool
covers n r p = accepted r n && ltb p (used r)

abbrev pub covered : ℕ → List Run → ℕ → Bool
covered n [] p = false
covered n (r ∷ l) p = covers n r p || covered n l p

-- One whole number per covered place, at first its starting total. It is fed the slice's length and each run's other arguments. A refused run changes nothing
abbrev pub book : List Float → List Run → ℕ → ℤ
book s l p = int_of (at s p) +ℤ sum_by (λ r. when_z (covers (length s) r p) (added r p)) l

-- after the list each covered place holds the book's number as f64, zero as +0.0; every other place holds its old bytes
unfoldable pub written : List Float → List Run → List Float
written s l = map (λ p. cond (covered (length s) l p) (of_int binary64 (book s l p)) (at s p)) (upto (length s))

-- ════ whole-number surveys
-- a whole number; that it is an f64 is the machine's own fact
abbrev pub WholeF : Float → Type 0
WholeF x = T (fits binary64 x) × T (is_whole x)

pub record WholeReading (a : Reading) : Type 0 where
  pub v0 : WholeF a.v0
  pub v1 : WholeF a.v1
  pub v2 : WholeF a.v2
  pub w : WholeF a.w

pub record WholePoint (a : Point) : Type 0 where
  pub c0 : WholeF a.c0
  pub c1 : WholeF a.c1
  pub c2 : WholeF a.c2
  pub rd : WholeReading a.rd

pub record WholeWidths (w : CellWidth) : Type 0 where
  pub wz : WholeF w.wz
  pub wy : WholeF w.wy
  pub wx : WholeF w.wx

-- the positions, cell widths, values and weights that the run reads are whole
abbrev pub Reads : Sets → Type 0
Reads (one_points s) = All WholePoint (points s)
Reads (two_points s t) = All WholePoint (points s) × All WholePoint (points t)
Reads (one_block w a) = WholeWidths w × All (λ c. WholeReading (reading_at a c)) (cells_of a)
Reads (two_blocks w a b) = WholeWidths w × All (λ c. WholeReading (reading_at a c)) (cells_of a) × All (λ c. WholeReading (reading_at b c)) (cells_of b)

-- coordinates are at most 2^24 in size
pub record Near (a : PointZ) : Type 0 where
  pub c0 : nat_abs a.c0 ≤ 2 ^ 24
  pub c1 : nat_abs a.c1 ≤ 2 ^ 24
  pub c2 : nat_abs a.c2 ≤ 2 ^ 24

abbrev pub listed : Cloud → List PointZ
listed (one l) = l
listed (two l m) = l ++ m

-- no irregular value edge is zero
abbrev pub NoZero : Edges → Type 0
NoZero (regular min max n) = Unit {0}
NoZero (irregular es) = All (λ e. T (fits binary64 e) × T (not (eq e (zero_f false)))) es

abbrev pub NoZeroKind : Kind → Type 0
NoZeroKind comp0_mean = Unit {0}
NoZeroKind component_sum_mean = Unit {0}
NoZeroKind (component_sum_histogram e) = NoZero e

-- P: all pairs of the run, with a bin or not
abbrev pub pairs : Cloud → ℕ
pairs (one l) = later_count l
pairs (two l m) = length l * length m

-- A run without a pair, one auto point, reads nothing. Any other reads all its points or cells
pub record SurveyRun (r : Run) : Type 0 where
  pub reads : 0 < pairs (cloud r.sets) → Reads r.sets
  pub near : 0 < pairs (cloud r.sets) → All Near (listed (cloud r.sets))
  pub edge : NoZeroKind r.kind

-- V and W: the largest sizes of the values and weights read, each at least 1
abbrev pub value_size : PointZ → ℕ
value_size a = max (nat_abs a.rd.v0) (max (nat_abs a.rd.v1) (nat_abs a.rd.v2))

abbrev pub big_v : Cloud → ℕ
big_v c = max 1 (largest value_size (listed c))

abbrev pub big_w : Cloud → ℕ
big_w c = max 1 (largest (λ a. nat_abs a.rd.w) (listed c))

abbrev pub unit : Cloud → ℕ
unit c = 6 * (big_v c * big_v c) * (big_w c * big_w c)

-- 6·V²·W²·P
abbrev pub cost : Run → ℕ
cost r = unit (cloud r.sets) * pairs (cloud r.sets)

-- over a list, the products of the accepted runs are summed
abbrev pub costs : ℕ → List Run → ℕ
costs n [] = 0
costs n (r ∷ l) = cond (accepted r n) (cost r) 0 + costs n l

-- S: the largest starting total in size, 0 if there is none
abbrev pub big_s : List Float → List Run → ℕ
big_s s l = largest (λ p. cond (covered (length s) l p) (nat_abs (int_of (at s p))) 0) (upto (length s))

pub record Survey (s : List Float) (l : List Run) : Type 0 where
  pub runs : All (λ r. T (accepted r (length s)) → SurveyRun r) l
  pub starts : (p : ℕ) → p < length s → T (covered (length s) l p) → WholeF (at s p)
  pub bound : costs (length s) l + big_s s l ≤ 2 ^ 53

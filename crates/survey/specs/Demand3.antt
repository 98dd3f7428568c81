-- Demand 3 as one claim about a whole list of runs into one slice, and what may stand for a run in the list. Definitions only.
use Rattle.std.specs.Prelude.{◌≡◌, ℕ, ◌≤◌, T, length, Float}
use Rattle.std.specs.Prelude.{Some}
use mathlib.Core.List.{List, [], ◌∷◌, ◌++◌, map, Permᴰ}
use Rattle.std.specs.Float.{binary64}
use Rattle.std.specs.Float.Ieee.{of_int}
use Rattle.definitions.specs.Lists.{at, All}
use Rattle.definitions.specs.Points.{UnstructuredPoints, points}
use Rattle.definitions.specs.Blocks.{CartesianBlock, CellWidth, Cell, cells_of, cell_index}
use Rattle.definitions.specs.Reducer.{elementwise_multiply}
use Rattle.definitions.specs.Run.{Sets, one_points, two_points, one_block, two_blocks, Run}
use Rattle.definitions.specs.Rules.{refusal, points_call_rules, accepted}
use Rattle.definitions.specs.Survey.{steps, point_z, coordinate, cell_point, written, WholePoint}

-- the same edges, kinds and shape over other sets
abbrev pub with_sets : Run → Sets → Run
with_sets r t = record { sets = t; op = r.op; kind = r.kind; edges = r.edges; states = r.states; size = r.size; members = r.members; teams = r.teams }

-- ════ a grid (a block run) listed as points
-- The points meet none of the points' numbers, so they are at most 4,096; in whole numbers they are the block's cells, in order z, y, x, at their coordinates, with their components and weights
pub record ListedBlock (w : CellWidth) (a : CartesianBlock) (s : UnstructuredPoints) : Type 0 where
  pub judged : refusal (points_call_rules s) ≡ 0
  pub whole : All WholePoint (points s)
  pub cells : map point_z (points s) ≡ map (cell_point w a) (cells_of a)

pub data ListedSets : Sets → Sets → Type 0 where
  one_listed : {w : CellWidth} {a : CartesianBlock} {s : UnstructuredPoints} → ListedBlock w a s → ListedSets (one_block w a) (one_points s)
  two_listed : {w : CellWidth} {a b : CartesianBlock} {s t : UnstructuredPoints} → ListedBlock w a s → ListedBlock w b t → ListedSets (two_blocks w a b) (two_points s t)

-- ════ points relisted within their own set
-- The same points in another order; the set meets the number that it met before, or none as before, as it does in slices of the same lengths
pub record RelistedPoints (s t : UnstructuredPoints) : Type 0 where
  pub judged : refusal (points_call_rules s) ≡ refusal (points_call_rules t)
  pub order : Permᴰ (points s) (points t)

pub data RelistedSets : Sets → Sets → Type 0 where
  one_relisted : {s t : UnstructuredPoints} → RelistedPoints s t → RelistedSets (one_points s) (one_points t)
  two_relisted : {s s' t t' : UnstructuredPoints} → RelistedPoints s t → RelistedPoints s' t' → RelistedSets (two_points s s') (two_points t t')

-- ════ what may stand for a run at a slice of n numbers
pub data Replaced (n : ℕ) : Run → Run → Type 0 where
  same : {r : Run} → Replaced n r r
  -- any accepted grid by its cells listed as points
  grid : {r : Run} {t : Sets} → T (accepted r n) → ListedSets r.sets t → Replaced n r (with_sets r t)
  -- any multiplied run, accepted or refused, by the same run with its points listed in another order
  relisted : {r : Run} {t : Sets} → r.op ≡ elementwise_multiply → RelistedSets r.sets t → Replaced n r (with_sets r t)

-- two lists, run by run
pub data Each (R : Run → Run → Type 0) : List Run → List Run → Type 0 where
  ends : Each R [] []
  also : {r q : Run} {l m : List Run} → R r q → Each R l m → Each R (r ∷ l) (q ∷ m)

-- ════ one listing that every grid has
abbrev pub components : (Cell → Float) → (Cell → Float) → (Cell → Float) → List Cell → List Float
components f g h l = map f l ++ (map g l ++ map h l)

abbrev pub listing : CellWidth → CartesianBlock → UnstructuredPoints
listing w a = record {
  count = length (cells_of a);
  stated = Some (length (cells_of a));
  positions =
      components (λ c. of_int binary64 (coordinate a.gz c.z w.wz)) (λ c. of_int binary64 (coordinate a.gy c.y w.wy)) (λ c. of_int binary64 (coordinate a.gx c.x w.wx))
      (cells_of a);
  values = components (λ c. at a.comp0 (cell_index a c)) (λ c. at a.comp1 (cell_index a c)) (λ c. at a.comp2 (cell_index a c)) (cells_of a);
  weights = map (λ c. at a.weights (cell_index a c)) (cells_of a);
}

abbrev pub list_sets : Sets → Sets
list_sets (one_points s) = one_points s
list_sets (two_points s t) = two_points s t
list_sets (one_block w a) = one_points (listing w a)
list_sets (two_blocks w a b) = two_points (listing w a) (listing w b)

-- a grid of at most 4,096 cells per block
abbrev pub SmallGrid : Sets → Type 0
SmallGrid (one_points s) = ⊥
SmallGrid (two_points s t) = ⊥
SmallGrid (one_block w a) = length (cells_of a) ≤ 4096
SmallGrid (two_blocks w a b) = (length (cells_of a) ≤ 4096) × (length (cells_of b) ≤ 4096)

-- ════ the claim for the list l into the slice s
pub record Demand3 (s : List Float) (l : List Run) : Type 0 where
  -- after the list the slice is what the book leaves: at each covered place the book's number, at every other its old bytes
  pub book : steps l s ≡ written s l
  -- the same runs in any order leave the same bytes
  pub order : (m : List Run) → Permᴰ l m → steps m s ≡ steps l s
  -- and so does the list with any accepted grids replaced by their cells listed as points, and with the points of any multiplied runs listed in another order
  pub replaced : (m : List Run) → Each (Replaced (length s)) l m → steps m s ≡ steps l s
  -- each accepted grid of at most 4,096 cells per block has such a listing
  pub listings : All (λ r. T (accepted r (length s)) → SmallGrid r.sets → Replaced (length s) r (with_sets r (list_sets r.sets))) l

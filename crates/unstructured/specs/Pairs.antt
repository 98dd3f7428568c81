-- What the private functions promise: pairs and the loops over them, as updates of the pack.
use Rattle.std.specs.Prelude.{Some, List, map, ℕ, ◌+◌, ◌-◌, Float}
use Rattle.definitions.specs.Lists.{range, upto, later_pairs, all_pairs}
use Rattle.definitions.specs.Points as points
use Rattle.definitions.specs.Points.{UnstructuredPoints, stride, point_at, squared_diff_norm}
use Rattle.definitions.specs.Reducer as Reducer
use Rattle.definitions.specs.Reducer.{kept, dropped, pair_in, datum_of}
use Rattle.laws.specs.Loops.{fold_pack}
use Rattle.reducer.specs.Readings.{op_of}
use Rattle.reducer.specs.Consume.{built_bin, consumed}
use Rattle.parallel_serial.specs.declared.Setup.{Setup}
use Rattle.parallel_serial.specs.declared.Sets.{Sets}
use Rattle.parallel_serial.specs.declared.Sets.TheVariants.{Auto, Cross}
use Rattle.unstructured_points.specs.declared.PointSet.{PointSet}
use Rattle.unstructured_points.specs.Readings.{points_of}
use Rattle.unstructured.specs.declared.held.Points.{Points}
use Rattle.unstructured.specs.Held.{Readable}

-- point i; shut, so that a goal shows it by its name
unfoldable pub point_in : Points → ℕ → points.Point
point_in s i = point_at (record { count = i; stated = Some s.stride; positions = s.positions.now; values = s.values.now; weights = s.weights.now }) i

-- all points
unfoldable pub points_in : Points → List points.Point
points_in s = map (point_in s) (upto s.n)

-- the slices of an accepted set hold its points
abbrev pub Held : UnstructuredPoints → Type 0
Held s = Readable s.positions s.values s.weights s.count (stride s)

abbrev pub HeldSets : Sets PointSet → Type 0
HeldSets (Auto a) = Held (points_of a)
HeldSets (Cross a b) = Held (points_of a) × Held (points_of b)

-- the pairs of a run's points, in order
abbrev pub sets_pairs : Sets PointSet → List (points.Point × points.Point)
sets_pairs (Auto a) = later_pairs (points.points (points_of a))
sets_pairs (Cross a b) = all_pairs (points.points (points_of a)) (points.points (points_of b))

abbrev pub pairs_in : Sets Points → List (points.Point × points.Point)
pairs_in (Auto a) = later_pairs (points_in a)
pairs_in (Cross a b) = all_pairs (points_in a) (points_in b)

-- in auto the second points are the later ones
abbrev pub first_partner : Sets Points → ℕ → ℕ
first_partner (Auto a) i = i + 1
first_partner (Cross a b) i = 0

module _ (setup : Setup) where
  -- the pair of two points, by built edges
  unfoldable pub built_pair : points.Point → points.Point → Reducer.Pair
  built_pair a b = pair_in (built_bin setup.edges (squared_diff_norm a b)) (datum_of (op_of setup.op) a.rd b.rd)

  -- what the pair adds, its value looked up
  abbrev pub pair_consumed : Reducer.Pair → List Float → List Float
  pair_consumed (kept b d) s = consumed setup.reducer setup.n_states b d s
  pair_consumed dropped s = s

  unfoldable pub pair_step : points.Point × points.Point → List Float → List Float
  pair_step q s = pair_consumed (built_pair q.0 q.1) s

  -- the pairs of point a with n points from k on
  unfoldable pub row_added : points.Point → (ℕ → points.Point) → ℕ → ℕ → List Float → List Float
  row_added a g k n s = fold_pack pair_step (map (λ b. (a, b)) (map g (range k n))) s

  -- all pairs of a list
  unfoldable pub filled : List (points.Point × points.Point) → List Float → List Float
  filled l s = fold_pack pair_step l s

  -- the pairs of point a with those of a set from `from` on
  abbrev pub row_from : points.Point → Points → ℕ → List Float → List Float
  row_from a set from s = row_added a (point_in set) from (set.n - from) s

  abbrev pub run_filled : Sets Points → List Float → List Float
  run_filled sets s = filled (pairs_in sets) s

-- What the rows in batches promise: lookups by tables, the places of a batch that are within the ends.
use Rattle.std.specs.Prelude.{Option, None, Some, List, [], ◌∷◌, ◌++◌, map, Bool, true, false, not, ℕ, zero, suc, length, get_or, Float}
use Rattle.std.specs.Float.{nan}
use Rattle.definitions.specs.Lists.{at}
use Rattle.definitions.specs.Bins.{below}
use Rattle.definitions.specs.Points.{Reading}
use Rattle.definitions.specs.Reducer as Reducer
use Rattle.definitions.specs.Reducer.{pair_in, datum_of, component_sum}
use Rattle.reducer.specs.declared.PairOperation.{PairOperation}
use Rattle.reducer.specs.Readings.{BuiltEdges, op_of}
use Rattle.point_pairs.specs.Pairs.{pair_added}
use Rattle.edge_table.specs.declared.Ends.{Ends}
use Rattle.edge_table.specs.Table.{past_end}
use Rattle.edge_batch.specs.Batch.{number_in}
use Rattle.parallel_serial.specs.declared.Setup.{Setup}
use Rattle.unstructured.specs.declared.held.Readings.{Readings}
use Rattle.unstructured.specs.declared.held.Found.{Found}
use Rattle.unstructured.specs.Held.{value_edges}

-- ---- the places of a batch
-- one more where the test holds
abbrev pub also : {A : Type 0} → Bool → List A → A → List A
also true l e = l ++ (e ∷ [])
also false l e = l

-- the places below m whose distances are past no end, in order
unfoldable pub kept_below : Ends → List Float → ℕ → List ℕ
kept_below ends d zero = []
kept_below ends d (suc e) = also (not (past_end ends (get_or d e nan))) (kept_below ends d e) e

-- what d has at the places
unfoldable pub picked : List Float → List ℕ → List Float
picked d places = map (λ e. get_or d e nan) places

-- ---- the reading at a place of a batch
unfoldable pub reading_in : Readings → ℕ → Reading
reading_in r e = record { v0 = at r.c0.now e; v1 = at r.c1.now e; v2 = at r.c2.now e; w = at r.w.now e }

-- ---- pairs by the numbers of their bins, which are past the bins where there is none
unfoldable pub numbered_pair : Setup → Reading → Reading → ℕ → Reducer.Pair
numbered_pair setup x y number = pair_in (below setup.n_states (Some number)) (datum_of (op_of setup.op) x y)

-- number is that of the value's bin
abbrev pub pair_placed : Setup → ℕ → Reducer.Pair → List Float → List Float
pair_placed setup number pair s = pair_added setup.reducer (Some number) setup.n_states pair s

-- ---- a point whose reading is x is paired with places of a batch; r is the reading at a place
module _ (x : Reading) (r : ℕ → Reading) where
  -- the values of the pairs
  unfoldable pub pair_values : PairOperation → List ℕ → List Float
  pair_values op places = map (λ e. component_sum (datum_of (op_of op) x (r e))) places

  -- the first n pairs
  unfoldable pub placed_to : Setup → List ℕ → List ℕ → List ℕ → ℕ → List Float → List Float
  placed_to setup places bins values zero s = s
  placed_to setup places bins values (suc q) s =
      pair_placed setup (get_or values q 0) (numbered_pair setup x (r (get_or places q 0)) (get_or bins q 0)) (placed_to setup places bins values q s)

-- the numbers of the values' bins, where there are value edges
abbrev pub value_numbers : Option BuiltEdges → List Float → List ℕ → List ℕ
value_numbers None x found = found
value_numbers (Some e) x found = map (number_in false e) x

-- the pairs with places of a batch, whose distances are d and past no end
unfoldable pub places_added : Setup → Reading → (ℕ → Reading) → List ℕ → List Float → List ℕ → List Float → List Float
places_added setup x r places d values s =
    placed_to x r setup places (map (number_in true setup.edges) d)
    (value_numbers (value_edges setup.reducer) (pair_values x r setup.op places) values) (length places) s

-- ---- the same of the structs that the code hands on; x is the first point's reading
abbrev pub values_in : Reading → Readings → PairOperation → List Float
values_in x r op = pair_values x (reading_in r) op r.places.now

-- all listed pairs, whose bins are found
abbrev pub found_added : Setup → Reading → Found → List Float → List Float
found_added setup x f s = placed_to x (reading_in f.readings) setup f.readings.places.now f.bins.now f.values.now (length f.readings.places.now) s

abbrev pub listed_added : Setup → Reading → Readings → List Float → List ℕ → List Float → List Float
listed_added setup x r d values s = places_added setup x (reading_in r) r.places.now d values s

-- What is built of edges and kinds, and what a datum does to a pack, as stores.
use Rattle.std.specs.Prelude.{Option, None, Some}
use Rattle.std.specs.Prelude.{List, Bool, cond, ◌&&◌, ℕ, ◌-◌, ◌*◌, leb, ltb, length, Float}
use Rattle.definitions.specs.Bins.{regular_index, irregular_index, below}
use Rattle.definitions.specs.Reducer.{Datum, component_sum, state_size}
use Rattle.laws.specs.Stores.{add_mean, add_hist}
use Rattle.bins.specs.Answers.{regular_of}
use Rattle.state_refusals.specs.declared.StateKind.{StateKind}
use Rattle.state_refusals.specs.declared.StateKind.TheVariants.{Mean, Histogram}
use Rattle.state_refusals.specs.Readings.{state_kind_of}
use Rattle.reducer.specs.declared.BinEdges.{BinEdges}
use Rattle.reducer.specs.declared.BinEdges.TheVariants.{Regular, Irregular}
use Rattle.reducer.specs.declared.Reducer.{Reducer}
use Rattle.reducer.specs.declared.Reducer.TheVariants.{Comp0Mean, ComponentSumMean, ComponentSumHistogram}
use Rattle.reducer.specs.Readings.{Edges, BuiltEdges, Kind, BuiltReducer}

-- how many bins edges have, where regular ones say it by f
abbrev pub bins_in : {R : Type 0} → (R → ℕ) → BinEdges R → ℕ
bins_in f (Regular e) = f e
bins_in f (Irregular list) = length list.now - 1

-- a mean, or a histogram of so many value bins
abbrev pub state_kind_in : {E : Type 0} → (E → ℕ) → Reducer E → StateKind
state_kind_in f Comp0Mean = Mean
state_kind_in f ComponentSumMean = Mean
state_kind_in f (ComponentSumHistogram e) = Histogram (f e)

-- how many numbers a state has
abbrev pub size_in : {E : Type 0} → (E → ℕ) → Reducer E → ℕ
size_in f r = state_size (state_kind_of (state_kind_in f r))

-- what is built of accepted edges, and of a kind with accepted value edges
abbrev pub made_edges : Edges → BuiltEdges
made_edges (Regular e) = Regular (regular_of e.min e.max e.n_bins)
made_edges (Irregular list) = Irregular list

abbrev pub made : Kind → BuiltReducer
made Comp0Mean = Comp0Mean
made ComponentSumMean = ComponentSumMean
made (ComponentSumHistogram e) = ComponentSumHistogram (made_edges e)

-- how many bins built edges have
abbrev pub built_bins : BuiltEdges → ℕ
built_bins e = bins_in (λ r. r.n_bins) e

-- what a lookup in built edges returns
abbrev pub built_find : BuiltEdges → Float → Option ℕ
built_find (Regular e) x = regular_index e.min e.max e.bin_size x
built_find (Irregular list) x = irregular_index list.now x

-- the bin; an index past the bins is dropped
unfoldable pub built_bin : BuiltEdges → Float → Option ℕ
built_bin e x = below (built_bins e) (built_find e x)

abbrev pub reducer_size : BuiltReducer → ℕ
reducer_size r = size_in built_bins r

-- a slice of len numbers has room for state s of a pack of n states
unfoldable pub has_room : ℕ → ℕ → ℕ → ℕ → Bool
has_room n size s len = leb n 4096 && leb size 4096 && ltb s n && leb (n * size) len

-- weight to the value's bin, if there is one
abbrev pub add_in : Option ℕ → ℕ → ℕ → Float → List Float → List Float
add_in None n s w pack = pack
add_in (Some b) n s w pack = add_hist n s b w pack

-- the bin of a datum's value; a mean needs none
abbrev pub value_bin : BuiltReducer → Datum → Option ℕ
value_bin Comp0Mean d = None
value_bin ComponentSumMean d = None
value_bin (ComponentSumHistogram e) d = built_bin e (component_sum d)

-- the datum, whose value's bin is o, is added to state s
abbrev pub added_at : BuiltReducer → Option ℕ → ℕ → ℕ → Datum → List Float → List Float
added_at Comp0Mean o n s d pack = add_mean n s d.c0 d.weight pack
added_at ComponentSumMean o n s d pack = add_mean n s (component_sum d) d.weight pack
added_at (ComponentSumHistogram e) o n s d pack = add_in (below (built_bins e) o) n s d.weight pack

-- the same, nothing where there is no room
unfoldable pub consumed_at : BuiltReducer → Option ℕ → ℕ → ℕ → Datum → List Float → List Float
consumed_at r o n s d pack = cond (has_room n (reducer_size r) s (length pack)) (added_at r o n s d pack) pack

-- the same with the value looked up
unfoldable pub consumed : BuiltReducer → ℕ → ℕ → Datum → List Float → List Float
consumed r n s d pack = consumed_at r (value_bin r d) n s d pack

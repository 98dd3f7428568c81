-- The code's pair as the definitions', and what adding it does to a pack.
use Rattle.std.specs.Prelude.{Option, None, List, ℕ, Float}
use Rattle.definitions.specs.Reducer as Reducer
use Rattle.definitions.specs.Reducer.{kept, dropped}
use Rattle.reducer.specs.Readings.{BuiltReducer}
use Rattle.reducer.specs.Consume.{value_bin, consumed_at}
use Rattle.point_pairs.specs.declared.Pair.{Pair}
use Rattle.point_pairs.specs.declared.Pair.TheVariants.{Kept, Dropped}

abbrev pub the_pair : Pair → Reducer.Pair
the_pair (Kept b c0 c1 c2 w) = kept b (record { c0 = c0; c1 = c1; c2 = c2; weight = w })
the_pair Dropped = dropped

abbrev pub pair_value_bin : BuiltReducer → Reducer.Pair → Option ℕ
pair_value_bin r (kept b d) = value_bin r d
pair_value_bin r dropped = None

-- o is the bin of a histogram's value
abbrev pub pair_added : BuiltReducer → Option ℕ → ℕ → Reducer.Pair → List Float → List Float
pair_added r o n (kept b d) s = consumed_at r o n b d s
pair_added r o n dropped s = s

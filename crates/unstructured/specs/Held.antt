-- What is known of what a run reads: its sets of points, its value edges, the readings of a batch.
use Rattle.std.specs.Prelude.{◌≡◌, Option, None, Some, List, ℕ, ◌*◌, ◌<◌, ◌≤◌, length, get_or, Float}
use Rattle.reducer.specs.declared.Reducer.TheVariants.{Comp0Mean, ComponentSumMean, ComponentSumHistogram}
use Rattle.reducer.specs.Readings.{BuiltEdges, BuiltReducer}

-- n points are in the slices
pub record Readable (p v w : List Float) (n stride : ℕ) : Type 0 where
  pub few : n ≤ 4096
  pub inside : n ≤ stride
  pub limit : stride ≤ 8192
  pub positions : stride * 3 ≤ length p
  pub values : stride * 3 ≤ length v
  pub weights : length w ≡ n

-- there are as many values of each component as weights, or more
pub record Parts (c0 c1 c2 w : List Float) : Type 0 where
  pub few : length w ≤ 4096
  pub in0 : length w ≤ length c0
  pub in1 : length w ≤ length c1
  pub in2 : length w ≤ length c2

-- each place is one of n
abbrev pub Listed : ℕ → List ℕ → Type 0
Listed n places = (q : ℕ) → q < length places → get_or places q 0 < n

-- a histogram's value edges; a mean has none
abbrev pub value_edges : BuiltReducer → Option BuiltEdges
value_edges Comp0Mean = None
value_edges ComponentSumMean = None
value_edges (ComponentSumHistogram e) = Some e

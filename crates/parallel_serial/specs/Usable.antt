-- What is known of an accepted run's edges, reducer and states.
use Rattle.std.specs.Prelude.{◌≡◌, ℕ, ◌*◌, ◌≤◌}
use Rattle.std.proofs.Props.{props}
use Rattle.reducer.specs.Readings.{BuiltEdges, BuiltReducer}
use Rattle.reducer.specs.Consume.{built_bins, reducer_size}
use Rattle.reducer.specs.Usable.{Usable, UsableValues, Usable-prop, UsableValues-prop}

-- edges and value edges can be looked up, and each bin has a state; the numbers are within the limits
pub record UsableRun (edges : BuiltEdges) (reducer : BuiltReducer) (n : ℕ) : Type 0 where
  pub edges_usable : Usable edges
  pub values_usable : UsableValues reducer
  pub states : n ≡ built_bins edges
  pub few : n ≤ 256
  pub small : reducer_size reducer ≤ 256
  pub limit : n * reducer_size reducer ≤ 4096

-- it has one proof at most
pub UsableRun-prop : (edges : BuiltEdges) (reducer : BuiltReducer) (n : ℕ) → IsProp (UsableRun edges reducer n)
UsableRun-prop edges reducer n x y =
    λ i. record {
      edges_usable = Usable-prop edges x.edges_usable y.edges_usable i;
      values_usable = UsableValues-prop reducer x.values_usable y.values_usable i;
      states = same x.states y.states i;
      few = le n 256 x.few y.few i;
      small = le (reducer_size reducer) 256 x.small y.small i;
      limit = le (n * reducer_size reducer) 4096 x.limit y.limit i;
    }
  where
    same : IsProp (n ≡ built_bins edges)
    same = Prim.hlevel props

    le : (a b : ℕ) → IsProp (a ≤ b)
    le a b = Prim.hlevel props

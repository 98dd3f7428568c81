-- Edges that a search finds its way in.
use Rattle.std.specs.Prelude.{List, ℕ, ◌≤◌, T, length, Float}
use Rattle.std.specs.Float.{binary64}
use Rattle.std.specs.Float.Ieee.{fits}
use Rattle.std.specs.Coded.{Unit-prop}
use Rattle.std.proofs.Props.{props}
use Rattle.definitions.specs.Lists.{at}
use Rattle.definitions.specs.Rules.{all_finite, increasing}
use Rattle.reducer.specs.declared.BinEdges.TheVariants.{Regular, Irregular}
use Rattle.reducer.specs.declared.Reducer.TheVariants.{Comp0Mean, ComponentSumMean, ComponentSumHistogram}
use Rattle.reducer.specs.Readings.{BuiltEdges, BuiltReducer}

pub record Searchable (es : List Float) : Type 0 where
  pub held : (i : ℕ) → T (fits binary64 (at es i))
  pub two : 2 ≤ length es
  pub few : length es ≤ 257
  pub finite : T (all_finite es)
  pub increasing : T (increasing es)

-- edges that can be searched; regular ones need not
abbrev pub Usable : BuiltEdges → Type 0
Usable (Regular e) = Unit {0}
Usable (Irregular list) = Searchable list.now

-- the same of a reducer's value edges, which a mean has not
abbrev pub UsableValues : BuiltReducer → Type 0
UsableValues Comp0Mean = Unit {0}
UsableValues ComponentSumMean = Unit {0}
UsableValues (ComponentSumHistogram e) = Usable e

-- ---- each has one proof at most
Searchable-prop : (es : List Float) → IsProp (Searchable es)
Searchable-prop es = Prim.hlevel props

pub Usable-prop : (e : BuiltEdges) → IsProp (Usable e)
Usable-prop (Regular e) = Unit-prop
Usable-prop (Irregular list) = Searchable-prop list.now

pub UsableValues-prop : (r : BuiltReducer) → IsProp (UsableValues r)
UsableValues-prop Comp0Mean = Unit-prop
UsableValues-prop ComponentSumMean = Unit-prop
UsableValues-prop (ComponentSumHistogram e) = Usable-prop e

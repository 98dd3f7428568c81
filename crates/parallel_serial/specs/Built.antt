-- What is built of edges and kinds as stated, accepted or not.
use Rattle.std.specs.Prelude.{Option, None, Some, List, [], Float}
use Rattle.definitions.specs.Bins.{regular}
use Rattle.definitions.specs.Rules.{if_accepted, edges_call_rules}
use Rattle.bins.specs.declared.RegularBinEdges.{RegularBinEdges}
use Rattle.bins.specs.Answers.{regular_of}
use Rattle.reducer.specs.declared.BinEdges.TheVariants.{Regular, Irregular}
use Rattle.reducer.specs.declared.Reducer.{Reducer}
use Rattle.reducer.specs.declared.Reducer.TheVariants.{Comp0Mean, ComponentSumMean, ComponentSumHistogram}
use Rattle.reducer.specs.Readings.{Edges, BuiltEdges, Kind, BuiltReducer}

-- built edges by their numbers: those of regular edges, if they are regular, and the list of irregular ones
abbrev pub Built : Type 0
Built = Option RegularBinEdges × List Float

abbrev pub built_of : BuiltEdges → Built
built_of (Regular e) = (Some e, [])
built_of (Irregular list) = (None, list.now)

abbrev pub reducer_of : BuiltReducer → Reducer Built
reducer_of Comp0Mean = Comp0Mean
reducer_of ComponentSumMean = ComponentSumMean
reducer_of (ComponentSumHistogram e) = ComponentSumHistogram (built_of e)

-- what is built of edges; refused regular edges leave none of their numbers
abbrev pub built_edges : Edges → Built
built_edges (Regular e) = (if_accepted (edges_call_rules (regular e.min e.max e.n_bins)) (Some (regular_of e.min e.max e.n_bins)) None, [])
built_edges (Irregular list) = (None, list.now)

abbrev pub built_reducer : Kind → Reducer Built
built_reducer Comp0Mean = Comp0Mean
built_reducer ComponentSumMean = ComponentSumMean
built_reducer (ComponentSumHistogram e) = ComponentSumHistogram (built_edges e)

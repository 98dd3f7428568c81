-- What the code's types stand for in the definitions.
use Rattle.definitions.specs.Bins as Bins
use Rattle.definitions.specs.Bins.{regular, irregular}
use Rattle.definitions.specs.Points.{Reading}
use Rattle.definitions.specs.Reducer as Reducer
use Rattle.definitions.specs.Reducer.{elementwise_multiply, elementwise_sub, comp0_mean, component_sum_mean, component_sum_histogram}
use Rattle.bins.specs.declared.RegularBinEdges.{RegularBinEdges}
use Rattle.reducer.specs.declared.PairOperation.{PairOperation}
use Rattle.reducer.specs.declared.PairOperation.TheVariants.{ElementwiseMultiply, ElementwiseSub}
use Rattle.reducer.specs.declared.RegularEdges.{RegularEdges}
use Rattle.reducer.specs.declared.BinEdges.{BinEdges}
use Rattle.reducer.specs.declared.BinEdges.TheVariants.{Regular, Irregular}
use Rattle.reducer.specs.declared.Reducer as declared
use Rattle.reducer.specs.declared.Reducer.TheVariants.{Comp0Mean, ComponentSumMean, ComponentSumHistogram}
use Rattle.reducer.specs.declared.Datum.{Datum}

-- edges, and a kind with its value edges, as the caller states them; and built
abbrev pub Edges : Type 0
Edges = BinEdges RegularEdges

abbrev pub BuiltEdges : Type 0
BuiltEdges = BinEdges RegularBinEdges

abbrev pub Kind : Type 0
Kind = declared.Reducer Edges

abbrev pub BuiltReducer : Type 0
BuiltReducer = declared.Reducer BuiltEdges

abbrev pub op_of : PairOperation → Reducer.PairOperation
op_of ElementwiseMultiply = elementwise_multiply
op_of ElementwiseSub = elementwise_sub

abbrev pub edges_of : Edges → Bins.Edges
edges_of (Regular e) = regular e.min e.max e.n_bins
edges_of (Irregular list) = irregular list.now

abbrev pub kind_of : Kind → Reducer.Kind
kind_of Comp0Mean = comp0_mean
kind_of ComponentSumMean = component_sum_mean
kind_of (ComponentSumHistogram e) = component_sum_histogram (edges_of e)

abbrev pub the_datum : Datum → Reducer.Datum
the_datum d = record { c0 = d.c0; c1 = d.c1; c2 = d.c2; weight = d.weight }

-- a datum also holds what is read of a point or a cell: three values and a weight
abbrev pub reading_of : Datum → Reading
reading_of d = record { v0 = d.c0; v1 = d.c1; v2 = d.c2; w = d.weight }

-- What the loops over points ask can be met: the edges and the table of edge_table's example, a mean over the component sum; a histogram whose value edges are the same; two points, and a batch of them.
use mathlib.Core.Path.{refl}
use mathlib.Core.Bool.{false}
use mathlib.Core.List.{List, [], ◌∷◌}
use Prim.Native.Nat.{ℕ, zero, suc, ◌-◌}
use native.Mathlib.Omega.{arith}
use lib.ListN.{length}
use lib.Ieee.{Float}
use Rattle.std.specs.Prelude.{None}
use Rattle.definitions.specs.Floats.{zero_f}
use Rattle.reducer.specs.declared.BinEdges.TheVariants.{Irregular}
use Rattle.reducer.specs.declared.Reducer.TheVariants.{ComponentSumMean, ComponentSumHistogram}
use Rattle.reducer.specs.declared.PairOperation.TheVariants.{ElementwiseMultiply}
use Rattle.reducer.specs.Readings.{BuiltEdges}
use Rattle.edge_table.proofs.Examples.{list, searchable}
use Rattle.edge_table.proofs.Lookups.{tabled}
use Rattle.edge_table.specs.declared.Lookup.{Lookup}
use Rattle.edge_table.specs.Table.{table_of}
use Rattle.parallel_serial.specs.declared.Setup.{Setup}
use Rattle.unstructured.specs.declared.held.Lookups.{Lookups}
use Rattle.unstructured.specs.declared.held.Searched.{Searched}
use Rattle.unstructured.specs.Held.{Readable, Listed, Parts}

abbrev pub edges : BuiltEdges
edges = Irregular (record { ref_ptr = (0, 0); now = list })

abbrev pub look : Lookup
look = record { edges = edges; table = table_of edges; hints = record { ref_ptr = (0, 0); now = [] }; tabled = tabled edges _ searchable refl }

abbrev pub mean : Setup
mean = record {
  op = ElementwiseMultiply;
  edges = edges;
  reducer = ComponentSumMean;
  n_states = length list - 1;
  usable = record { edges_usable = searchable; values_usable = tt; states = refl; few = omega (arith, searchable.few); small = omega arith; limit = omega (arith, searchable.few) };
}

pub histogram : Setup
unfolding list
histogram = record {
  op = ElementwiseMultiply;
  edges = edges;
  reducer = ComponentSumHistogram edges;
  n_states = length list - 1;
  usable = record { edges_usable = searchable; values_usable = searchable; states = refl; few = omega arith; small = omega arith; limit = omega arith };
}

pub searched : Searched
searched = record { setup = record { ref_ptr = (0, 0); now = mean }; ends = look.table.ends; tabled = look.tabled }

pub lookups : Lookups
lookups = record { setup = mean; edges = look; values = None; edges_are = refl; values_are = refl }

-- ---- two points
abbrev pub pair : List Float
pair = zero_f false ∷ zero_f false ∷ []

abbrev pub axes : List Float
axes = zero_f false ∷ zero_f false ∷ zero_f false ∷ zero_f false ∷ pair

pub readable : Readable axes axes pair 2 2
readable = record { few = omega arith; inside = omega arith; limit = omega arith; positions = omega arith; values = omega arith; weights = refl }

abbrev pub places : List ℕ
places = 0 ∷ 1 ∷ []

pub parts : Parts pair pair pair pair
parts = record { few = omega arith; in0 = omega arith; in1 = omega arith; in2 = omega arith }

pub listed : Listed (length pair) places
listed zero h = omega arith
listed (suc zero) h = omega arith
listed (suc (suc q)) h = absurd (omega arith)

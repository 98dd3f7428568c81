-- What `found_bin` asks of edges can be met: 0.0 and 1.0, and their table.
use mathlib.Core.Path.{refl}
use mathlib.Core.List.{List, [], ◌∷◌}
use Prim.Native.Nat.{ℕ, zero, suc}
use native.Mathlib.Omega.{arith}
use lib.Dec.{T}
use lib.Ieee
use lib.Ieee.{Float, binary64, fits, of_bits, lt}
use Rattle.definitions.specs.Lists.{at}
use Rattle.reducer.specs.declared.BinEdges.TheVariants.{Irregular}
use Rattle.reducer.specs.Readings.{BuiltEdges}
use Rattle.reducer.specs.Usable.{Searchable}
use Rattle.edge_table.specs.declared.Table.{Table}
use Rattle.edge_table.specs.Table.{table_of}
use Rattle.edge_table.specs.Tabled.{Tabled}
use Rattle.edge_table.proofs.Lookups.{tabled}

unfoldable pub list : List Float
list = of_bits binary64 0 ∷ of_bits binary64 0x3ff0_0000_0000_0000 ∷ []

pub searchable : Searchable list
unfolding list of_bits Ieee.fits Ieee.lt
searchable = record { held = held; two = omega arith; few = omega arith; finite = tt; increasing = tt }
  where
    held : (i : ℕ) → T (fits binary64 (at list i))
    held zero = tt
    held (suc zero) = tt
    held (suc (suc i)) = tt

pub edges : BuiltEdges
edges = Irregular (record { ref_ptr = (0, 0); now = list })

pub table : Table
table = table_of edges

pub usable : Tabled edges table.ends
unfolding table edges
usable = tabled edges _ searchable refl

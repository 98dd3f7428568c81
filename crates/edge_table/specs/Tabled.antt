-- What a table's lookups need to find the edges' own bins.
use Rattle.std.specs.Prelude.{◌≡◌}
use Rattle.std.proofs.Props.{props}
use Rattle.reducer.specs.Readings.{BuiltEdges}
use Rattle.reducer.specs.Usable.{Usable, Usable-prop}
use Rattle.edge_table.specs.declared.Ends.{Ends}
use Rattle.edge_table.specs.Table.{ends_of}

-- e are the edges' ends
abbrev pub EndsOf : BuiltEdges → Ends → Type 0
EndsOf edges e = e ≡ ends_of edges

pub record Tabled (edges : BuiltEdges) (e : Ends) : Type 0 where
  pub usable : Usable edges
  pub ends : EndsOf edges e

EndsOf-prop : (edges : BuiltEdges) (e : Ends) → IsProp (EndsOf edges e)
EndsOf-prop edges e = Prim.hlevel props

pub Tabled-prop : (edges : BuiltEdges) (e : Ends) → IsProp (Tabled edges e)
Tabled-prop edges e x y = λ i. record { usable = Usable-prop edges x.usable y.usable i; ends = EndsOf-prop edges e x.ends y.ends i }

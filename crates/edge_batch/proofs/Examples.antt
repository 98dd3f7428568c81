-- What `found_settled` asks can be met: the edges and the table of edge_table's example, any hints (here, one), and the value 0.5.
use mathlib.Core.Path.{◌≡◌, refl}
use mathlib.Core.Bool.{false}
use mathlib.Core.List.{List, [], ◌∷◌}
use Prim.Native.Nat.{ℕ, zero, suc}
use lib.Dec.{T}
use lib.Ieee
use lib.Ieee.{Float, binary64, fits, of_bits}
use Rattle.definitions.specs.Lists.{at}
use Rattle.edge_table.proofs.Examples.{edges, table, usable}
use Rattle.edge_table.specs.declared.Lookup.{Lookup}
use Rattle.edge_batch.specs.Batch.{each, sure, settled_or, numbers_of}
use Rattle.edge_batch.proofs.Batch.{found_settled}

pub values : List Float
values = of_bits binary64 0x3fe0_0000_0000_0000 ∷ []

pub look : Lookup
look = record { edges = edges; table = table; hints = record { ref_ptr = (0, 0); now = 7 ∷ [] }; tabled = usable }

-- the numbers that the first loop leaves
abbrev pub first : List ℕ
first = each (λ v n. sure false look v) values (0 ∷ [])

pub found : each (settled_or false look) values first ≡ numbers_of false edges values (0 ∷ [])
unfolding values look of_bits Ieee.fits
found = found_settled false look values (0 ∷ []) first refl held refl _ refl
  where
    held : (i : ℕ) → T (fits binary64 (at values i))
    held zero = tt
    held (suc i) = tt

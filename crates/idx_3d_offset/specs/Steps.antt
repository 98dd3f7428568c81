-- What the walk goes over from where it is on. Definitions only.
use Rattle.std.specs.Prelude.{Option, None, Some, List, [], ◌∷◌, ◌++◌, map, ℕ, zero, suc, ⊤}
use Rattle.std.specs.Prelude.{ℤ, pos, negsuc, ◌+ℤ◌, ◌-ℤ◌, ◌≤ℤ◌, ◌<ℤ◌}
use Rattle.std.proofs.Props.{props}
use Rattle.definitions.specs.Lists.{flat_map}
use Rattle.definitions.specs.Blocks as blocks
use Rattle.definitions.specs.Blocks.{start_b}
use Rattle.idx_3d_offset.specs.declared.Axes.{Axes}
use Rattle.idx_3d_offset.specs.declared.Offset.{Offset}

abbrev pub at : ℤ → ℤ → ℤ → blocks.Idx3DOffset
at z y x = record { dz = z; dy = y; dx = x }

abbrev pub offset_of : Offset → blocks.Idx3DOffset
offset_of o = at o.z o.y o.x

-- the lowest offset of a block with these axes, and the first past the highest on each axis
abbrev pub lowest_of : Axes → Offset
lowest_of a = record { z = pos 1 -ℤ pos a.z; y = pos 1 -ℤ pos a.y; x = pos 1 -ℤ pos a.x }

abbrev pub end_of : Axes → Offset
end_of b = record { z = pos b.z; y = pos b.y; x = pos b.x }

-- n whole numbers from d on
abbrev pub counted : ℤ → ℕ → List ℤ
counted d zero = []
counted d (suc n) = d ∷ counted (d +ℤ pos 1) n

-- those from d to before e
unfoldable pub between : ℤ → ℤ → List ℤ
between d e = counted d (start_b (e -ℤ d))

module _ (lowest end : Offset) where
  -- the offsets of a row from x on, of a plane from its row y on, and from the plane z on
  abbrev pub row : ℤ → ℤ → ℤ → List blocks.Idx3DOffset
  row z y x = map (at z y) (between x end.x)

  abbrev pub rows : ℤ → ℤ → List blocks.Idx3DOffset
  rows z y = flat_map (λ dy. row z dy lowest.x) (between y end.y)

  abbrev pub planes : ℤ → List blocks.Idx3DOffset
  planes z = flat_map (λ dz. rows dz lowest.y) (between z end.z)

  -- from the offset o on, x fastest: the rest of its row, of its plane, and the planes after it
  unfoldable pub rest : Offset → List blocks.Idx3DOffset
  rest o = (row o.z o.y o.x ++ rows o.z (o.y +ℤ pos 1)) ++ planes (o.z +ℤ pos 1)

  abbrev pub left : Option Offset → List blocks.Idx3DOffset
  left None = []
  left (Some o) = rest o

-- d is on an axis that goes from low to before end, not far from 0
pub record OnAxis (low end d : ℤ) : Type 0 where
  pub near : negsuc 62 ≤ℤ low
  pub from : low ≤ℤ d
  pub to : d <ℤ end
  pub most : end ≤ℤ pos 64

pub record Inside (lowest end o : Offset) : Type 0 where
  pub z_axis : OnAxis lowest.z end.z o.z
  pub y_axis : OnAxis lowest.y end.y o.y
  pub x_axis : OnAxis lowest.x end.x o.x

abbrev pub IsInside : Offset → Offset → Option Offset → Type 0
IsInside lowest end None = ⊤
IsInside lowest end (Some o) = Inside lowest end o

-- it has one proof at most
pub IsInside-prop : (lowest end : Offset) (o : Option Offset) → IsProp (IsInside lowest end o)
IsInside-prop lowest end None = Prim.hlevel props
IsInside-prop lowest end (Some o) = Prim.hlevel props

-- The sequences of offsets, and what the crate's answers stand for. Definitions only.
use Rattle.std.specs.Prelude.{List, [], Bool, not, cond, ◌&&◌, ℕ, ◌≤◌, ◌<◌, leb, eqb, ℤ}
use Rattle.std.specs.List.{filter}
use Rattle.definitions.specs.Blocks as blocks
use Rattle.definitions.specs.Blocks.{start_a, start_b, axes_offsets, is_after}
use Rattle.idx_3d_offset.specs.declared.Idx3DOffset.{Idx3DOffset}
use Rattle.idx_3d_offset.specs.declared.Axes.{Axes}

abbrev pub idx_of : Idx3DOffset → blocks.Idx3DOffset
idx_of o = record { dz = o.0; dy = o.1; dx = o.2 }

-- at least one cell and at most 64
abbrev pub axis_fits : ℕ → Bool
axis_fits n = not (eqb n 0) && leb n 64

unfoldable pub walkable : Axes → Bool
walkable a = axis_fits a.z && axis_fits a.y && axis_fits a.x

-- cross: all offsets of two blocks with these axes. None where an axis is 0 or over 64
unfoldable pub cross_seq : Axes → Axes → List blocks.Idx3DOffset
cross_seq a b = cond (walkable a && walkable b) (axes_offsets a.z a.y a.x b.z b.y b.x) []

-- auto: those of a block with itself that are after (0, 0, 0)
unfoldable pub auto_seq : Axes → List blocks.Idx3DOffset
auto_seq a = filter is_after (cross_seq a a)

-- at the offset d of an axis a cell of a, of L cells, has a partner in b, of M
pub record Within (L M : ℕ) (d : ℤ) : Type 0 where
  pub first : start_a d < L
  pub second : start_b d < M

pub record Reach (a b : Axes) (d : blocks.Idx3DOffset) : Type 0 where
  pub z_axis : Within a.z b.z d.dz
  pub y_axis : Within a.y b.y d.dy
  pub x_axis : Within a.x b.x d.dx

pub record Axis (n : ℕ) : Type 0 where
  pub least : 1 ≤ n
  pub most : n ≤ 64

pub record Walkable (a : Axes) : Type 0 where
  pub z_axis : Axis a.z
  pub y_axis : Axis a.y
  pub x_axis : Axis a.x

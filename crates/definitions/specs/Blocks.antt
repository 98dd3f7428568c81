-- Blocks: cells, the offsets between them in order, and the squared distance of an offset. Definitions only.
use Rattle.std.specs.Prelude.{List, map, Bool, false, ◌&&◌, ◌||◌, ℕ, suc, ◌+◌, ◌-◌, ◌*◌, min, ltb, eqb, ℤ, pos, negsuc, ◌+ℤ◌, ◌-ℤ◌, Float}
use Rattle.std.proofs.Math.IntN.{sub_ℕ}
use Rattle.std.specs.Float.{binary64}
use Rattle.std.specs.Float.Ieee.{add, mul, of_int}
use Rattle.definitions.specs.Lists.{at, upto, flat_map}
use Rattle.definitions.specs.Floats.{zero_f}
use Rattle.definitions.specs.Points.{Reading, square}

-- axes, strides and global offsets in the order z, y, x
pub record CartesianBlock : Type 0 where
  pub nz : ℕ
  pub ny : ℕ
  pub nx : ℕ
  pub sz : ℕ
  pub sy : ℕ
  pub sx : ℕ
  pub gz : ℤ
  pub gy : ℤ
  pub gx : ℤ
  pub comp0 : List Float
  pub comp1 : List Float
  pub comp2 : List Float
  pub weights : List Float

pub record CellWidth : Type 0 where
  pub wz : Float
  pub wy : Float
  pub wx : Float

-- a cell by its own index
pub record Cell : Type 0 where
  pub z : ℕ
  pub y : ℕ
  pub x : ℕ

abbrev pub cell : ℕ → ℕ → ℕ → Cell
cell z y x = record { z = z; y = y; x = x }

-- in the order z, y, x, the last one fastest
abbrev pub row : ℕ → ℕ → ℕ → List Cell
row nx z y = map (λ x. cell z y x) (upto nx)

abbrev pub plane : ℕ → ℕ → ℕ → List Cell
plane ny nx z = flat_map (λ y. row nx z y) (upto ny)

abbrev pub cells : ℕ → ℕ → ℕ → List Cell
cells nz ny nx = flat_map (λ z. plane ny nx z) (upto nz)

abbrev pub cells_of : CartesianBlock → List Cell
cells_of b = cells b.nz b.ny b.nx

abbrev pub cell_index : CartesianBlock → Cell → ℕ
cell_index b c = c.z * b.sz + c.y * b.sy + c.x * b.sx

-- so padding cells may change at will without effect
abbrev pub reading_at : CartesianBlock → Cell → Reading
reading_at b c = let i = cell_index b c in record { v0 = at b.comp0 i; v1 = at b.comp1 i; v2 = at b.comp2 i; w = at b.weights i }

-- the last cell's place and one more
abbrev pub required_length : CartesianBlock → ℕ
required_length b = (b.nz - 1) * b.sz + (b.ny - 1) * b.sy + b.nx

-- ---- offsets between cells, on one axis: a has L cells and b has M
-- from -(L - 1) to M - 1
abbrev pub offsets : ℕ → ℕ → List ℤ
offsets L M = map (λ t. sub_ℕ t (L - 1)) (upto (L + M - 1))

-- max(-d, 0), and max(d, 0): a's first cell that has a partner, and b's
abbrev pub start_a : ℤ → ℕ
start_a (pos n) = 0
start_a (negsuc m) = suc m

abbrev pub start_b : ℤ → ℕ
start_b (pos n) = n
start_b (negsuc m) = 0

-- min(a - start, b) cells if d is negative, else min(a, b - d)
abbrev pub count : ℕ → ℕ → ℤ → ℕ
count L M (pos n) = min L (M - n)
count L M (negsuc m) = min (L - suc m) M

-- ---- on three axes
-- never a cell's own index
pub record Idx3DOffset : Type 0 where
  pub dz : ℤ
  pub dy : ℤ
  pub dx : ℤ

-- x fastest; by the axes of a and of b
abbrev pub axes_offsets : ℕ → ℕ → ℕ → ℕ → ℕ → ℕ → List Idx3DOffset
axes_offsets az ay ax bz by bx = flat_map (λ dz. flat_map (λ dy. map (λ dx. record { dz = dz; dy = dy; dx = dx }) (offsets ax bx)) (offsets ay by)) (offsets az bz)

abbrev pub offsets_of : CartesianBlock → CartesianBlock → List Idx3DOffset
offsets_of a b = axes_offsets a.nz a.ny a.nx b.nz b.ny b.nx

abbrev pub is_pos : ℤ → Bool
is_pos (pos n) = ltb 0 n
is_pos (negsuc m) = false

abbrev pub is_zero : ℤ → Bool
is_zero (pos n) = eqb n 0
is_zero (negsuc m) = false

-- after (0, 0, 0) in the offsets' order
abbrev pub after : ℤ → ℤ → ℤ → Bool
after dz dy dx = is_pos dz || (is_zero dz && (is_pos dy || (is_zero dy && is_pos dx)))

abbrev pub is_after : Idx3DOffset → Bool
is_after d = after d.dz d.dy d.dx

-- a's cells from the start on, each with b's cell at the offset
abbrev pub cell_pairs : CartesianBlock → CartesianBlock → Idx3DOffset → List (Cell × Cell)
cell_pairs a b d =
    flat_map (λ k. flat_map (λ l. map (λ m. (
      cell (start_a d.dz + k) (start_a d.dy + l) (start_a d.dx + m),
      cell (start_b d.dz + k) (start_b d.dy + l) (start_b d.dx + m),
    )) (upto (count a.nx b.nx d.dx))) (upto (count a.ny b.ny d.dy))) (upto (count a.nz b.nz d.dz))

-- index displacement times width; the displacement is d plus b's global offset less a's
abbrev pub displaced : ℤ → ℤ → ℤ → Float → Float
displaced d ga gb w = mul binary64 (of_int binary64 (d +ℤ gb -ℤ ga)) w

-- from 0.0 in z, y, x order
abbrev pub distance_squared : CellWidth → CartesianBlock → CartesianBlock → Idx3DOffset → Float
distance_squared w a b d =
    add binary64 (add binary64 (add binary64 (zero_f false) (square (displaced d.dz a.gz b.gz w.wz))) (square (displaced d.dy a.gy b.gy w.wy)))
    (square (displaced d.dx a.gx b.gx w.wx))

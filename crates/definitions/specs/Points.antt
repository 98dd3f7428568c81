-- Points: what a set of them is, and the squared distance of two. Definitions only.
use Rattle.std.specs.Prelude.{Option, None, Some}
use Rattle.std.specs.Prelude.{List, map, ℕ, ◌+◌, ◌*◌, Float}
use Rattle.std.specs.Float.{binary64}
use Rattle.std.specs.Float.Ieee.{add, sub, mul}
use Rattle.definitions.specs.Lists.{at, upto}

-- three component values and a weight
pub record Reading : Type 0 where
  pub v0 : Float
  pub v1 : Float
  pub v2 : Float
  pub w : Float

pub record Point : Type 0 where
  pub c0 : Float
  pub c1 : Float
  pub c2 : Float
  pub rd : Reading

-- a set of points as it is handed over; `stated` is the stride, if it is not left out
pub record UnstructuredPoints : Type 0 where
  pub count : ℕ
  pub stated : Option ℕ
  pub positions : List Float
  pub values : List Float
  pub weights : List Float

-- a stride left out is the count
abbrev pub stride_or : ℕ → Option ℕ → ℕ
stride_or n None = n
stride_or n (Some k) = k

abbrev pub stride : UnstructuredPoints → ℕ
stride s = stride_or s.count s.stated

-- component k of point i is at k * stride + i
abbrev pub point_at : UnstructuredPoints → ℕ → Point
point_at s i = record {
  c0 = at s.positions i;
  c1 = at s.positions (stride s + i);
  c2 = at s.positions (2 * stride s + i);
  rd = record { v0 = at s.values i; v1 = at s.values (stride s + i); v2 = at s.values (2 * stride s + i); w = at s.weights i };
}

abbrev pub points : UnstructuredPoints → List Point
points s = map (point_at s) (upto s.count)

abbrev pub square : Float → Float
square x = mul binary64 x x

-- d0² + (d1² + d2²), each operation rounded once
abbrev pub squared_diff_norm : Point → Point → Float
squared_diff_norm a b =
    add binary64 (square (sub binary64 b.c0 a.c0)) (add binary64 (square (sub binary64 b.c1 a.c1)) (square (sub binary64 b.c2 a.c2)))

-- Finding the bin. Definitions only.
use Rattle.std.specs.Prelude.{Option, None, Some}
use Rattle.std.specs.Prelude.{List, cond, ◌||◌, ℕ, zero, suc, ◌-◌, ltb, length, pos, Float}
use Rattle.std.specs.Float.{binary64}
use Rattle.std.specs.Float.Ieee.{sub, div, lt, le, is_nan, of_int}
use Rattle.definitions.specs.Lists.{at}
use Rattle.definitions.specs.Floats.{not_after, as_usize}

-- regular: minimum, maximum and number of bins; irregular: the edges themselves
pub data Edges : Type 0 where
  regular : Float → Float → ℕ → Edges
  irregular : List Float → Edges

unfoldable pub bins : Edges → ℕ
bins (regular min max n) = n
bins (irregular es) = length es - 1

-- size is (max - min)/n
abbrev pub bin_size : Float → Float → ℕ → Float
bin_size min max n = div binary64 (sub binary64 max min) (of_int binary64 (pos n))

-- Below min or at or above max: no bin. Else the quotient (value - min)/size cut to a whole number. It may reach n or more
unfoldable pub regular_index : Float → Float → Float → Float → Option ℕ
regular_index min max size x = cond (lt x min || le max x) None (Some (as_usize (div binary64 (sub binary64 x min) size)))

-- of the first n edges, the last one that is not after x
unfoldable pub last_edge : List Float → Float → ℕ → Option ℕ
last_edge es x zero = None
last_edge es x (suc k) = cond (not_after (at es k) x) (Some k) (last_edge es x k)

-- The same end tests, then the last edge not after the value. Where every edge is after it, or it is NaN: no bin
unfoldable pub irregular_index : List Float → Float → Option ℕ
irregular_index es x = cond (is_nan x || lt x (at es 0) || le (at es (length es - 1)) x) None (last_edge es x (length es))

-- what a lookup returns
unfoldable pub find : Edges → Float → Option ℕ
find (regular min max n) x = regular_index min max (bin_size min max n) x
find (irregular es) x = irregular_index es x

-- an index of n or more is dropped
abbrev pub below : ℕ → Option ℕ → Option ℕ
below n None = None
below n (Some i) = cond (ltb i n) (Some i) None

-- the bin that a run or a histogram takes, or none
unfoldable pub bin_of : Edges → Float → Option ℕ
bin_of e x = below (bins e) (find e x)

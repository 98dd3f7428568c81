-- A pair, its datum, and what the datum adds to a state. Definitions only.
use Rattle.std.specs.Prelude.{Option, None, Some}
use Rattle.std.specs.Prelude.{cond, ℕ, zero, suc, eqb, Float}
use Rattle.std.specs.Float.{binary64}
use Rattle.std.specs.Float.Ieee.{add, sub, mul}
use Rattle.definitions.specs.Bins.{Edges, bins, bin_of}
use Rattle.definitions.specs.Points.{Reading}

pub data PairOperation : Type 0 where
  elementwise_multiply elementwise_sub : PairOperation

-- the state's kind: a mean, or a histogram by its count of value bins
pub data StateKind : Type 0 where
  mean : StateKind
  histogram : ℕ → StateKind

-- a mean's state is total and weight
abbrev pub mean_size : ℕ
mean_size = 2

-- a histogram's is one number per value bin
abbrev pub state_size : StateKind → ℕ
state_size mean = mean_size
state_size (histogram n) = n

-- the means over TakeComp0 and ComponentSum, and the ComponentSum histogram with its value edges
pub data Kind : Type 0 where
  comp0_mean component_sum_mean : Kind
  component_sum_histogram : Edges → Kind

abbrev pub state_kind : Kind → StateKind
state_kind comp0_mean = mean
state_kind component_sum_mean = mean
state_kind (component_sum_histogram e) = histogram (bins e)

abbrev pub kind_size : Kind → ℕ
kind_size k = state_size (state_kind k)

-- three component values and a weight
pub record Datum : Type 0 where
  pub c0 : Float
  pub c1 : Float
  pub c2 : Float
  pub weight : Float

-- second minus first, or second times first
abbrev pub component : PairOperation → Float → Float → Float
component elementwise_sub a b = sub binary64 b a
component elementwise_multiply a b = mul binary64 b a

-- the weight is first times second
abbrev pub datum_of : PairOperation → Reading → Reading → Datum
datum_of op a b = record { c0 = component op a.v0 b.v0; c1 = component op a.v1 b.v1; c2 = component op a.v2 b.v2; weight = mul binary64 a.w b.w }

-- c0 + (c1 + c2)
abbrev pub component_sum : Datum → Float
component_sum d = add binary64 d.c0 (add binary64 d.c1 d.c2)

abbrev pub value : Kind → Datum → Float
value comp0_mean d = d.c0
value component_sum_mean d = component_sum d
value (component_sum_histogram e) d = component_sum d

-- ---- what is added to number e of a state
-- total + value·w; weight + w
abbrev pub mean_term : ℕ → Float → Float → Option Float
mean_term zero v w = Some (mul binary64 v w)
mean_term (suc zero) v w = Some w
mean_term (suc (suc e)) v w = None

-- what is given goes to bin s alone
abbrev pub in_bin : Option ℕ → ℕ → Option Float → Option Float
in_bin None s o = None
in_bin (Some b) s o = cond (eqb b s) o None

-- a histogram: w to the value's bin
abbrev pub term : Kind → ℕ → Float → Float → Option Float
term comp0_mean e v w = mean_term e v w
term component_sum_mean e v w = mean_term e v w
term (component_sum_histogram h) e v w = in_bin (bin_of h v) e (Some w)

abbrev pub datum_term : Kind → ℕ → Datum → Option Float
datum_term k e d = term k e (value k d) d.weight

-- ---- a pair yields a bin number with three component values and a weight, or nothing
pub data Pair : Type 0 where
  kept : ℕ → Datum → Pair
  dropped : Pair

abbrev pub pair_in : Option ℕ → Datum → Pair
pair_in None d = dropped
pair_in (Some b) d = kept b d

-- what a pair adds to number e of state s
abbrev pub pair_term : Kind → ℕ → ℕ → Pair → Option Float
pair_term k s e (kept b d) = in_bin (Some b) s (datum_term k e d)
pair_term k s e dropped = None

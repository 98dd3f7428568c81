-- `f64::total_cmp`'s order as an unsigned number: 2^63 more than `total_key`.
use Rattle.std.specs.Prelude.{ℕ, suc, ◌+◌, ◌-◌, ◌^◌, ℤ, pos, negsuc, Float}
use Rattle.definitions.specs.Floats.{total_key}

-- z + 2^63; no z of an f64 is below -2^63
abbrev pub raised : ℤ → ℕ
raised (pos n) = 2 ^ 63 + n
raised (negsuc n) = 2 ^ 63 - suc n

unfoldable pub order_key : Float → ℕ
order_key x = raised (total_key x)

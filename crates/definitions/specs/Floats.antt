-- What Rust's documentation says of f64 beyond IEEE 754's operations, which are `lib.Ieee`'s. Definitions only.
use Rattle.std.specs.Prelude.{Bool, true, false, cond, ℕ, ◌-◌, ◌*◌, ◌/◌, ◌%◌, leb, eqb, ℤ, pos, negsuc, neg_ℤ, Float}
use Rattle.std.specs.Int.Signed.{le_z}
use Rattle.std.specs.Float.{nan, inf, fin, binary64}
use Rattle.std.specs.Float.Ieee.{up, down, to_bits, to_unsigned, top}

-- +0.0, and -0.0 where the sign is true
abbrev pub zero_f : Bool → Float
zero_f s = fin s 0 (pos 0)

-- `f64::total_cmp` compares these numbers: the bits as an i64, with all but the sign turned over where it is set. -0.0 has -1 and +0.0 has 0
unfoldable pub total_key : Float → ℤ
total_key x = let b = to_bits binary64 x in cond (leb (top binary64) b) (negsuc (b - top binary64)) (pos b)

-- x is not after y in `f64::total_cmp`'s order
abbrev pub not_after : Float → Float → Bool
not_after x y = le_z (total_key x) (total_key y)

-- `x as usize`: cut to a whole number, at the ends of the range where it is outside, 0 for a NaN
abbrev pub as_usize : Float → ℕ
as_usize x = to_unsigned 64 x

-- ---- whole numbers
abbrev pub signed : Bool → ℕ → ℤ
signed false n = pos n
signed true n = neg_ℤ (pos n)

-- a float's value cut toward zero; 0 for a NaN and an infinity
unfoldable pub int_of : Float → ℤ
int_of nan = pos 0
int_of (inf s) = pos 0
int_of (fin s m e) = signed s (m * up e / down e)

-- a whole number, -0.0 among them
unfoldable pub is_whole : Float → Bool
is_whole nan = false
is_whole (inf s) = false
is_whole (fin s m e) = eqb (m * up e % down e) 0

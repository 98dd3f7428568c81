-- A number's bytes, as the library gives them.
use mathlib.Core.Path.{◌≡◌, ap, ◌∙◌}
use mathlib.Core.List.{List, [], ◌∷◌}
use Prim.Native.Nat.{ℕ, ◌/◌, ◌%◌}
use native.Mathlib.Omega.{arith}
use lib.Ieee.{Float, binary64, to_bits}
use Rattle.std.specs.Int.{w64, to_le_bytes}
use Rattle.definitions.specs.Records.{low_bytes}
use Rattle.record_bytes.specs.Columns.{number_bytes}

low_law : (n : ℕ) → to_le_bytes w64 n ≡ low_bytes 8 n
low_law n =
    let a : n / 65536 ≡ n / 256 / 256 = omega arith in
    let b : n / 16777216 ≡ n / 256 / 256 / 256 = omega arith in
    let c : n / 4294967296 ≡ n / 256 / 256 / 256 / 256 = omega arith in
    let d : n / 1099511627776 ≡ n / 256 / 256 / 256 / 256 / 256 = omega arith in
    let e : n / 281474976710656 ≡ n / 256 / 256 / 256 / 256 / 256 / 256 = omega arith in
    let f : n / 72057594037927936 ≡ n / 256 / 256 / 256 / 256 / 256 / 256 / 256 = omega arith in
    λ j. n % 256 ∷ n / 256 % 256 ∷ a j % 256 ∷ b j % 256 ∷ c j % 256 ∷ d j % 256 ∷ e j % 256 ∷ f j % 256 ∷ []

pub number_law : (x : Float) (n : ℕ) (q r : List ℕ) → n ≡ to_bits binary64 x → q ≡ to_le_bytes w64 n → r ≡ q → r ≡ number_bytes x
unfolding number_bytes
number_law x n q r e f g = g ∙ f ∙ low_law n ∙ ap (low_bytes 8) e

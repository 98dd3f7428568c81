-- A product against a limit, by division.
use mathlib.Core.Path.{◌≡◌, refl, sym, ◌∙◌}
use mathlib.Core.Bool.{Bool, true, false}
use Prim.Native.Nat.{ℕ, ◌*◌, ◌/◌, ◌<◌}
use native.Mathlib.Nat.{div-lt_iff_lt-mul, mul-zero}
use native.Mathlib.Omega.{arith}
use lib.Dec.{ltb}
use borrow.Author.Tests.{lt-ltb, le-ltb, ltb-true, ltb-false}

-- two tests that hold together
ltb_iff : (a b c d : ℕ) → (a < b → c < d) → (c < d → a < b) → ltb a b ≡ ltb c d
ltb_iff a b c d f g = go (ltb a b) (ltb c d) refl refl
  where
    go : (x y : Bool) → ltb a b ≡ x → ltb c d ≡ y → ltb a b ≡ ltb c d
    go true y e k = e ∙ sym (lt-ltb c d (f (ltb-true a b e)))
    go false true e k = absurd (omega (arith, g (ltb-true c d k), ltb-false a b e))
    go false false e k = e ∙ sym k

pub over_none : (a b n : ℕ) → b ≡ 0 → false ≡ ltb n (a * b)
over_none a b n h = rw (h, mul-zero, le-ltb n 0 (omega arith))

pub over_by_division : (a b n : ℕ) → (b ≡ 0 → ⊥) → ltb (n / b) a ≡ ltb n (a * b)
over_by_division a b n h =
    let z : 0 < b = omega arith in
    ltb_iff (n / b) a n (a * b) (div-lt_iff_lt-mul z).0 (div-lt_iff_lt-mul z).1

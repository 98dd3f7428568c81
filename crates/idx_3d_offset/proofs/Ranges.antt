-- The cells of an axis that take part at an offset d, an i64 of any size: what the code's signed numbers are, as they are read back. Assumes nothing.
use mathlib.Core.Path.{◌≡◌, refl, ap, ◌∙◌}
use Prim.Native.Nat.{ℕ, zero, suc, ◌-◌, ◌<◌, ◌^◌, min}
use native.Mathlib.Omega.{arith}
use lib.Dec.{T}
use lib.IntN.{ℤ, pos, negsuc, nat_abs}
use lib.Signed.{non_neg}
use Rattle.std.specs.Int.{int_min, int_max}
use mir.Syntax.{w64}
use mir.Val.{Fits, SFits, to_z, of_z}
use mir.ValLaws.{to_z-of_z}
use borrow.Author.Tests.{lt-ltb}
use Rattle.definitions.specs.Blocks.{start_a, start_b, count}

module _ (d : ℤ) (f : SFits w64 d) where
  back : to_z w64 (of_z w64 d) ≡ d
  back = to_z-of_z w64 d f

-- the numbers of `min` and `max` with 0
lower : (d : ℤ) → SFits w64 d → (nat_abs (int_min d (pos 0)) ≡ start_a d) × SFits w64 (int_min d (pos 0))
lower (pos zero) f = (refl, f)
lower (pos (suc n)) f = rw (lt-ltb 0 (suc n) (omega arith)) (refl, record { sfits = omega arith })
lower (negsuc m) f = (refl, f)

upper : (d : ℤ) → SFits w64 d → (int_max d (pos 0) ≡ pos (start_b d)) × (start_b d < 2 ^ 63)
upper (pos zero) f = (refl, f.sfits)
upper (pos (suc n)) f = (rw (lt-ltb 0 (suc n) (omega arith)) refl, f.sfits)
upper (negsuc m) f = (refl, omega arith)

-- z is what a call answered
module _ (d z : ℤ) (f : SFits w64 d) where
  pub start_a_is : z ≡ int_min (to_z w64 (of_z w64 d)) (pos 0) → (r : ℕ) → r ≡ nat_abs (to_z w64 (of_z w64 z)) → r ≡ start_a d
  start_a_is e r h =
      let l = lower d f in
      let k : z ≡ int_min d (pos 0) = e ∙ ap (λ (y : ℤ). int_min y (pos 0)) (back d f) in
      h ∙ ap (λ (y : ℤ). nat_abs (to_z w64 (of_z w64 y))) k ∙ ap nat_abs (back (int_min d (pos 0)) l.1) ∙ l.0

  module _ (e : z ≡ int_max (to_z w64 (of_z w64 d)) (pos 0)) where
    greatest : to_z w64 (of_z w64 z) ≡ pos (start_b d)
    greatest =
        let u = upper d f in
        let k : z ≡ pos (start_b d) = e ∙ ap (λ (y : ℤ). int_max y (pos 0)) (back d f) ∙ u.0 in
        ap (λ (y : ℤ). to_z w64 (of_z w64 y)) k ∙ back (pos (start_b d)) (record { sfits = u.1 })

    pub start_cast : T (non_neg (to_z w64 (of_z w64 z))) × Fits w64 (nat_abs (to_z w64 (of_z w64 z)))
    start_cast = rw greatest (tt, record { fits = omega (arith, (upper d f).1) })

    pub start_b_is : nat_abs (to_z w64 (of_z w64 z)) ≡ start_b d
    start_b_is = ap nat_abs greatest

-- both signs by one rule
both : (d : ℤ) (a b : ℕ) → min (a - start_a d) (b - start_b d) ≡ count a b d
both (pos n) a b = omega arith
both (negsuc m) a b = omega arith

pub count_is : (d : ℤ) (a b s t x y r : ℕ) → SFits w64 d → s ≡ start_a (to_z w64 (of_z w64 d)) → x ≡ a - s → t ≡ start_b (to_z w64 (of_z w64 d)) → y ≡ b - t → r ≡ min x y → r ≡ count a b d
count_is d a b s t x y r f es ex et ey er =
    er ∙ (λ i. min (ex i) (ey i)) ∙ (λ i. min (a - es i) (b - et i)) ∙ (λ i. min (a - start_a (back d f i)) (b - start_b (back d f i))) ∙ both d a b

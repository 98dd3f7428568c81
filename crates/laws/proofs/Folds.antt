-- Folds of float additions over whole terms are exact. `fold_at t x l` adds to x, in order, what t gives for each item of l, if anything.
-- `Gives o z`: o is nothing and z is 0, or o is a float that is z. Assumes nothing.
use mathlib.Core.Path.{◌≡◌, sym, ap, ◌∙◌}
use Rattle.std.specs.Prelude.{Option, None, Some}
use mathlib.Core.List.{List, [], ◌∷◌}
use Prim.Native.Nat.{◌+◌, ◌≤◌}
use native.Mathlib.Omega.{arith}
use mathlib.Core.Bool.{false}
use lib.IntN.{ℤ, nat_abs, ◌+ℤ◌, +ℤ_idr, +ℤ_idl, +ℤ_assoc}
use lib.Ieee.{Float, binary64, of_int}
use Rattle.definitions.specs.Lists.{add_opt, All, fold_at, sum_by}
use Rattle.definitions.specs.Floats.{zero_f}
use Rattle.laws.proofs.Integers.{abs_add}
use Rattle.laws.proofs.WholeFloats.{Whole, limit, total_add}
use Rattle.laws.proofs.Zeros.{zero_of}
use Rattle.laws.proofs.Sums.{O, size_by}

abbrev pub Gives : Option Float → ℤ → Type 0
Gives None z = z ≡ O
Gives (Some y) z = Whole y z

one : (o : Option Float) (a z : ℤ) → Gives o z → nat_abs a ≤ limit → nat_abs (a +ℤ z) ≤ limit → add_opt o (of_int binary64 a) ≡ of_int binary64 (a +ℤ z)
one None a z g k h = ap (λ (i : ℤ). of_int binary64 i) (sym (ap (λ (i : ℤ). a +ℤ i) g ∙ +ℤ_idr a))
one (Some y) a z g k h = total_add a k g h

module _ {A : Type 0} where
  pub fold_exact : (t : A → Option Float) (f : A → ℤ) (a : ℤ) (l : List A) → All (λ x. Gives (t x) (f x)) l → nat_abs a + size_by f l ≤ limit
      → fold_at t (of_int binary64 a) l ≡ of_int binary64 (a +ℤ sum_by f l)
  fold_exact t f a [] g h = ap (λ (i : ℤ). of_int binary64 i) (sym (+ℤ_idr a))
  fold_exact t f a (x ∷ xs) g h =
      ap (λ (v : Float). fold_at t v xs) (one (t x) a (f x) g.0 (omega arith) (omega (arith, abs_add a (f x))))
      ∙ fold_exact t f (a +ℤ f x) xs g.1 (omega (arith, abs_add a (f x)))
      ∙ ap (λ (i : ℤ). of_int binary64 i) (+ℤ_assoc a (f x) (sum_by f xs))

  -- from +0.0
  pub fold_zero : (t : A → Option Float) (f : A → ℤ) (l : List A) → All (λ x. Gives (t x) (f x)) l → size_by f l ≤ limit → fold_at t (zero_f false) l ≡ of_int binary64 (sum_by f l)
  fold_zero t f l g h = ap (λ (v : Float). fold_at t v l) zero_of ∙ fold_exact t f O l g (omega arith) ∙ ap (λ (i : ℤ). of_int binary64 i) (+ℤ_idl (sum_by f l))

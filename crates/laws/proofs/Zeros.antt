-- Two floats that are the same whole number are the same float, or they are +0.0 and -0.0. So whatever can not tell +0.0 from -0.0 can not tell them apart:
-- the comparisons with any y, and the quotient that regular edges take. Assumes nothing.
use mathlib.Core.Path.{◌≡◌, refl, sym, ap, ◌∙◌, subst}
use mathlib.Core.Logic.{◌⊎◌, inl, inr}
use mathlib.Core.Bool.{Bool, true, false, not, ◌||◌, and_self, and-true}
use Prim.Native.Nat.{ℕ, zero, suc, ◌-◌, ◌*◌, ◌^◌, ◌<◌, zero-le}
use native.Mathlib.Nat.{mul-one, one-mul, zero-mul, zero-add, add-zero, zero-lt-suc, zero-min, mul-pos, sub-zero}
use native.Mathlib.Omega.{arith}
use borrow.Author.Tests.{lt-ltb, le-ltb}
use lib.Dec.{T, eqb, eqb-suc-zero}
use lib.IntN.{ℤ, pos}
use lib.Ieee.{Float, nan, inf, fin, binary64, up, down, lt, le, eq, fits, round, div, sub, sum, to_unsigned, of_int, unlike}
use lib.Ieee.Exact.{HasValue}
use lib.Ieee.Back.{whole_unique, round_whole}
use lib.Ieee.Scale.{round_same}
use lib.Ieee.Fits.{round-fits, up_pos, down_pos}
use Rattle.definitions.specs.Floats.{zero_f, signed}
use Rattle.laws.proofs.Integers.{signed_parts}
use Rattle.laws.proofs.Integers as Integers
use Rattle.laws.proofs.WholeFloats.{Whole, Plain, canon, size_of}

zero_fits : (s : Bool) → T (fits binary64 (zero_f s))
unfolding fits
zero_fits s = tt

pub zero_whole : (s : Bool) → Whole (zero_f s) (pos 0)
zero_whole s = record { sign = s; size = 0; fit = zero_fits s; val = (refl, refl); is = go s }
  where
    go : (s : Bool) → signed s 0 ≡ pos 0
    go false = refl
    go true = refl

pub zero_plain : Plain (zero_f false) (pos 0)
unfolding zero_whole
zero_plain = record { whole = zero_whole false; plus = λ t. absurd t }

-- +0.0 is `of_int` of 0
pub zero_of : zero_f false ≡ of_int binary64 (pos 0)
zero_of = canon zero_plain zero-le

pub is_zero_law : {x : Float} (w : Whole x (pos 0)) → x ≡ zero_f w.sign
is_zero_law {x} w =
    whole_unique binary64 x (zero_f w.sign) w.sign 0 w.fit (zero_fits w.sign) (subst (λ (n : ℕ). HasValue x w.sign n 1) (size_of w) w.val) (refl, refl)

-- equal numbers with unlike signs are 0
unlike_zero : (s t : Bool) (n : ℕ) → signed s n ≡ signed t n → (s ≡ t) ⊎ (n ≡ 0)
unlike_zero false false n e = inl refl
unlike_zero true true n e = inl refl
unlike_zero false true n e = inr (omega (arith, signed_parts true n, ap Integers.up e))
unlike_zero true false n e = inr (omega (arith, signed_parts true n, ap Integers.up e))

pub blind : {B : Type 0} (g : Float → B) → g (zero_f true) ≡ g (zero_f false) → {x y : Float} {z : ℤ} → Whole x z → Whole y z → g x ≡ g y
unfolding zero_whole
blind {B} g h {x} {y} {z} p q =
    go (unlike_zero p.sign q.sign p.size (p.is ∙ sym (ap (λ (n : ℕ). signed q.sign n) (size_of p ∙ sym (size_of q)) ∙ q.is)))
  where
    zeros : (s t : Bool) → g (zero_f s) ≡ g (zero_f t)
    zeros false false = refl
    zeros true true = refl
    zeros true false = h
    zeros false true = sym h

    at0 : p.size ≡ 0 → z ≡ pos 0
    at0 e = sym p.is ∙ ap (λ (n : ℕ). signed p.sign n) e ∙ (zero_whole p.sign).is

    go : (p.sign ≡ q.sign) ⊎ (p.size ≡ 0) → g x ≡ g y
    go (inl e) = ap g (whole_unique binary64 x y q.sign q.size p.fit q.fit (rw (e, size_of p ∙ sym (size_of q)) at p.val) q.val)
    go (inr e) =
        let p0 = rw (at0 e) at p in
        let q0 = rw (at0 e) at q in
        ap g (is_zero_law p0) ∙ zeros p0.sign q0.sign ∙ ap g (sym (is_zero_law q0))

-- ---- the comparisons
lt_l : (y : Float) → lt (zero_f true) y ≡ lt (zero_f false) y
unfolding lt
lt_l nan = refl
lt_l (inf t) = refl
lt_l (fin true n d) = le-ltb (n * up d * 1) (0 * 1 * down d) (omega (arith, zero-mul (down d)))
lt_l (fin false n d) = rw (zero-mul (down d), zero-add (n * up d * 1))

lt_r : (y : Float) → lt y (zero_f true) ≡ lt y (zero_f false)
unfolding lt
lt_r nan = refl
lt_r (inf t) = refl
lt_r (fin true m e) = rw (zero-mul (down e), add-zero (m * up e * 1))
lt_r (fin false m e) = sym (le-ltb (m * up e * 1) (0 * 1 * down e) (omega (arith, zero-mul (down e))))

eq_l : (y : Float) → eq (zero_f true) y ≡ eq (zero_f false) y
unfolding eq
eq_l nan = refl
eq_l (inf t) = refl
eq_l (fin true n d) = rw (zero-mul (down d))
eq_l (fin false n d) = rw (zero-mul (down d))

eq_r : (y : Float) → eq y (zero_f true) ≡ eq y (zero_f false)
unfolding eq
eq_r nan = refl
eq_r (inf t) = refl
eq_r (fin true m e) = rw (zero-mul (down e), and_self (eqb (m * up e * 1) 0)) (and-true (eqb (m * up e * 1) 0))
eq_r (fin false m e) = rw (zero-mul (down e), and_self (eqb (m * up e * 1) 0)) (sym (and-true (eqb (m * up e * 1) 0)))

le_l : (y : Float) → le (zero_f true) y ≡ le (zero_f false) y
unfolding le
le_l y = λ i. lt_l y i || eq_l y i

le_r : (y : Float) → le y (zero_f true) ≡ le y (zero_f false)
unfolding le
le_r y = λ i. lt_r y i || eq_r y i

module _ {x y : Float} {z : ℤ} (p : Whole x z) (q : Whole y z) (k : Float) where
  pub lt_same_l : lt x k ≡ lt y k
  lt_same_l = blind (λ (v : Float). lt v k) (lt_l k) p q

  pub le_same_l : le x k ≡ le y k
  le_same_l = blind (λ (v : Float). le v k) (le_l k) p q

  pub le_same_r : le k x ≡ le k y
  le_same_r = blind (λ (v : Float). le k v) (le_r k) p q

-- ---- (x - min) / size cut to a whole number, which is how regular edges find a bin
round_zero : (s : Bool) (c : ℕ) → 0 < c → round binary64 s 0 c ≡ zero_f s
round_zero s c C =
    round_same binary64 s 0 c 0 1 C (zero-lt-suc 0) (sym (zero-mul c))
    ∙ whole_unique binary64 (round binary64 s 0 1) (zero_f s) s 0 (round-fits binary64 s 0 1) (zero_fits s) (round_whole binary64 s 0 zero-le) (refl, refl)

cut_zero : (w : ℕ) (s : Bool) → to_unsigned w (zero_f s) ≡ 0
unfolding to_unsigned
cut_zero w true = refl
cut_zero w false = zero-min (2 ^ w - 1)

cut_div : (w : ℕ) (y : Float) (s : Bool) → to_unsigned w (div binary64 (zero_f s) y) ≡ 0
unfolding div
cut_div w nan s = unfold to_unsigned in refl
cut_div w (inf t) s = cut_zero w (unlike s t)
cut_div w (fin t zero d) s = unfold to_unsigned in refl
cut_div w (fin t (suc n) d) s =
    let pos : 0 < suc n * up d * 1 = rw (mul-one (suc n * up d)) (mul-pos (zero-lt-suc n) (up_pos d)) in
    rw (eqb-suc-zero n, zero-mul (down d), round_zero (unlike s t) (suc n * up d * 1) pos) (cut_zero w (unlike s t))

-- ±0 + y is y rounded, whatever the zero's sign, where y is not a zero
sum_zero : (s t : Bool) (b c : ℕ) → 0 < b → sum binary64 s 0 t b c ≡ round binary64 t b c
unfolding sum
sum_zero false false b c h = rw (zero-add b)
sum_zero true true b c h = rw (zero-add b)
sum_zero false true b c h = rw (lt-ltb 0 b h, sub-zero b)
sum_zero true false b c h = rw (lt-ltb 0 b h, sub-zero b)

-- a zero plus a zero is a zero
sum_zeros : (s t : Bool) (c : ℕ) → 0 < c → (u : Bool) × (sum binary64 s 0 t 0 c ≡ zero_f u)
unfolding sum
sum_zeros false false c h = (false, round_zero false c h)
sum_zeros true true c h = (true, round_zero true c h)
sum_zeros false true c h = (false, round_zero false c h)
sum_zeros true false c h = (false, round_zero false c h)

pub cut_blind : (w : ℕ) (k y : Float) → to_unsigned w (div binary64 (sub binary64 (zero_f true) k) y) ≡ to_unsigned w (div binary64 (sub binary64 (zero_f false) k) y)
unfolding sub
cut_blind w nan y = refl
cut_blind w (inf t) y = refl
cut_blind w (fin t zero e) y = none true ∙ sym (none false)
  where
    none : (s : Bool) → to_unsigned w (div binary64 (sub binary64 (zero_f s) (fin t zero e)) y) ≡ 0
    none s =
        let z = sum_zeros s (not t) (1 * down e) (rw (one-mul (down e)) (down_pos e)) in
        rw (zero-mul (down e), mul-one (zero * up e), zero-mul (up e), z.1) (cut_div w y z.0)
cut_blind w (fin t (suc n) e) y = ap (λ (v : Float). to_unsigned w (div binary64 v y)) (both true ∙ sym (both false))
  where
    both : (s : Bool) → sub binary64 (zero_f s) (fin t (suc n) e) ≡ round binary64 (not t) (suc n * up e * 1) (1 * down e)
    both s = rw (zero-mul (down e)) (sum_zero s (not t) (suc n * up e * 1) (1 * down e) (rw (mul-one (suc n * up e)) (mul-pos (zero-lt-suc n) (up_pos e))))

pub cut_same : (w : ℕ) (k y : Float) → {a b : Float} {z : ℤ} → Whole a z → Whole b z → to_unsigned w (div binary64 (sub binary64 a k) y) ≡ to_unsigned w (div binary64 (sub binary64 b k) y)
cut_same w k y p q = blind (λ (v : Float). to_unsigned w (div binary64 (sub binary64 v k) y)) (cut_blind w k y) p q

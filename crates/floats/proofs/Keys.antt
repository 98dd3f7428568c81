-- Keys compare as `total_cmp`'s numbers do, and follow the order of the numbers.
use Rattle.std.proofs.Common.{◌≡◌, ℕ, zero, suc, ◌+◌, ◌-◌, ◌*◌, ◌/◌, ◌^◌, ◌<◌, ◌≤◌, Bool, true, false, cond, not, ◌&&◌, T, eqb, ltb, leb, List, [], ◌∷◌, length, ℤ, pos, negsuc, sym, refl, ap, ◌∙◌, subst, true≢false, zero-le, le_trans, le_of_eq, le_refl, lt_of_le_of_lt, mul-le-mul_right, mul-pos, le-div_iff_mul-le, zero-mul, mul_right_comm, arith, ltb→lt, pow_pos, pow-add, ltb-false, ltb-true, eqb-true, le-leb, leb-false, leb-true}
use lib.Signed.{mag, le_z}
use lib.Ieee.{Float, nan, inf, fin, binary64, up, down, size, lt, eq, ne, is_nan, of_bits, to_bits, fits, neg}
use lib.Ieee.Scale.{finite}
use lib.Ieee.Digits.{size-lt, size-le, size_reaches}
use lib.Ieee.Fits.{kept-lt, down_pos, neg-fits, and_l, and_r}
use lib.Ieee.Nearest.{div_mono}
use lib.Ieee.Bits.{to_bits-lt, of_bits-to_bits}
use borrow.Author.Tests.{lt-leb}
use Rattle.definitions.specs.Lists.{at}
use Rattle.definitions.specs.Rules.{all_finite, increasing}
use Rattle.definitions.specs.Floats.{total_key, not_after}
use Rattle.floats.specs.Order.{raised, order_key}
use Rattle.floats.proofs.Laws.{nan_is}

-- ---- the key from the bits
module _ (x : Float) where
  -- r is the answer of `is_nan`
  pub key_nan : (r : Bool) → r ≡ is_nan x → r ≡ true → ◌≡◌ {A = ℕ} 0xfff8_0000_0000_0000 (order_key x)
  unfolding order_key total_key to_bits
  key_nan r q h = rw (nan_is x (sym q ∙ h))

  pub number_of_law : (r : Bool) → r ≡ is_nan x → r ≡ false → T (not (is_nan x))
  number_of_law r q h = rw (← q, h) tt

  pub bits_fit : fits binary64 x ≡ true → to_bits binary64 x ≤ 2 ^ 64 - 1
  bits_fit h = omega (arith, to_bits-lt binary64 x (subst T (sym h) tt))

  pub key_plus : to_bits binary64 x < 2 ^ 63 → to_bits binary64 x + 2 ^ 63 ≡ order_key x
  unfolding order_key total_key
  key_plus h = rw (lt-leb (2 ^ 63) (to_bits binary64 x) h) (omega arith)

  pub key_minus : 2 ^ 63 ≤ to_bits binary64 x → 2 ^ 64 - 1 - to_bits binary64 x ≡ order_key x
  unfolding order_key total_key
  key_minus h = rw (le-leb (2 ^ 63) (to_bits binary64 x) h) (omega arith)

pub ruleset keys = (key_nan, number_of_law, bits_fit, key_plus, key_minus)

-- ---- keys compare as `total_cmp`'s numbers do
leb_same : (a b c d : ℕ) → (a ≤ b → c ≤ d) → (c ≤ d → a ≤ b) → leb a b ≡ leb c d
leb_same a b c d f g = go (leb a b) (leb c d) refl refl
  where
    go : (s t : Bool) → leb a b ≡ s → leb c d ≡ t → s ≡ t
    go true true p q = refl
    go false false p q = refl
    go true false p q = absurd (omega (arith, f (leb-true a b p), leb-false c d q))
    go false true p q = absurd (omega (arith, leb-false a b p, g (leb-true c d q)))

raised_order : (a b : ℤ) → mag a < 2 ^ 63 → mag b < 2 ^ 63 → le_z a b ≡ leb (raised a) (raised b)
raised_order (pos a) (pos b) f g = leb_same a b (2 ^ 63 + a) (2 ^ 63 + b) (λ h. omega arith) (λ h. omega arith)
raised_order (pos a) (negsuc b) f g = sym (lt-leb (2 ^ 63 + a) (2 ^ 63 - suc b) (omega arith))
raised_order (negsuc a) (pos b) f g = sym (le-leb (2 ^ 63 - suc a) (2 ^ 63 + b) (omega arith))
raised_order (negsuc a) (negsuc b) f g = leb_same b a (2 ^ 63 - suc a) (2 ^ 63 - suc b) (λ h. omega arith) (λ h. omega arith)

key_small : (x : Float) → T (fits binary64 x) → mag (total_key x) < 2 ^ 63
unfolding total_key
key_small x t = go (to_bits binary64 x) (leb (2 ^ 63) (to_bits binary64 x)) refl (to_bits-lt binary64 x t)
  where
    go : (b : ℕ) (s : Bool) → leb (2 ^ 63) b ≡ s → b < 2 ^ 64 → mag (cond s (negsuc (b - 2 ^ 63)) (pos b)) < 2 ^ 63
    go b true e h = omega (arith, leb-true)
    go b false e h = leb-false (2 ^ 63) b e

pub key_order : (x y : Float) → T (fits binary64 x) → T (fits binary64 y) → not_after x y ≡ leb (order_key x) (order_key y)
unfolding order_key
key_order x y f g = raised_order (total_key x) (total_key y) (key_small x f) (key_small y g)

-- one key, one number
pub key_injective : (x y : Float) → T (fits binary64 x) → T (fits binary64 y) → order_key x ≡ order_key y → x ≡ y
unfolding order_key total_key
key_injective x y f g e = sym (of_bits-to_bits binary64 x f) ∙ ap (of_bits binary64) same ∙ of_bits-to_bits binary64 y g
  where
    go : (a b : ℕ) (s t : Bool) → leb (2 ^ 63) a ≡ s → leb (2 ^ 63) b ≡ t → a < 2 ^ 64 → b < 2 ^ 64
        → raised (cond s (negsuc (a - 2 ^ 63)) (pos a)) ≡ raised (cond t (negsuc (b - 2 ^ 63)) (pos b)) → a ≡ b
    go a b true true p q h k e = omega (arith, leb-true)
    go a b false false p q h k e = omega arith
    go a b true false p q h k e = omega (arith, leb-true)
    go a b false true p q h k e = omega (arith, leb-true)

    same : to_bits binary64 x ≡ to_bits binary64 y
    same =
        go (to_bits binary64 x) (to_bits binary64 y) (leb (2 ^ 63) (to_bits binary64 x)) (leb (2 ^ 63) (to_bits binary64 y)) refl refl
        (to_bits-lt binary64 x f) (to_bits-lt binary64 y g) e

-- ---- keys follow the order of finite numbers
-- the bits of n of the smallest values, without the sign
abbrev pattern : ℕ → ℕ
pattern n = (size n - 53) * 2 ^ 52 + n / 2 ^ (size n - 53)

pattern_mono : (n m : ℕ) → n ≤ m → pattern n ≤ pattern m
pattern_mono n m h = go (ltb (size n - 53) (size m - 53)) refl
  where
    sizes : size n ≤ size m
    sizes = size-le n (size m) (lt_of_le_of_lt h (size-lt m))

    go : (b : Bool) → ltb (size n - 53) (size m - 53) ≡ b → pattern n ≤ pattern m
    go true e =
        let k : size n - 53 < size m - 53 = ltb-true (size n - 53) (size m - 53) e in
        let a : n / 2 ^ (size n - 53) < 2 ^ 53 = kept-lt 53 n in
        let r : 2 ^ (52 + (size m - 53)) ≤ m = size_reaches m (52 + (size m - 53)) (omega arith) in
        let b : 2 ^ 52 ≤ m / 2 ^ (size m - 53) = (le-div_iff_mul-le (pow_pos (size m - 53))).1 (le_trans (le_of_eq (sym (pow-add 2 52 (size m - 53)))) r) in
        omega arith
    go false e =
        let k : size n - 53 ≡ size m - 53 = omega (arith, ltb-false (size n - 53) (size m - 53) e, sizes) in
        let p : 0 < 2 ^ (size n - 53) = pow_pos (size n - 53) in
        let a : n / 2 ^ (size n - 53) ≤ m / 2 ^ (size n - 53) = div_mono n (2 ^ (size n - 53)) m (2 ^ (size n - 53)) p p (mul-le-mul_right (2 ^ (size n - 53)) h) in
        le_trans (omega arith) (le_of_eq (ap (λ (j : ℕ). j * 2 ^ 52 + m / 2 ^ j) k))

-- a magnitude in smallest values
abbrev units : ℕ → ℤ → ℕ
units m e = m * up e * 2 ^ 1074 / down e

units_mono : (m : ℕ) (e : ℤ) (n : ℕ) (d : ℤ) → m * up e * down d ≤ n * up d * down e → units m e ≤ units n d
units_mono m e n d h =
    div_mono (m * up e * 2 ^ 1074) (down e) (n * up d * 2 ^ 1074) (down d) (down_pos e) (down_pos d)
    (le_trans (le_of_eq (mul_right_comm (m * up e) (2 ^ 1074) (down d))) (le_trans (mul-le-mul_right (2 ^ 1074) h) (le_of_eq (mul_right_comm (n * up d) (down e) (2 ^ 1074)))))

bits_plus : (m : ℕ) (e : ℤ) → to_bits binary64 (fin false m e) ≡ pattern (units m e)
unfolding to_bits
bits_plus m e = omega arith

bits_minus : (m : ℕ) (e : ℤ) → to_bits binary64 (fin true m e) ≡ 2 ^ 63 + pattern (units m e)
unfolding to_bits
bits_minus m e = omega arith

plus_is : (m : ℕ) (e : ℤ) → T (fits binary64 (fin true m e)) → order_key (fin false m e) ≡ pattern (units m e) + 2 ^ 63
plus_is m e t = omega (arith, bits_plus m e, key_plus (fin false m e) (omega (arith, bits_plus m e, bits_minus m e, to_bits-lt binary64 (fin true m e) t)))

minus_is : (m : ℕ) (e : ℤ) → order_key (fin true m e) ≡ 2 ^ 64 - 1 - (2 ^ 63 + pattern (units m e))
minus_is m e = omega (arith, bits_minus m e, key_minus (fin true m e) (omega (arith, bits_minus m e)))

pub key_mono : (x y : Float) → T (fits binary64 x) → T (fits binary64 y) → T (finite x) → T (finite y) → T (lt x y) → order_key x ≤ order_key y
unfolding lt neg
key_mono (fin false m e) (fin false n d) p q a b h =
    let u = pattern_mono (units m e) (units n d) (units_mono m e n d (omega (arith, ltb→lt))) in
    omega (arith, plus_is m e (neg-fits binary64 (fin false m e) p), plus_is n d (neg-fits binary64 (fin false n d) q))
key_mono (fin false m e) (fin true n d) p q a b h = absurd h
key_mono (fin true m e) (fin false n d) p q a b h = omega (arith, minus_is m e, plus_is n d (neg-fits binary64 (fin false n d) q))
key_mono (fin true m e) (fin true n d) p q a b h =
    let u = pattern_mono (units n d) (units m e) (units_mono n d m e (omega (arith, ltb→lt))) in
    omega (arith, minus_is m e, minus_is n d)
key_mono (fin s m e) nan p q a b h = absurd b
key_mono (fin s m e) (inf t) p q a b h = absurd b
key_mono nan y p q a b h = absurd a
key_mono (inf t) y p q a b h = absurd a

-- ---- numbers that compare equal, and are no zero
same_size : (v w : ℕ) (c : Bool) → (eqb v w && c) ≡ true → (v ≡ w) × (c ≡ true)
same_size v w c = go (eqb v w) c refl
  where
    go : (s c : Bool) → eqb v w ≡ s → (s && c) ≡ true → (v ≡ w) × (c ≡ true)
    go true true e h = (eqb-true v w e, refl)
    go true false e h = absurd (true≢false (sym h))
    go false c e h = absurd (true≢false (sym h))

zero_factor : (v c : ℕ) → 0 < c → v * c ≡ 0 → v ≡ 0
zero_factor zero c l z = refl
zero_factor (suc v) c l z =
    let k : 0 < suc v * c = mul-pos (omega arith) l in
    absurd (omega (arith, k, z))

pub key_equal : (x y : Float) → T (fits binary64 x) → T (fits binary64 y) → T (finite x) → T (finite y) → eq x y ≡ true → ne y (of_bits binary64 0) ≡ true → order_key x ≤ order_key y
unfolding eq ne neg of_bits
key_equal (fin false m e) (fin false n d) p q a b h k =
    let u = pattern_mono (units m e) (units n d) (units_mono m e n d (le_of_eq (same_size (m * up e * down d) (n * up d * down e) _ h).0)) in
    omega (arith, plus_is m e (neg-fits binary64 (fin false m e) p), plus_is n d (neg-fits binary64 (fin false n d) q))
key_equal (fin false m e) (fin true n d) p q a b h k =
    let s = same_size (m * up e * down d) (n * up d * down e) _ h in
    let z : n * up d * down e ≡ 0 = sym s.0 ∙ eqb-true (m * up e * down d) 0 s.1 in
    absurd (true≢false (sym k ∙ rw (zero_factor (n * up d) (down e) (down_pos e) z, zero-mul, zero-mul (down d))))
key_equal (fin true m e) (fin false n d) p q a b h k = omega (arith, minus_is m e, plus_is n d (neg-fits binary64 (fin false n d) q))
key_equal (fin true m e) (fin true n d) p q a b h k =
    let u = pattern_mono (units n d) (units m e) (units_mono n d m e (le_of_eq (sym (same_size (m * up e * down d) (n * up d * down e) _ h).0))) in
    omega (arith, minus_is m e, minus_is n d)
key_equal (fin s m e) nan p q a b h k = absurd b
key_equal (fin s m e) (inf t) p q a b h k = absurd b
key_equal nan y p q a b h k = absurd a
key_equal (inf t) y p q a b h k = absurd a

-- ---- edges that are finite and increasing have keys that do not fall
abbrev pub Sorted : List Float → Type 0
Sorted es = (i j : ℕ) → i ≤ j → j < length es → order_key (at es i) ≤ order_key (at es j)

pub sorted : (es : List Float) → ((i : ℕ) → T (fits binary64 (at es i))) → T (all_finite es) → T (increasing es) → Sorted es
sorted [] f a r i j h l = absurd (omega arith)
sorted (x ∷ es) f a r zero zero h l = le_refl (order_key x)
sorted (x ∷ es) f a r (suc i) zero h l = absurd (omega arith)
sorted (x ∷ []) f a r i (suc j) h l = absurd (omega arith)
sorted (x ∷ y ∷ es) f a r zero (suc j) h l =
    let p = and_r (finite x) (all_finite (y ∷ es)) a in
    le_trans (key_mono x y (f 0) (f 1) (and_l (finite x) (all_finite (y ∷ es)) a) (and_l (finite y) (all_finite es) p) (and_l (lt x y) (increasing (y ∷ es)) r))
    (sorted (y ∷ es) (λ k. f (suc k)) p (and_r (lt x y) (increasing (y ∷ es)) r) zero j zero-le (omega arith))
sorted (x ∷ y ∷ es) f a r (suc i) (suc j) h l =
    sorted (y ∷ es) (λ k. f (suc k)) (and_r (finite x) (all_finite (y ∷ es)) a) (and_r (lt x y) (increasing (y ∷ es)) r) i j (omega arith) (omega arith)

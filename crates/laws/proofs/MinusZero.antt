-- A sum whose first summand is not -0 is not -0: so a total that starts from +0 never becomes -0.
use mathlib.Core.Path.{◌≡◌, refl, sym, ◌∙◌, ap, subst}
use mathlib.Core.Bool.{Bool, true, false, cond}
use Prim.Native.Nat.{ℕ, zero, suc, ◌+◌, ◌-◌, ◌*◌, ◌/◌, ◌%◌, ◌^◌, ◌<◌, ◌≤◌, compare}
use native.Mathlib.Nat.{one-mul, mul_assoc, mul_comm, mul_left_comm, mul-pos, zero-mul, lt_irrefl, le_trans, le_of_eq, le-div_iff_mul-le, zero-lt-suc, mul-le-mul_right, mul-sub, lt_of_mul-lt-mul_right, mul-lt-mul_of_pos_right, add-mul, sub-zero}
use native.Mathlib.Omega.{arith}
use lib.IntN.{ℤ, pos, negsuc}
use lib.Dec.{T, ltb, eqb→eq}
use lib.Pow.{pow_pos, pow-add}
use lib.Ieee.{Float, nan, inf, fin, binary64, up, down, size, nearest, odd, units, round, add, fits}
use lib.Ieee.Fits.{down_pos, up_pos}
use lib.Ieee.Exact.{HasValue, odd_sign}
use lib.Ieee.Digits.{size-lt, size_reaches}
use lib.Ieee.Nearest.{nearest-ge}
use borrow.Author.Tests.{ltb-true}
use Rattle.laws.proofs.PlusZero.{not_minus0, exponent_le, flat, fit}

plus_ok : (m : ℕ) (e : ℤ) → T (not_minus0 (fin false m e))
plus_ok zero e = tt
plus_ok (suc m) e = tt

value_ok : (v : Float) (s : Bool) (a c : ℕ) → HasValue v s a c → 0 < a → T (not_minus0 v)
value_ok (fin u zero e) s a c h p = absurd (lt_irrefl 0 (subst (λ (x : ℕ). 0 < x) (sym h.1 ∙ ap (λ (x : ℕ). x * c) (zero-mul (up e)) ∙ zero-mul c) (mul-pos p (down_pos e))))
value_ok (fin u (suc m) e) s a c h p = tt
value_ok nan s a c h p = tt
value_ok (inf u) s a c h p = tt

odd_plus : (d q k l : ℕ) → T (not_minus0 (odd d false q k l))
unfolding odd
odd_plus d zero k l = tt
odd_plus d (suc q) k l = value_ok (odd d false (suc q) k l) false (suc q * 2 ^ k) (2 ^ l) (odd_sign d false (suc q) k l) (mul-pos (zero-lt-suc q) (pow_pos k))

units_plus : (q k : ℕ) → T (not_minus0 (units binary64 false q k))
unfolding units
units_plus q k = go (ltb (q * 2 ^ k) (2 ^ 2098))
  where
    go : (b : Bool) → T (not_minus0 (cond b (odd 54 false q k 1074) (inf false)))
    go true = odd_plus 54 q k 1074
    go false = tt

units_minus : (s : Bool) (q k : ℕ) → 0 < q → T (not_minus0 (units binary64 s q k))
unfolding units
units_minus s q k p = go (ltb (q * 2 ^ k) (2 ^ 2098))
  where
    go : (b : Bool) → T (not_minus0 (cond b (odd 54 s q k 1074) (inf s)))
    go true = value_ok (odd 54 s q k 1074) s (q * 2 ^ k) (2 ^ 1074) (odd_sign 54 s q k 1074) (mul-pos p (pow_pos k))
    go false = tt

round_plus : (n c : ℕ) → T (not_minus0 (round binary64 false n c))
unfolding round
round_plus n c =
    let k = size (n * 2 ^ 1074 / c) - 53 in
    units_plus (nearest (n * 2 ^ 1074 / (c * 2 ^ k)) (compare (n * 2 ^ 1074 % (c * 2 ^ k) * 2) (c * 2 ^ k))) k

-- at least the smallest value
round_minus : (s : Bool) (n c : ℕ) → 0 < c → c ≤ n * 2 ^ 1074 → T (not_minus0 (round binary64 s n c))
unfolding round
round_minus s n c p h =
    let one : 1 ≤ n * 2 ^ 1074 / c = (le-div_iff_mul-le p).1 (le_trans (le_of_eq (one-mul c)) h) in
    let k = size (n * 2 ^ 1074 / c) - 53 in
    let some : 0 < size (n * 2 ^ 1074 / c) = positive (size (n * 2 ^ 1074 / c)) (n * 2 ^ 1074 / c) one (size-lt (n * 2 ^ 1074 / c)) in
    let r : 2 ^ k ≤ n * 2 ^ 1074 / c = size_reaches (n * 2 ^ 1074 / c) k (omega arith) in
    let u : c * 2 ^ k ≤ n * 2 ^ 1074 = le_trans (le_of_eq (mul_comm c (2 ^ k))) ((le-div_iff_mul-le p).0 r) in
    let q : 1 ≤ n * 2 ^ 1074 / (c * 2 ^ k) = (le-div_iff_mul-le (mul-pos p (pow_pos k))).1 (le_trans (le_of_eq (one-mul (c * 2 ^ k))) u) in
    let o = compare (n * 2 ^ 1074 % (c * 2 ^ k) * 2) (c * 2 ^ k) in
    units_minus s (nearest (n * 2 ^ 1074 / (c * 2 ^ k)) o) k (le_trans q (nearest-ge (n * 2 ^ 1074 / (c * 2 ^ k)) o))
  where
    positive : (j m : ℕ) → 1 ≤ m → m < 2 ^ j → 0 < j
    positive zero m a b = absurd (omega arith)
    positive (suc j) m a b = omega arith

-- every float is a whole number of smallest values: 2 ^ 1074 is a multiple of its denominator
scale : (s : Bool) (m : ℕ) (e : ℤ) → T (fits binary64 (fin s m e)) → (k : ℕ) × (2 ^ 1074 ≡ down e * k)
unfolding fits
scale s zero e t = (2 ^ 1074, sym (ap (λ (z : ℤ). down z * 2 ^ 1074) (flat e (eqb→eq (up e * down e) 1 t)) ∙ one-mul (2 ^ 1074)))
scale s (suc m) (pos k) t = (2 ^ 1074, sym (one-mul (2 ^ 1074)))
scale s (suc m) (negsuc k) t =
    let l : suc k ≤ 1074 = exponent_le (suc k) (fit s m (negsuc k) t).small in
    let n : suc k + (1074 - suc k) ≡ 1074 = omega arith in
    (2 ^ (1074 - suc k), ap (λ (x : ℕ). 2 ^ x) (sym n) ∙ pow-add 2 (suc k) (1074 - suc k))

-- a < b with b - a a whole number of smallest values
gap : (a b c x y : ℕ) → 0 < c → a < b → a * 2 ^ 1074 ≡ x * c → b * 2 ^ 1074 ≡ y * c → c ≤ (b - a) * 2 ^ 1074
gap a b c x y p h ha hb =
    let d : (b - a) * 2 ^ 1074 ≡ y * c - x * c = mul_comm (b - a) (2 ^ 1074) ∙ mul-sub (2 ^ 1074) b a ∙ (rw (mul_comm (2 ^ 1074) b, mul_comm (2 ^ 1074) a, ha, hb)) in
    let l : x < y = lt_of_mul-lt-mul_right c (subst (λ (z : ℕ). z < y * c) ha (subst (λ (z : ℕ). a * 2 ^ 1074 < z) hb (mul-lt-mul_of_pos_right h (pow_pos 1074)))) in
    let m : (x + 1) * c ≤ y * c = mul-le-mul_right c (omega arith) in
    rw d (omega (arith, add-mul x 1 c, one-mul c))

-- the two numerators of a sum, over the common denominator
first_multiple : (m : ℕ) (u de dd k : ℕ) → 2 ^ 1074 ≡ de * k → m * u * dd * 2 ^ 1074 ≡ m * u * k * (de * dd)
first_multiple m u de dd k h = ap (λ (z : ℕ). m * u * dd * z) h ∙ regroup (m * u) dd de k
  where
    regroup : (a b c j : ℕ) → a * b * (c * j) ≡ a * j * (c * b)
    regroup a b c j = simp (mul_assoc, mul_comm, mul_left_comm)

second_multiple : (m : ℕ) (u de dd k : ℕ) → 2 ^ 1074 ≡ dd * k → m * u * de * 2 ^ 1074 ≡ m * u * k * (de * dd)
second_multiple m u de dd k h = ap (λ (z : ℕ). m * u * de * z) h ∙ regroup (m * u) de dd k
  where
    regroup : (a b c j : ℕ) → a * b * (c * j) ≡ a * j * (b * c)
    regroup a b c j = simp (mul_assoc, mul_comm, mul_left_comm)

module _ (a b c x y : ℕ) (p : 0 < c) (ha : a * 2 ^ 1074 ≡ x * c) (hb : b * 2 ^ 1074 ≡ y * c) where
  like_ok : 0 < a + b → T (not_minus0 (round binary64 true (a + b) c))
  like_ok h = round_minus true (a + b) c p (rw sub-zero at (gap 0 (a + b) c 0 (x + y) p h (zero-mul (2 ^ 1074) ∙ sym (zero-mul c)) (add-mul a b (2 ^ 1074) ∙ (rw (ha, hb)) ∙ sym (add-mul x y c))))

  -- a first summand of sign + and a second of sign -
  down_ok : T (not_minus0 (cond (ltb a b) (round binary64 true (b - a) c) (round binary64 false (a - b) c)))
  down_ok = go (ltb a b) refl
    where
      go : (t : Bool) → ltb a b ≡ t → T (not_minus0 (cond (ltb a b) (round binary64 true (b - a) c) (round binary64 false (a - b) c)))
      go true e = rw e (round_minus true (b - a) c p (gap a b c x y p (ltb-true a b e) ha hb))
      go false e = rw e (round_plus (a - b) c)

  up_ok : T (not_minus0 (cond (ltb a b) (round binary64 false (b - a) c) (round binary64 (ltb b a) (a - b) c)))
  up_ok = go (ltb a b) (ltb b a) refl refl
    where
      go : (t u : Bool) → ltb a b ≡ t → ltb b a ≡ u → T (not_minus0 (cond (ltb a b) (round binary64 false (b - a) c) (round binary64 (ltb b a) (a - b) c)))
      go true u e k = rw e (round_plus (b - a) c)
      go false true e k = rw (e, k) (round_minus true (a - b) c p (gap b a c y x p (ltb-true b a k) hb ha))
      go false false e k = rw (e, k) (round_plus (a - b) c)

pub add_not_minus0 : (x y : Float) → T (fits binary64 x) → T (fits binary64 y) → T (not_minus0 x) → T (not_minus0 (add binary64 x y))
unfolding add
add_not_minus0 nan y p q h = tt
add_not_minus0 (inf s) nan p q h = tt
add_not_minus0 (inf true) (inf true) p q h = tt
add_not_minus0 (inf true) (inf false) p q h = tt
add_not_minus0 (inf false) (inf true) p q h = tt
add_not_minus0 (inf false) (inf false) p q h = tt
add_not_minus0 (inf s) (fin t n d) p q h = tt
add_not_minus0 (fin s m e) nan p q h = tt
add_not_minus0 (fin s m e) (inf t) p q h = tt
add_not_minus0 (fin false m e) (fin false n d) p q h = round_plus (m * up e * down d + n * up d * down e) (down e * down d)
add_not_minus0 (fin false m e) (fin true n d) p q h =
    down_ok (m * up e * down d) (n * up d * down e) (down e * down d) _ _ (mul-pos (down_pos e) (down_pos d))
    (first_multiple m (up e) (down e) (down d) (scale false m e p).0 (scale false m e p).1) (second_multiple n (up d) (down e) (down d) (scale true n d q).0 (scale true n d q).1)
add_not_minus0 (fin true zero e) (fin t n d) p q h = absurd h
add_not_minus0 (fin true (suc m) e) (fin true n d) p q h =
    like_ok (suc m * up e * down d) (n * up d * down e) (down e * down d) _ _ (mul-pos (down_pos e) (down_pos d))
    (first_multiple (suc m) (up e) (down e) (down d) (scale true (suc m) e p).0 (scale true (suc m) e p).1) (second_multiple n (up d) (down e) (down d) (scale true n d q).0 (scale true n d q).1)
    (above (suc m * up e * down d) (n * up d * down e) (mul-pos (mul-pos (zero-lt-suc m) (up_pos e)) (down_pos d)))
  where
    above : (a b : ℕ) → 0 < a → 0 < a + b
    above a b k = omega arith
add_not_minus0 (fin true (suc m) e) (fin false n d) p q h =
    up_ok (suc m * up e * down d) (n * up d * down e) (down e * down d) _ _ (mul-pos (down_pos e) (down_pos d))
    (first_multiple (suc m) (up e) (down e) (down d) (scale true (suc m) e p).0 (scale true (suc m) e p).1) (second_multiple n (up d) (down e) (down d) (scale false n d q).0 (scale false n d q).1)

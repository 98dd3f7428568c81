-- The order of numbers: what `lt` and `le` say of each other.
use mathlib.Core.Path.{◌≡◌, refl, sym, subst, ◌∙◌}
use mathlib.Core.Bool.{Bool, true, false, ◌&&◌, ◌||◌, true≢false}
use Prim.Native.Nat.{ℕ, ◌+◌, ◌*◌, ◌<◌, ◌≤◌}
use native.Mathlib.Nat.{le_refl, le_of_lt, le_of_eq, le_trans, lt_of_lt_of_le, lt_of_le_of_lt, zero-mul, mul_right_comm, mul-pos, mul-le-mul_right, mul-lt-mul_of_pos_right, lt_of_mul-lt-mul_right}
use native.Mathlib.Omega.{arith}
use lib.Dec.{ltb, eqb, T}
use lib.Ieee.{Float, lt, le, eq, below, level, nan, inf, fin, up, down}
use lib.Ieee.Scale.{finite}
use lib.Ieee.Fits.{down_pos}
use borrow.Author.Tests.{lt-ltb, le-ltb, ne_eqb, ltb-true, ltb-false, eqb-true}
use Rattle.floats.proofs.Floor.{not_above}

pub lt_self : (x : Float) → lt x x ≡ false
unfolding lt
lt_self nan = refl
lt_self (inf true) = refl
lt_self (inf false) = refl
lt_self (fin true m e) = le-ltb (m * up e * down e) (m * up e * down e) (le_refl _)
lt_self (fin false m e) = le-ltb (m * up e * down e) (m * up e * down e) (le_refl _)

-- a number between two finite ones
pub lt_finite : (a x b : Float) → T (finite a) → T (finite b) → lt a x ≡ true → lt x b ≡ true → T (finite x)
unfolding lt
lt_finite nan x b p q h k = absurd p
lt_finite (inf s) x b p q h k = absurd p
lt_finite (fin s m e) (fin t n d) b p q h k = tt
lt_finite (fin s m e) nan b p q h k = absurd (true≢false (sym h))
lt_finite (fin s m e) (inf true) b p q h k = absurd (true≢false (sym h))
lt_finite (fin s m e) (inf false) nan p q h k = absurd q
lt_finite (fin s m e) (inf false) (inf t) p q h k = absurd q
lt_finite (fin s m e) (inf false) (fin t n d) p q h k = absurd (true≢false (sym k))

pub eq_finite : (a x : Float) → T (finite a) → eq a x ≡ true → T (finite x)
unfolding eq
eq_finite nan x p h = absurd p
eq_finite (inf s) x p h = absurd p
eq_finite (fin s m e) nan p h = absurd (true≢false (sym h))
eq_finite (fin s m e) (inf t) p h = absurd (true≢false (sym h))
eq_finite (fin s m e) (fin t n d) p h = tt

-- ±a < ±b, so not ±b ≤ ±a
below_level : (s t : Bool) (a b : ℕ) → below s a t b ≡ true → (below t b s a || level t b s a) ≡ false
below_level false false a b h = rw (le-ltb b a (le_of_lt (ltb-true a b h)), ne_eqb b a (λ e. omega (arith, e, ltb-true a b h)))
below_level false true a b h = absurd (true≢false (sym h))
below_level true true a b h = rw (le-ltb a b (le_of_lt (ltb-true b a h)), ne_eqb b a (λ e. omega (arith, e, ltb-true b a h)))
below_level true false a b h = go (eqb b a) (eqb b 0) refl refl
  where
    go : (p q : Bool) → eqb b a ≡ p → eqb b 0 ≡ q → (false || (p && (false || q))) ≡ false
    go true true p q = absurd (omega (arith, eqb-true b a p, eqb-true b 0 q, ltb-true 0 (a + b) h))
    go true false p q = refl
    go false q p r = refl

-- a value below a number is not at or above it
pub lt_le : (x y : Float) → lt x y ≡ true → le y x ≡ false
unfolding le lt eq
lt_le nan y h = absurd (true≢false (sym h))
lt_le (inf s) nan h = absurd (true≢false (sym h))
lt_le (inf true) (inf true) h = absurd (true≢false (sym h))
lt_le (inf true) (inf false) h = refl
lt_le (inf false) (inf t) h = absurd (true≢false (sym h))
lt_le (inf true) (fin t n d) h = refl
lt_le (inf false) (fin t n d) h = absurd (true≢false (sym h))
lt_le (fin s m e) nan h = absurd (true≢false (sym h))
lt_le (fin s m e) (inf true) h = absurd (true≢false (sym h))
lt_le (fin s m e) (inf false) h = refl
lt_le (fin s m e) (fin t n d) h = below_level s t (m * up e * down d) (n * up d * down e) h

pub le_not : (x y : Float) → le x y ≡ true → lt y x ≡ false
le_not x y h = go (lt y x) refl
  where
    go : (b : Bool) → lt y x ≡ b → b ≡ false
    go false e = refl
    go true e = absurd (true≢false (sym h ∙ lt_le y x e))

-- ---- a number that is not above x is below what x is below
factor_pos : (k y : ℕ) → 0 < k * y → 0 < k
factor_pos k y h = lt_of_mul-lt-mul_right y (subst (λ (n : ℕ). n < k * y) (sym (zero-mul y)) h)

-- from one denominator to another
other_pos : (k y x : ℕ) → 0 < x → 0 < k * y → 0 < k * x
other_pos k y x p h = mul-pos (factor_pos k y h) p

module _ (M N K x y z : ℕ) (p : 0 < x) where
  rise : M * y ≤ N * x → N * z < K * y → M * z < K * x
  rise h k =
      lt_of_mul-lt-mul_right y
      (lt_of_le_of_lt (le_trans (le_of_eq (mul_right_comm M z y)) (le_trans (mul-le-mul_right z h) (le_of_eq (mul_right_comm N x z))))
      (lt_of_lt_of_le (mul-lt-mul_of_pos_right k p) (le_of_eq (mul_right_comm K y x))))

  fall : N * x ≤ M * y → K * y < N * z → K * x < M * z
  fall h k =
      lt_of_mul-lt-mul_right y
      (lt_of_le_of_lt (le_of_eq (mul_right_comm K x y))
      (lt_of_lt_of_le (mul-lt-mul_of_pos_right k p) (le_trans (le_of_eq (mul_right_comm N z x)) (le_trans (mul-le-mul_right z h) (le_of_eq (mul_right_comm M y z))))))

module _ (a b : ℕ) where
  le_minus : (below true a true b || level true a true b) ≡ true → b ≤ a
  le_minus = go (ltb b a) (eqb a b) refl refl
    where
      go : (p q : Bool) → ltb b a ≡ p → eqb a b ≡ q → (p || (q && (true || eqb a 0))) ≡ true → b ≤ a
      go true q e f h = le_of_lt (ltb-true b a e)
      go false true e f h = le_of_eq (sym (eqb-true a b f))
      go false false e f h = absurd (true≢false (sym h))

  le_zeros : (below false a true b || level false a true b) ≡ true → (a ≡ 0) × (b ≡ 0)
  le_zeros = go (eqb a b) (eqb a 0) refl refl
    where
      go : (p q : Bool) → eqb a b ≡ p → eqb a 0 ≡ q → (false || (p && (false || q))) ≡ true → (a ≡ 0) × (b ≡ 0)
      go true true e f h = (eqb-true a 0 f, omega (arith, eqb-true a b e, eqb-true a 0 f))
      go true false e f h = absurd (true≢false (sym h))
      go false q e f h = absurd (true≢false (sym h))

pub le_lt : (a x b : Float) → T (finite a) → T (finite x) → T (finite b) → le a x ≡ true → lt x b ≡ true → lt a b ≡ true
unfolding le lt eq
le_lt nan x b p q r h l = absurd p
le_lt (inf s) x b p q r h l = absurd p
le_lt (fin s m e) nan b p q r h l = absurd q
le_lt (fin s m e) (inf t) b p q r h l = absurd q
le_lt (fin s m e) (fin t n d) nan p q r h l = absurd r
le_lt (fin s m e) (fin t n d) (inf u) p q r h l = absurd r
le_lt (fin s m e) (fin t n d) (fin u k f) p q r h l = go s t u h l
  where
    M : ℕ
    M = m * up e

    N : ℕ
    N = n * up d

    K : ℕ
    K = k * up f

    Some : 0 < M * down f + K * down e → ltb 0 (M * down f + K * down e) ≡ true
    Some = lt-ltb 0 (M * down f + K * down e)

    third : 0 < K * down d → 0 < K * down e
    third = other_pos K (down d) (down e) (down_pos e)

    go : (s t u : Bool) → (below s (M * down d) t (N * down e) || level s (M * down d) t (N * down e)) ≡ true → below t (N * down f) u (K * down d) ≡ true → below s (M * down f) u (K * down e) ≡ true
    go false false false h l = lt-ltb _ _ (rise M N K (down e) (down d) (down f) (down_pos e) (not_above (M * down d) (N * down e) _ h) (ltb-true _ _ l))
    go false false true h l = absurd (true≢false (sym l))
    go true false true h l = absurd (true≢false (sym l))
    go true true true h l = lt-ltb _ _ (fall M N K (down e) (down d) (down f) (down_pos e) (le_minus (M * down d) (N * down e) h) (ltb-true _ _ l))
    go true false false h l = Some (omega (arith, third (omega (arith, ltb-true (N * down f) (K * down d) l))))
    go true true false h l = side (ltb 0 (K * down d)) refl
      where
        side : (b : Bool) → ltb 0 (K * down d) ≡ b → ltb 0 (M * down f + K * down e) ≡ true
        side true c = Some (omega (arith, third (ltb-true 0 (K * down d) c)))
        side false c =
            let v = other_pos N (down f) (down e) (down_pos e) (omega (arith, ltb-true 0 (N * down f + K * down d) l, ltb-false 0 (K * down d) c)) in
            Some (omega (arith, other_pos M (down d) (down f) (down_pos f) (omega (arith, v, le_minus (M * down d) (N * down e) h))))
    go false true u h l = zeros u l (le_zeros (M * down d) (N * down e) h)
      where
        -- no product with another denominator is above 0
        still : (i j : ℕ) (v : ℕ) → 0 < j → v * j ≡ 0 → 0 < v * i → ⊥
        still i j v w z b = omega (arith, other_pos v i j w b)

        zeros : (u : Bool) → below true (N * down f) u (K * down d) ≡ true → (M * down d ≡ 0) × (N * down e ≡ 0) → below false (M * down f) u (K * down e) ≡ true
        zeros true c z = absurd (still (down f) (down e) N (down_pos e) z.1 (omega (arith, ltb-true (K * down d) (N * down f) c)))
        zeros false c z = inner (ltb 0 (M * down f)) (ltb 0 (N * down f)) refl refl
          where
            inner : (b g : Bool) → ltb 0 (M * down f) ≡ b → ltb 0 (N * down f) ≡ g → ltb (M * down f) (K * down e) ≡ true
            inner true g b a = absurd (still (down f) (down d) M (down_pos d) z.0 (ltb-true 0 (M * down f) b))
            inner false true b a = absurd (still (down f) (down e) N (down_pos e) z.1 (ltb-true 0 (N * down f) a))
            inner false false b a =
                lt-ltb (M * down f) (K * down e) (omega (arith, ltb-false 0 (M * down f) b, third (omega (arith, ltb-true 0 (N * down f + K * down d) c, ltb-false 0 (N * down f) a))))

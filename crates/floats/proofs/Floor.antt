-- A whole number that is not above x, where the next one is: x cut to a whole number.
use Rattle.std.proofs.Common.{◌≡◌, ℕ, ◌+◌, ◌*◌, ◌/◌, ◌^◌, ◌<◌, ◌≤◌, Bool, true, false, ◌&&◌, ◌||◌, T, eqb, ltb, pos, sym, refl, ap, ◌∙◌, true≢false, le_trans, le_of_eq, lt_of_lt_of_le, div-lt_iff_lt-mul, lt_of_mul-lt-mul_right, le-div_iff_mul-le, zero-mul, mul-one, mul_right_comm, le_of_mul-le-mul_right, arith, le→leb, ltb-true, eqb-true}
use lib.Ieee.{Float, nan, inf, fin, binary64, up, down, lt, le, eq, of_int, in_float, to_unsigned}
use lib.Ieee.Exact.{HasValue}
use lib.Ieee.Back.{round_whole}
use lib.Ieee.Fits.{down_pos}

pub whole_exact : (n : ℕ) → n ≤ 2 ^ 53 → T (in_float binary64 (pos n))
unfolding in_float
whole_exact n h = le→leb n (2 ^ 53) h

whole_value : (n : ℕ) → n ≤ 4096 → HasValue (of_int binary64 (pos n)) false n 1
unfolding of_int
whole_value n h = round_whole binary64 false n (omega arith)

-- ---- what the two tests say, of two numbers over a common denominator
pub not_above : (a b : ℕ) (t : Bool) → (ltb a b || (eqb a b && t)) ≡ true → a ≤ b
not_above a b t h = go (ltb a b) (eqb a b) refl refl h
  where
    go : (l e : Bool) → ltb a b ≡ l → eqb a b ≡ e → (l || (e && t)) ≡ true → a ≤ b
    go true e p q r = omega (arith, ltb-true a b p)
    go false true p q r = omega (arith, eqb-true a b q)
    go false false p q r = absurd (true≢false (sym r))

both_zero : (a b : ℕ) → (eqb a b && eqb a 0) ≡ true → a ≡ 0
both_zero a b h = go (eqb a b) (eqb a 0) refl h
  where
    go : (s t : Bool) → eqb a 0 ≡ t → (s && t) ≡ true → a ≡ 0
    go true true p r = eqb-true a 0 p
    go true false p r = absurd (true≢false (sym r))
    go false t p r = absurd (true≢false (sym r))

-- m * u / d is the whole number g
module _ (m u d g : ℕ) (z : 0 < d) (p : m * u * 1 ≡ g * d) where
  over : (c : ℕ) → m * u * c ≡ g * c * d
  over c = ap (λ (a : ℕ). a * c) (sym (mul-one (m * u)) ∙ p) ∙ mul_right_comm g d c

  floor_low : (v c : ℕ) → m * u * c ≤ v * d → g * c ≤ v
  floor_low v c h = le_of_mul-le-mul_right (le_trans (le_of_eq (sym (over c))) h) z

  floor_high : (v c : ℕ) → v * d < m * u * c → v < g * c
  floor_high v c h = lt_of_mul-lt-mul_right d (lt_of_lt_of_le h (le_of_eq (over c)))

between_floor : (t x s : Float) (g : ℕ) → g < 4096 → HasValue t false g 1 → HasValue s false (g + 1) 1 → le t x ≡ true → lt x s ≡ true → g ≡ to_unsigned 64 x
unfolding le lt eq to_unsigned
between_floor nan x s g b p q h k = absurd p
between_floor (inf r) x s g b p q h k = absurd p
between_floor (fin true m e) x s g b p q h k = absurd (true≢false p.0)
between_floor (fin false m e) nan s g b p q h k = absurd (true≢false (sym h))
between_floor (fin false m e) (inf true) s g b p q h k = absurd (true≢false (sym h))
between_floor (fin false m e) (inf false) nan g b p q h k = absurd q
between_floor (fin false m e) (inf false) (inf r) g b p q h k = absurd q
between_floor (fin false m e) (inf false) (fin r n d) g b p q h k = absurd (true≢false (sym k))
between_floor (fin false m e) (fin true n c) s g b p q h k =
    let a : m * up e * down c ≡ 0 = both_zero (m * up e * down c) (n * up c * down e) h in
    let l : g * down c ≤ 0 = floor_low m (up e) (down e) g (down_pos e) p.1 0 (down c) (omega arith) in
    let w : g ≤ 0 = le_of_mul-le-mul_right (le_trans l (le_of_eq (sym (zero-mul (down c))))) (down_pos c) in
    omega (arith, w)
between_floor (fin false m e) (fin false n c) nan g b p q h k = absurd q
between_floor (fin false m e) (fin false n c) (inf r) g b p q h k = absurd q
between_floor (fin false m e) (fin false n c) (fin true i d) g b p q h k = absurd (true≢false q.0)
between_floor (fin false m e) (fin false n c) (fin false i d) g b p q h k =
    let l = floor_low m (up e) (down e) g (down_pos e) p.1 (n * up c) (down c) (not_above (m * up e * down c) (n * up c * down e) _ h) in
    let u = floor_high i (up d) (down d) (g + 1) (down_pos d) q.1 (n * up c) (down c) (ltb-true _ _ k) in
    let v : g ≤ n * up c / down c = (le-div_iff_mul-le (down_pos c)).1 l in
    let w : n * up c / down c < g + 1 = (div-lt_iff_lt-mul (down_pos c)).1 u in
    omega (arith, v, w)

pub floor_is : (x : Float) (g : ℕ) → g < 4096 → le (of_int binary64 (pos g)) x ≡ true → lt x (of_int binary64 (pos (g + 1))) ≡ true → g ≡ to_unsigned 64 x
floor_is x g b h k = between_floor (of_int binary64 (pos g)) x (of_int binary64 (pos (g + 1))) g b (whole_value g (omega arith)) (whole_value (g + 1) (omega arith)) h k

-- ℤ of `lib.IntN`, the laws that it lacks: sums sorted by `simp`, sizes (`nat_abs`), sign and size (`signed`), distributivity.
-- Linear goals over ℤ: `ext` turns an equation into one of ℕ between the parts `up` and `dn`, and `parts`, `parts_neg` hand omega what a sum and a negation are. Assumes nothing.
use mathlib.Core.Path.{◌≡◌, refl, sym, ap, ◌∙◌}
use mathlib.Core.Bool.{Bool, true, false, not, cond}
use Prim.Native.Nat.{ℕ, zero, suc, ◌+◌, ◌-◌, ◌*◌, ◌≤◌, ◌<◌, min}
use native.Mathlib.Nat.{min-zero, zero-min}
use native.Mathlib.Omega.{arith}
use lib.Dec.{T, ltb, ltb→lt, nltb→le}
use lib.IntN.{ℤ, pos, negsuc, neg_ℤ, nat_abs, sub_ℕ, ◌+ℤ◌, ◌-ℤ◌, ◌*ℤ◌, *ℤ_comm, +ℤ_assoc, +ℤ_comm, +ℤ_idl, +ℤ_invr, neg_ℤ-+ℤ, neg_ℤ-neg_ℤ, zero-*ℤ, suc_ℤ-*ℤ, pred_ℤ-*ℤ, suc_ℤ-+ℤ, pred_ℤ-+ℤ}
use lib.Ieee.{unlike}
use Rattle.definitions.specs.Floats.{signed}

pub +ℤ-left-comm : (a b c : ℤ) → a +ℤ (b +ℤ c) ≡ b +ℤ (a +ℤ c)
+ℤ-left-comm a b c = sym (+ℤ_assoc a b c) ∙ ap (λ (x : ℤ). x +ℤ c) (+ℤ_comm a b) ∙ +ℤ_assoc b a c

-- sorts a sum
pub ruleset sums = (+ℤ_assoc, +ℤ_comm, +ℤ-left-comm)

pub swap4 : (a b c d : ℤ) → (a +ℤ b) +ℤ (c +ℤ d) ≡ (a +ℤ c) +ℤ (b +ℤ d)
swap4 a b c d = simp sums

-- ---- the part above zero and the part below it
abbrev pub up : ℤ → ℕ
up (pos n) = n
up (negsuc n) = 0

abbrev pub dn : ℤ → ℕ
dn (pos n) = 0
dn (negsuc n) = suc n

pub abs_parts : (z : ℤ) → nat_abs z ≡ up z + dn z
abs_parts (pos n) = omega arith
abs_parts (negsuc n) = omega arith

sub_parts : (a b : ℕ) → up (sub_ℕ a b) + b ≡ a + dn (sub_ℕ a b)
sub_parts a b = go (ltb a b) (ltb→lt a b) (nltb→le a b)
  where
    go : (t : Bool) → (T t → a < b) → (T (not t) → b ≤ a) → up (cond t (negsuc (b - suc a)) (pos (a - b))) + b ≡ a + dn (cond t (negsuc (b - suc a)) (pos (a - b)))
    go true h k = let l = h tt in omega arith
    go false h k = let l = k tt in omega arith

pub parts : (a b : ℤ) → up (a +ℤ b) + (dn a + dn b) ≡ up a + up b + dn (a +ℤ b)
parts (pos a) (pos b) = omega arith
parts (pos a) (negsuc b) = omega (arith, sub_parts a (suc b))
parts (negsuc a) (pos b) = omega (arith, sub_parts b (suc a))
parts (negsuc a) (negsuc b) = omega arith

pub parts_neg : (a : ℤ) → (up (neg_ℤ a) ≡ dn a) × (dn (neg_ℤ a) ≡ up a)
parts_neg (pos zero) = (refl, refl)
parts_neg (pos (suc n)) = (refl, refl)
parts_neg (negsuc n) = (refl, refl)

pub ext : (x y : ℤ) → up x + dn y ≡ up y + dn x → x ≡ y
ext (pos a) (pos b) h = ap pos (omega arith)
ext (pos a) (negsuc b) h = absurd (omega arith)
ext (negsuc a) (pos b) h = absurd (omega arith)
ext (negsuc a) (negsuc b) h = ap negsuc (omega arith)

-- ---- sizes
-- one of the two parts is 0
pub flat : (z : ℤ) → min (up z) (dn z) ≡ 0
flat (pos n) = min-zero n
flat (negsuc n) = zero-min (suc n)

pub abs_add : (a b : ℤ) → nat_abs (a +ℤ b) ≤ nat_abs a + nat_abs b
abs_add a b = omega (arith, parts a b, abs_parts a, abs_parts b, abs_parts (a +ℤ b), flat (a +ℤ b))

pub abs_neg : (a : ℤ) → nat_abs (neg_ℤ a) ≡ nat_abs a
abs_neg a = omega (arith, parts_neg a, abs_parts a, abs_parts (neg_ℤ a))

pub abs_sub : (a b : ℤ) → nat_abs (a -ℤ b) ≤ nat_abs a + nat_abs b
abs_sub a b = omega (arith, abs_add a (neg_ℤ b), abs_neg b)

abs_neg_pos : (n : ℕ) → nat_abs (neg_ℤ (pos n)) ≡ n
abs_neg_pos zero = refl
abs_neg_pos (suc n) = refl

pub abs_mul : (a b : ℤ) → nat_abs (a *ℤ b) ≡ nat_abs a * nat_abs b
abs_mul (pos a) (pos b) = refl
abs_mul (pos a) (negsuc b) = abs_neg_pos (a * suc b)
abs_mul (negsuc a) (pos b) = abs_neg_pos (suc a * b)
abs_mul (negsuc a) (negsuc b) = refl

-- ---- distributivity
pub add_mulℤ : (a b c : ℤ) → (a +ℤ b) *ℤ c ≡ a *ℤ c +ℤ b *ℤ c
add_mulℤ (pos zero) b c = rw (+ℤ_idl b, zero-*ℤ c, +ℤ_idl (b *ℤ c))
add_mulℤ (pos (suc n)) b c = rw (suc_ℤ-+ℤ (pos n) b, suc_ℤ-*ℤ (pos n +ℤ b) c, add_mulℤ (pos n) b c, suc_ℤ-*ℤ (pos n) c) (simp sums)
add_mulℤ (negsuc zero) b c = rw (pred_ℤ-+ℤ (pos zero) b, +ℤ_idl b, pred_ℤ-*ℤ b c, pred_ℤ-*ℤ (pos zero) c, zero-*ℤ c, +ℤ_idl (neg_ℤ c)) (+ℤ_comm (b *ℤ c) (neg_ℤ c))
add_mulℤ (negsuc (suc n)) b c = rw (pred_ℤ-+ℤ (negsuc n) b, pred_ℤ-*ℤ (negsuc n +ℤ b) c, add_mulℤ (negsuc n) b c, pred_ℤ-*ℤ (negsuc n) c) (simp sums)

neg_mulℤ : (a c : ℤ) → neg_ℤ a *ℤ c ≡ neg_ℤ (a *ℤ c)
neg_mulℤ a c =
    let e : a *ℤ c +ℤ neg_ℤ a *ℤ c ≡ pos 0 = sym (add_mulℤ a (neg_ℤ a) c) ∙ ap (λ (x : ℤ). x *ℤ c) (+ℤ_invr a) ∙ zero-*ℤ c in
    ext (neg_ℤ a *ℤ c) (neg_ℤ (a *ℤ c)) (omega (arith, parts (a *ℤ c) (neg_ℤ a *ℤ c), parts_neg (a *ℤ c), ap up e, ap dn e))

mul_negℤ : (a c : ℤ) → a *ℤ neg_ℤ c ≡ neg_ℤ (a *ℤ c)
mul_negℤ a c = *ℤ_comm a (neg_ℤ c) ∙ neg_mulℤ c a ∙ ap neg_ℤ (*ℤ_comm c a)

neg_mul_neg : (a c : ℤ) → neg_ℤ a *ℤ neg_ℤ c ≡ a *ℤ c
neg_mul_neg a c = neg_mulℤ a (neg_ℤ c) ∙ ap neg_ℤ (mul_negℤ a c) ∙ neg_ℤ-neg_ℤ (a *ℤ c)

pub sub_mulℤ : (a b c : ℤ) → a *ℤ c -ℤ b *ℤ c ≡ (a -ℤ b) *ℤ c
sub_mulℤ a b c = ap (λ (x : ℤ). a *ℤ c +ℤ x) (sym (neg_mulℤ b c)) ∙ sym (add_mulℤ a (neg_ℤ b) c)

-- ---- a number by its sign and its size
pub abs_signed : (s : Bool) (n : ℕ) → nat_abs (signed s n) ≡ n
abs_signed false n = refl
abs_signed true n = abs_neg_pos n

pub signed_parts : (s : Bool) (n : ℕ) → (up (signed s n) ≡ cond s 0 n) × (dn (signed s n) ≡ cond s n 0)
signed_parts false n = (refl, refl)
signed_parts true zero = (refl, refl)
signed_parts true (suc n) = (refl, refl)

pub signed_neg : (s : Bool) (n : ℕ) → signed (not s) n ≡ neg_ℤ (signed s n)
signed_neg false n = refl
signed_neg true n = sym (neg_ℤ-neg_ℤ (pos n))

pub signed_mul : (s t : Bool) (a b : ℕ) → signed s a *ℤ signed t b ≡ signed (unlike s t) (a * b)
signed_mul false false a b = refl
signed_mul true false a b = neg_mulℤ (pos a) (pos b)
signed_mul false true a b = mul_negℤ (pos a) (pos b)
signed_mul true true a b = neg_mul_neg (pos a) (pos b)

-- like signs, and unlike ones with the larger first or second
pub signed_like : (s : Bool) (a b : ℕ) → signed s a +ℤ signed s b ≡ signed s (a + b)
signed_like false a b = refl
signed_like true a b = sym (neg_ℤ-+ℤ (pos a) (pos b))

pub signed_first : (s : Bool) (a b : ℕ) → b ≤ a → signed s a +ℤ signed (not s) b ≡ signed s (a - b)
signed_first false a b h = ext (signed false a +ℤ signed true b) (signed false (a - b)) (omega (arith, parts (pos a) (signed true b), signed_parts true b))
signed_first true a b h = ext (signed true a +ℤ signed false b) (signed true (a - b)) (omega (arith, parts (signed true a) (pos b), signed_parts true a, signed_parts true (a - b)))

pub signed_second : (s : Bool) (a b : ℕ) → a ≤ b → signed s a +ℤ signed (not s) b ≡ signed (not s) (b - a)
signed_second false a b h = ext (signed false a +ℤ signed true b) (signed true (b - a)) (omega (arith, parts (pos a) (signed true b), signed_parts true b, signed_parts true (b - a)))
signed_second true a b h = ext (signed true a +ℤ signed false b) (signed false (b - a)) (omega (arith, parts (signed true a) (pos b), signed_parts true a))

-- a square is that of the difference the other way round
pub square_flip : (a b : ℤ) → (a -ℤ b) *ℤ (a -ℤ b) ≡ (b -ℤ a) *ℤ (b -ℤ a)
square_flip a b =
    let d = b -ℤ a in
    let e : a -ℤ b ≡ neg_ℤ d = ext (a -ℤ b) (neg_ℤ d) (omega (arith, parts a (neg_ℤ b), parts b (neg_ℤ a), parts_neg a, parts_neg b, parts_neg d)) in
    ap (λ (x : ℤ). x *ℤ x) e ∙ neg_mul_neg d d

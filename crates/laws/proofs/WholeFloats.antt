-- A binary64 that is a whole number. `Whole x z`: x fits, and its value is z; -0.0 and +0.0 are both 0.
-- `Plain x z` leaves -0.0 out: then x is `of_int binary64 z` wherever z is at most 2 ^ 53 in size.
-- Sums, differences and products of whole floats are whole and exact as long as the exact RESULT is at most 2 ^ 53 in size; nothing is asked of the operands' sizes. Assumes nothing.
use mathlib.Core.Path.{◌≡◌, refl, sym, ap, ◌∙◌, subst}
use mathlib.Core.Bool.{Bool, true, false, not, ◌&&◌, cond}
use Prim.Native.Nat.{ℕ, zero, suc, ◌+◌, ◌-◌, ◌*◌, ◌/◌, ◌%◌, ◌^◌, ◌≤◌, ◌<◌}
use native.Mathlib.Nat.{mul-one, mul_assoc, mul_comm, mul-pos, add-mul, mul-sub, zero-lt-suc, le_refl, mul-le-mul, mul-lt-mul_of_pos_right, mul-mul-mul_comm, div-add-mod', mul-div_cancel, mul-mod_left}
use native.Mathlib.Omega.{arith}
use lib.Dec.{T, ltb, ltb→lt, nltb→le, eqb→eq}
use lib.IntN.{ℤ, pos, negsuc, neg_ℤ, nat_abs, ◌+ℤ◌, ◌-ℤ◌, ◌*ℤ◌}
use borrow.Author.Tests.{lt-ltb, le-ltb}
use lib.Ieee
use lib.Ieee.{Float, nan, inf, fin, binary64, down, round, neg, sum, add, sub, mul, of_int, fits, unlike}
use lib.Ieee.Exact.{HasValue}
use lib.Ieee.Back.{round_whole, whole_unique}
use lib.Ieee.Scale.{round_same}
use lib.Ieee.Fits.{down_pos, round-fits, add-fits, mul-fits, neg-fits, eq→eqb}
use Rattle.definitions.specs.Floats.{signed, int_of, is_whole}
use Rattle.definitions.specs.Survey.{WholeF}
use Rattle.laws.proofs.Integers.{abs_signed, signed_neg, signed_mul, signed_like, signed_first, signed_second}

pub record Whole (x : Float) (z : ℤ) : Type 0 where
  pub sign : Bool
  pub size : ℕ
  pub fit : T (fits binary64 x)
  pub val : HasValue x sign size 1
  pub is : signed sign size ≡ z

pub record Plain (x : Float) (z : ℤ) : Type 0 where
  pub whole : Whole x z
  pub plus : T whole.sign → 0 < whole.size

abbrev pub limit : ℕ
limit = 2 ^ 53

-- ---- the whole number z as a float
round_is_whole : (s : Bool) (n : ℕ) → n ≤ limit → Whole (round binary64 s n 1) (signed s n)
round_is_whole s n h = record { sign = s; size = n; fit = round-fits binary64 s n 1; val = round_whole binary64 s n h; is = refl }

pub of_int_plain : (z : ℤ) → nat_abs z ≤ limit → Plain (of_int binary64 z) z
unfolding of_int round_is_whole
of_int_plain (pos n) h = record { whole = round_is_whole false n h; plus = λ t. absurd t }
of_int_plain (negsuc n) h = record { whole = round_is_whole true (suc n) h; plus = λ t. zero-lt-suc n }

pub size_of : {x : Float} {z : ℤ} (w : Whole x z) → w.size ≡ nat_abs z
size_of w = sym (abs_signed w.sign w.size) ∙ ap nat_abs w.is

same_signed : (s : Bool) (n : ℕ) (z : ℤ) → signed s n ≡ z → (T s → 0 < n) → round binary64 s n 1 ≡ of_int binary64 z
unfolding of_int
same_signed s n z e h = go s n h ∙ ap (λ (k : ℤ). of_int binary64 k) e
  where
    go : (s : Bool) (n : ℕ) → (T s → 0 < n) → round binary64 s n 1 ≡ of_int binary64 (signed s n)
    go false n h = refl
    go true zero h = absurd (none (h tt))
      where
        none : 0 < 0 → ⊥
        none l = omega arith
    go true (suc n) h = refl

-- canonical: of the floats that are z only one is not -0.0
pub canon : {x : Float} {z : ℤ} → Plain x z → nat_abs z ≤ limit → x ≡ of_int binary64 z
canon {x} {z} p h =
    let w = p.whole in
    let l : w.size ≤ limit = subst (λ (k : ℕ). k ≤ limit) (sym (size_of w)) h in
    whole_unique binary64 x (round binary64 w.sign w.size 1) w.sign w.size w.fit (round-fits binary64 w.sign w.size 1) w.val (round_whole binary64 w.sign w.size l)
    ∙ same_signed w.sign w.size z w.is p.plus

-- ---- the sum
down_to : (s : Bool) (n k c : ℕ) → 0 < c → n ≡ k * c → round binary64 s n c ≡ round binary64 s k 1
down_to s n k c C e = round_same binary64 s n c k 1 C (zero-lt-suc 0) (mul-one n ∙ e)

diff : (a b c : ℕ) → a * c - b * c ≡ (a - b) * c
diff a b c = (λ i. mul_comm a c i - mul_comm b c i) ∙ sym (mul-sub c a b) ∙ mul_comm c (a - b)

ltb_scale : (a b c : ℕ) → 0 < c → ltb (a * c) (b * c) ≡ ltb a b
ltb_scale a b c C = go (ltb a b) (ltb→lt a b) (nltb→le a b)
  where
    go : (t : Bool) → (T t → a < b) → (T (not t) → b ≤ a) → ltb (a * c) (b * c) ≡ t
    go true h k = lt-ltb (a * c) (b * c) (mul-lt-mul_of_pos_right (h tt) C)
    go false h k = le-ltb (a * c) (b * c) (mul-le-mul (k tt) (le_refl c))

-- a common denominator goes out
sum_scale : (s t : Bool) (a b c : ℕ) → 0 < c → sum binary64 s (a * c) t (b * c) c ≡ sum binary64 s a t b 1
unfolding sum
sum_scale false false a b c C = down_to false (a * c + b * c) (a + b) c C (sym (add-mul a b c))
sum_scale true true a b c C = down_to true (a * c + b * c) (a + b) c C (sym (add-mul a b c))
sum_scale false true a b c C = λ i. cond (ltb_scale a b c C i) (down_to true (b * c - a * c) (b - a) c C (diff b a c) i) (down_to false (a * c - b * c) (a - b) c C (diff a b c) i)
sum_scale true false a b c C =
    ap (λ (t : Bool). cond (ltb (a * c) (b * c)) (round binary64 false (b * c - a * c) c) (round binary64 (true && t) (a * c - b * c) c)) (ltb_scale b a c C)
    ∙ (λ i. cond (ltb_scale a b c C i) (down_to false (b * c - a * c) (b - a) c C (diff b a c) i) (down_to (true && ltb b a) (a * c - b * c) (a - b) c C (diff a b c) i))

-- a float r that is the whole number ±a ± b, and is -0.0 only where both are
record Sum (s t : Bool) (a b : ℕ) (r : Float) : Type 0 where
  sgn : Bool
  siz : ℕ
  same : r ≡ round binary64 sgn siz 1
  value : signed sgn siz ≡ signed s a +ℤ signed t b
  left : (T s → 0 < a) → T sgn → 0 < siz
  right : (T t → 0 < b) → T sgn → 0 < siz

sum_is : (s t : Bool) (a b : ℕ) → Sum s t a b (sum binary64 s a t b 1)
unfolding sum
sum_is false false a b = record { sgn = false; siz = a + b; same = refl; value = sym (signed_like false a b); left = λ h t. absurd t; right = λ h t. absurd t }
sum_is true true a b = record { sgn = true; siz = a + b; same = refl; value = sym (signed_like true a b); left = λ h t. let l = h tt in omega arith; right = λ h t. let l = h tt in omega arith }
sum_is false true a b = go (ltb a b) (ltb→lt a b) (nltb→le a b)
  where
    go : (p : Bool) → (T p → a < b) → (T (not p) → b ≤ a) → Sum false true a b (cond p (round binary64 true (b - a) 1) (round binary64 false (a - b) 1))
    go true h k = let l = h tt in record { sgn = true; siz = b - a; same = refl; value = sym (signed_second false a b (omega arith)); left = λ f t. omega arith; right = λ f t. omega arith }
    go false h k = record { sgn = false; siz = a - b; same = refl; value = sym (signed_first false a b (k tt)); left = λ f t. absurd t; right = λ f t. absurd t }
sum_is true false a b = go (ltb a b) (ltb b a) (ltb→lt a b) (nltb→le a b) (ltb→lt b a) (nltb→le b a)
  where
    go : (p q : Bool) → (T p → a < b) → (T (not p) → b ≤ a) → (T q → b < a) → (T (not q) → a ≤ b)
        → Sum true false a b (cond p (round binary64 false (b - a) 1) (round binary64 (true && q) (a - b) 1))
    go true q h k h' k' = let l = h tt in record { sgn = false; siz = b - a; same = refl; value = sym (signed_second true a b (omega arith)); left = λ f t. absurd t; right = λ f t. absurd t }
    go false true h k h' k' =
        let l = h' tt in
        record { sgn = true; siz = a - b; same = refl; value = sym (signed_first true a b (omega arith)); left = λ f t. omega arith; right = λ f t. omega arith }
    go false false h k h' k' =
        let l = k tt in
        let l' = k' tt in
        let e : a - b ≡ b - a = omega arith in
        record { sgn = false; siz = b - a; same = ap (λ (n : ℕ). round binary64 false n 1) e; value = sym (signed_second true a b l'); left = λ f t. absurd t; right = λ f t. absurd t }

-- a sum's two numerators, over the common denominator
lift : (x u d n v : ℕ) → x * u * 1 ≡ n * v → x * u * d ≡ n * (v * d)
lift x u d n v h = ap (λ (k : ℕ). k * d) (sym (mul-one (x * u)) ∙ h) ∙ mul_assoc n v d

add_is : (x y : Float) (s t : Bool) (a b : ℕ) → HasValue x s a 1 → HasValue y t b 1 → Sum s t a b (add binary64 x y)
unfolding add
add_is nan y s t a b v w = absurd v
add_is (inf i) y s t a b v w = absurd v
add_is (fin i m e) nan s t a b v w = absurd w
add_is (fin i m e) (inf j) s t a b v w = absurd w
add_is (fin i m e) (fin j n d) s t a b v w =
    let c = down e * down d in
    let p = lift m (Ieee.up e) (down d) a (down e) v.1 in
    let q : n * Ieee.up d * down e ≡ b * c = lift n (Ieee.up d) (down e) b (down d) w.1 ∙ ap (λ (k : ℕ). b * k) (mul_comm (down d) (down e)) in
    subst (Sum s t a b) (sym ((λ k. sum binary64 (v.0 k) (p k) (w.0 k) (q k) c) ∙ sum_scale s t a b c (mul-pos (down_pos e) (down_pos d)))) (sum_is s t a b)

size-le : (s : Bool) (n : ℕ) (z : ℤ) → signed s n ≡ z → nat_abs z ≤ limit → n ≤ limit
size-le s n z e h = subst (λ (k : ℕ). k ≤ limit) (sym (ap nat_abs e) ∙ abs_signed s n) h

record AddWhole (x y : Float) (a b : ℤ) (p : Whole x a) (q : Whole y b) : Type 0 where
  whole : Whole (add binary64 x y) (a +ℤ b)
  left : (T p.sign → 0 < p.size) → T whole.sign → 0 < whole.size
  right : (T q.sign → 0 < q.size) → T whole.sign → 0 < whole.size

add_all : {x y : Float} {a b : ℤ} (p : Whole x a) (q : Whole y b) → nat_abs (a +ℤ b) ≤ limit → AddWhole x y a b p q
add_all {x} {y} {a} {b} p q h =
    let r = add_is x y p.sign q.sign p.size q.size p.val q.val in
    let e : signed r.sgn r.siz ≡ a +ℤ b = r.value ∙ (λ i. p.is i +ℤ q.is i) in
    record {
      whole = record {
        sign = r.sgn;
        size = r.siz;
        fit = add-fits binary64 x y;
        val = subst (λ (k : Float). HasValue k r.sgn r.siz 1) (sym r.same) (round_whole binary64 r.sgn r.siz (size-le r.sgn r.siz (a +ℤ b) e h));
        is = e;
      };
      left = r.left;
      right = r.right;
    }

pub add_whole : {x y : Float} {a b : ℤ} → Whole x a → Whole y b → nat_abs (a +ℤ b) ≤ limit → Whole (add binary64 x y) (a +ℤ b)
add_whole p q h = (add_all p q h).whole

-- one operand that is not -0.0 is enough for a sum that is not
pub add_plain_l : {x y : Float} {a b : ℤ} → Plain x a → Whole y b → nat_abs (a +ℤ b) ≤ limit → Plain (add binary64 x y) (a +ℤ b)
add_plain_l p q h = let r = add_all p.whole q h in record { whole = r.whole; plus = r.left p.plus }

pub add_plain_r : {x y : Float} {a b : ℤ} → Whole x a → Plain y b → nat_abs (a +ℤ b) ≤ limit → Plain (add binary64 x y) (a +ℤ b)
add_plain_r p q h = let r = add_all p q.whole h in record { whole = r.whole; plus = r.right q.plus }

-- so a total that starts as `of_int` stays `of_int`
pub total_add : (a : ℤ) {y : Float} {b : ℤ} → nat_abs a ≤ limit → Whole y b → nat_abs (a +ℤ b) ≤ limit → add binary64 (of_int binary64 a) y ≡ of_int binary64 (a +ℤ b)
total_add a k w h = canon (add_plain_l (of_int_plain a k) w h) h

pub merge_add : {x : Float} {a : ℤ} (b : ℤ) → Whole x a → nat_abs b ≤ limit → nat_abs (a +ℤ b) ≤ limit → add binary64 x (of_int binary64 b) ≡ of_int binary64 (a +ℤ b)
merge_add b w k h = canon (add_plain_r w (of_int_plain b k) h) h

-- ---- negation and difference
neg_val : (x : Float) (s : Bool) (n : ℕ) → HasValue x s n 1 → HasValue (neg x) (not s) n 1
unfolding neg
neg_val nan s n v = v
neg_val (inf i) s n v = v
neg_val (fin i m e) s n v = (ap not v.0, v.1)

pub neg_whole : {x : Float} {a : ℤ} → Whole x a → Whole (neg x) (neg_ℤ a)
neg_whole {x} {a} p = record {
  sign = not p.sign;
  size = p.size;
  fit = neg-fits binary64 x p.fit;
  val = neg_val x p.sign p.size p.val;
  is = signed_neg p.sign p.size ∙ ap neg_ℤ p.is;
}

pub sub_whole : {x y : Float} {a b : ℤ} → Whole x a → Whole y b → nat_abs (a -ℤ b) ≤ limit → Whole (sub binary64 x y) (a -ℤ b)
unfolding sub
sub_whole p q h = add_whole p (neg_whole q) h

-- ---- the product
mul_is : (x y : Float) (s t : Bool) (a b : ℕ) → HasValue x s a 1 → HasValue y t b 1 → mul binary64 x y ≡ round binary64 (unlike s t) (a * b) 1
unfolding mul
mul_is nan y s t a b v w = absurd v
mul_is (inf i) y s t a b v w = absurd v
mul_is (fin i m e) nan s t a b v w = absurd w
mul_is (fin i m e) (inf j) s t a b v w = absurd w
mul_is (fin i m e) (fin j n d) s t a b v w =
    let c = down e * down d in
    (λ k. round binary64 (unlike (v.0 k) (w.0 k)) (m * Ieee.up e * (n * Ieee.up d)) c)
    ∙ down_to (unlike s t) (m * Ieee.up e * (n * Ieee.up d)) (a * b) c (mul-pos (down_pos e) (down_pos d))
    ((λ k. (sym (mul-one (m * Ieee.up e)) ∙ v.1) k * (sym (mul-one (n * Ieee.up d)) ∙ w.1) k) ∙ mul-mul-mul_comm a (down e) b (down d))

pub mul_whole : {x y : Float} {a b : ℤ} → Whole x a → Whole y b → nat_abs (a *ℤ b) ≤ limit → Whole (mul binary64 x y) (a *ℤ b)
mul_whole {x} {y} {a} {b} p q h =
    let s = unlike p.sign q.sign in
    let n = p.size * q.size in
    let e : signed s n ≡ a *ℤ b = sym (signed_mul p.sign q.sign p.size q.size) ∙ (λ i. p.is i *ℤ q.is i) in
    record {
      sign = s;
      size = n;
      fit = mul-fits binary64 x y;
      val = subst (λ (k : Float). HasValue k s n 1) (sym (mul_is x y p.sign q.sign p.size q.size p.val q.val)) (round_whole binary64 s n (size-le s n (a *ℤ b) e h));
      is = e;
    }

-- a square is never -0.0
unlike_self : (s : Bool) → T (unlike s s) → ⊥
unlike_self false t = t
unlike_self true t = t

pub square_plain : {x : Float} {a : ℤ} → Whole x a → nat_abs (a *ℤ a) ≤ limit → Plain (mul binary64 x x) (a *ℤ a)
unfolding mul_whole
square_plain p h = record { whole = mul_whole p p h; plus = λ t. absurd (unlike_self p.sign t) }

-- ---- `int_of` and `is_whole` are what `Whole` says
pub whole_int : (x : Float) → WholeF x → Whole x (int_of x)
unfolding is_whole int_of
whole_int nan h = absurd h.1
whole_int (inf s) h = absurd h.1
whole_int (fin s m e) h =
    let n = m * Ieee.up e in
    record { sign = s; size = n / down e; fit = h.0; val = (refl, omega (arith, div-add-mod' n (down e), eqb→eq (n % down e) 0 h.1, mul-one n)); is = refl }

cut : (m : ℕ) (e : ℤ) (c : ℕ) → m * Ieee.up e * 1 ≡ c * down e → (m * Ieee.up e / down e ≡ c) × (m * Ieee.up e % down e ≡ 0)
cut m e c h =
    let q : m * Ieee.up e ≡ c * down e = sym (mul-one (m * Ieee.up e)) ∙ h in
    (ap (λ (x : ℕ). x / down e) q ∙ mul-div_cancel c (down_pos e), ap (λ (x : ℕ). x % down e) q ∙ mul-mod_left c (down e))

pub int_of_law : {x : Float} {z : ℤ} → Whole x z → int_of x ≡ z
unfolding int_of
int_of_law {x = nan} w = absurd w.val
int_of_law {x = inf s} w = absurd w.val
int_of_law {x = fin s m e} w = (λ i. signed (w.val.0 i) ((cut m e w.size w.val.1).0 i)) ∙ w.is

pub is_whole_law : {x : Float} {z : ℤ} → Whole x z → WholeF x
unfolding is_whole
is_whole_law {x = nan} w = absurd w.val
is_whole_law {x = inf s} w = absurd w.val
is_whole_law {x = fin s m e} w = (w.fit, eq→eqb {a = m * Ieee.up e % down e} {b = 0} (cut m e w.size w.val.1).1)

-- A pair of whole readings: what the run adds in floats is what the book adds in whole numbers. Assumes nothing.
use mathlib.Core.Path.{◌≡◌, refl, sym, ap, ◌∙◌}
use Rattle.std.specs.Prelude.{Option, None, Some}
use mathlib.Core.List.{List}
use mathlib.Core.Bool.{Bool, true, false, not, cond, ◌||◌}
use Prim.Native.Nat.{ℕ, zero, suc, ◌-◌, ◌*◌, ◌^◌, ◌≤◌, zero-le}
use native.Mathlib.Nat.{mul-le-mul, le_trans, le_refl, le-mul_of_pos_right}
use native.Mathlib.Omega.{arith}
use lib.Dec.{T, T_not, leb, eqb, leb-zero, leb-suc-zero}
use lib.ListN.{length}
use lib.IntN.{ℤ, pos, negsuc, nat_abs, pos-ne-negsuc, ◌+ℤ◌, ◌-ℤ◌, ◌*ℤ◌, +ℤ_idl, +ℤ_assoc}
use lib.Signed.{le_z}
use lib.Ieee.{Float, nan, inf, fin, binary64, add, sub, eq, of_int, to_bits, of_bits, is_nan, fits, top}
use lib.Ieee.Bits.{of_bits-to_bits}
use Rattle.definitions.specs.Lists.{at}
use Rattle.definitions.specs.Floats.{zero_f, total_key, not_after, int_of}
use Rattle.definitions.specs.Bins.{Edges, regular, irregular, bins, bin_size, regular_index, irregular_index, last_edge, find, below, bin_of}
use Rattle.definitions.specs.Points.{Reading, Point, square, squared_diff_norm}
use Rattle.definitions.specs.Reducer.{PairOperation, elementwise_sub, elementwise_multiply, Kind, comp0_mean, component_sum_mean, component_sum_histogram, Datum, component, component_sum, datum_of, value, mean_term, in_bin, datum_term, pair_in, pair_term}
use Rattle.definitions.specs.Survey.{ReadingZ, PointZ, reading_z, point_z, component_z, component_sum_z, value_z, square_z, distance_z, in_bin_z, mean_term_z, term_z, WholeF, WholeReading, WholePoint, Near, NoZero, NoZeroKind, value_size}
use Rattle.laws.proofs.Integers.{abs_add, abs_sub, abs_mul}
use Rattle.laws.proofs.WholeFloats.{Whole, Plain, limit, canon, of_int_plain, add_whole, add_plain_l, sub_whole, mul_whole, square_plain, whole_int}
use Rattle.laws.proofs.Zeros.{blind, zero_plain, lt_same_l, le_same_r, cut_same}
use Rattle.laws.proofs.Lists.{at_all}
use Rattle.laws.proofs.Folds.{Gives}

-- ---- the lookup does not see a zero's sign where no edge is a zero
key_zero : (s : Bool) → total_key (zero_f s) ≡ cond s (negsuc 0) (pos 0)
unfolding total_key to_bits
key_zero true = refl
key_zero false = refl

key_cases : (b : ℕ) (c : Bool) (k : ℕ) → cond c (negsuc k) (pos b) ≡ pos 0 → b ≡ 0
key_cases b true k h = absurd (pos-ne-negsuc 0 k (sym h))
key_cases b false k h = ap nat_abs h

zero_eq : T (eq (zero_f false) (zero_f false))
unfolding eq
zero_eq = tt

key_not_zero : (e : Float) → T (fits binary64 e) → T (not (eq e (zero_f false))) → total_key e ≡ pos 0 → ⊥
unfolding total_key
key_not_zero e f n h =
    let b : to_bits binary64 e ≡ 0 = key_cases (to_bits binary64 e) (leb (top binary64) (to_bits binary64 e)) (to_bits binary64 e - top binary64) h in
    let z : e ≡ zero_f false = sym (of_bits-to_bits binary64 e f) ∙ ap (λ (k : ℕ). of_bits binary64 k) b ∙ unfold of_bits in refl in
    T_not (eq e (zero_f false)) n (rw z zero_eq)

at_key : (k : ℤ) → (k ≡ pos 0 → ⊥) → le_z k (negsuc 0) ≡ le_z k (pos 0)
at_key (pos zero) h = absurd (h refl)
at_key (pos (suc n)) h = sym (leb-suc-zero n)
at_key (negsuc k) h = leb-zero k

-- an edge that is no zero is after both zeros or after none
edge_blind : (e : Float) → T (fits binary64 e) × T (not (eq e (zero_f false))) → not_after e (zero_f true) ≡ not_after e (zero_f false)
edge_blind e n = ap (le_z (total_key e)) (key_zero true) ∙ at_key (total_key e) (key_not_zero e n.0 n.1) ∙ sym (ap (le_z (total_key e)) (key_zero false))

whole_not_nan : {x : Float} {z : ℤ} → Whole x z → is_nan x ≡ false
unfolding is_nan
whole_not_nan {x = nan} w = absurd w.val
whole_not_nan {x = inf s} w = absurd w.val
whole_not_nan {x = fin s m e} w = refl

module _ {x y : Float} {z : ℤ} (p : Whole x z) (q : Whole y z) where
  last_same : (es : List Float) → NoZero (irregular es) → (k : ℕ) → k ≤ length es → last_edge es x k ≡ last_edge es y k
  unfolding last_edge
  last_same es h zero l = refl
  last_same es h (suc k) l =
      let e : not_after (at es k) x ≡ not_after (at es k) y = blind (not_after (at es k)) (edge_blind (at es k) (at_all (λ e. T (fits binary64 e) × T (not (eq e (zero_f false)))) es h k l)) p q in
      λ i. cond (e i) (Some k) (last_same es h k (omega arith) i)

  find_same : (e : Edges) → NoZero e → find e x ≡ find e y
  unfolding find regular_index irregular_index
  find_same (regular min max n) h = λ i. cond (lt_same_l p q min i || le_same_r p q max i) None (Some (cut_same 64 min (bin_size min max n) p q i))
  find_same (irregular es) h =
      λ i. cond ((whole_not_nan p ∙ sym (whole_not_nan q)) i || lt_same_l p q (at es 0) i || le_same_r p q (at es (length es - 1)) i) None (last_same es h (length es) (omega arith) i)

  bin_same : (e : Edges) → NoZero e → bin_of e x ≡ bin_of e y
  unfolding bin_of
  bin_same e h = ap (below (bins e)) (find_same e h)

-- ---- sizes
abbrev pub Within : ℕ → ℕ → PointZ → Type 0
Within v w a = (value_size a ≤ v) × (nat_abs a.rd.w ≤ w)

-- all that is formed of two readings is at most `most` in size
pub record Sizes (most : ℕ) (k : Kind) (op : PairOperation) (a b : ReadingZ) : Type 0 where
  pub c0 : nat_abs (component_z op a.v0 b.v0) ≤ most
  pub c1 : nat_abs (component_z op a.v1 b.v1) ≤ most
  pub c2 : nat_abs (component_z op a.v2 b.v2) ≤ most
  pub c12 : nat_abs (component_z op a.v1 b.v1 +ℤ component_z op a.v2 b.v2) ≤ most
  pub total : nat_abs (component_sum_z op a b) ≤ most
  pub weight : nat_abs (a.w *ℤ b.w) ≤ most
  pub product : nat_abs (value_z k op a b *ℤ (a.w *ℤ b.w)) ≤ most

component_le : (op : PairOperation) (v : ℕ) (a b : ℤ) → 1 ≤ v → nat_abs a ≤ v → nat_abs b ≤ v → nat_abs (component_z op a b) ≤ 2 * (v * v)
component_le elementwise_sub v a b h p q = omega (arith, abs_sub b a, le-mul_of_pos_right v h)
component_le elementwise_multiply v a b h p q = omega (arith, abs_mul b a, mul-le-mul q p)

value_size_law : (v : ℕ) (a : PointZ) → value_size a ≤ v → (nat_abs a.rd.v0 ≤ v) × (nat_abs a.rd.v1 ≤ v) × (nat_abs a.rd.v2 ≤ v)
value_size_law v a h = omega arith

module _ (k : Kind) (op : PairOperation) (v w : ℕ) (hv : 1 ≤ v) (hw : 1 ≤ w) (a b : PointZ) (p : Within v w a) (q : Within v w b) where
  abbrev x : ℤ
  x = component_z op a.rd.v0 b.rd.v0

  abbrev y : ℤ
  y = component_z op a.rd.v1 b.rd.v1

  abbrev z : ℤ
  z = component_z op a.rd.v2 b.rd.v2

  -- sizes of the components
  three : (nat_abs x ≤ 2 * (v * v)) × (nat_abs y ≤ 2 * (v * v)) × (nat_abs z ≤ 2 * (v * v))
  three =
      let i = value_size_law v a p.0 in
      let j = value_size_law v b q.0 in
      (component_le op v a.rd.v0 b.rd.v0 hv i.0 j.0, component_le op v a.rd.v1 b.rd.v1 hv i.1 j.1, component_le op v a.rd.v2 b.rd.v2 hv i.2 j.2)

  sums : (nat_abs (y +ℤ z) ≤ 4 * (v * v)) × (nat_abs (x +ℤ (y +ℤ z)) ≤ 6 * (v * v))
  sums = omega (arith, three, abs_add y z, abs_add x (y +ℤ z))

  value_le : (k : Kind) → nat_abs (value_z k op a.rd b.rd) ≤ 6 * (v * v)
  value_le comp0_mean = omega (arith, three)
  value_le component_sum_mean = sums.1
  value_le (component_sum_histogram e) = sums.1

  weight_le : nat_abs (a.rd.w *ℤ b.rd.w) ≤ w * w
  weight_le = omega (arith, abs_mul a.rd.w b.rd.w, mul-le-mul p.1 q.1)

  -- 6·V² and W² are at most 6·V²·W²
  wide : 6 * (v * v) ≤ 6 * (v * v) * (w * w)
  wide = le-mul_of_pos_right (6 * (v * v)) (le_trans hw (le-mul_of_pos_right w hw))

  heavy : w * w ≤ 6 * (v * v) * (w * w)
  heavy = let l : 1 ≤ 6 * (v * v) = omega (arith, hv, le-mul_of_pos_right v hv) in omega (arith, le-mul_of_pos_right (w * w) l)

  pub sizes : Sizes (6 * (v * v) * (w * w)) k op a.rd b.rd
  sizes = record {
    c0 = omega (arith, three, wide);
    c1 = omega (arith, three, wide);
    c2 = omega (arith, three, wide);
    c12 = omega (arith, sums, wide);
    total = omega (arith, sums, wide);
    weight = le_trans weight_le heavy;
    product = omega (arith, abs_mul (value_z k op a.rd b.rd) (a.rd.w *ℤ b.rd.w), mul-le-mul (value_le k) weight_le);
  }

-- ---- what a pair adds to one number of its state
pub in_bin_gives : (b : Option ℕ) (s : ℕ) (o : Option Float) (z : ℤ) → Gives o z → Gives (in_bin b s o) (in_bin_z b s z)
in_bin_gives None s o z g = refl
in_bin_gives (Some i) s o z g = go (eqb i s)
  where
    go : (t : Bool) → Gives (cond t o None) (cond t z (pos 0))
    go true = g
    go false = refl

pub in_bin_le : (b : Option ℕ) (s : ℕ) (z : ℤ) → nat_abs (in_bin_z b s z) ≤ nat_abs z
in_bin_le None s z = zero-le
in_bin_le (Some i) s z = go (eqb i s)
  where
    go : (t : Bool) → nat_abs (cond t z (pos 0)) ≤ nat_abs z
    go true = le_refl (nat_abs z)
    go false = zero-le

module _ (most : ℕ) (op : PairOperation) where
  mean_le : (k : Kind) (e : ℕ) (a b : ReadingZ) → Sizes most k op a b → nat_abs (mean_term_z e (value_z k op a b) (a.w *ℤ b.w)) ≤ most
  mean_le k zero a b s = s.product
  mean_le k (suc zero) a b s = s.weight
  mean_le k (suc (suc e)) a b s = zero-le

  pub term_le : (k : Kind) (e : ℕ) (a b : ReadingZ) → Sizes most k op a b → nat_abs (term_z k e (value_z k op a b) (a.w *ℤ b.w)) ≤ most
  term_le comp0_mean e a b s = mean_le comp0_mean e a b s
  term_le component_sum_mean e a b s = mean_le component_sum_mean e a b s
  term_le (component_sum_histogram h) e a b s = le_trans (in_bin_le (bin_of h (of_int binary64 (component_sum_z op a b))) e (a.w *ℤ b.w)) s.weight

component_whole : (op : PairOperation) (x y : Float) → WholeF x → WholeF y → nat_abs (component_z op (int_of x) (int_of y)) ≤ limit → Whole (component op x y) (component_z op (int_of x) (int_of y))
component_whole elementwise_sub x y p q h = sub_whole (whole_int y q) (whole_int x p) h
component_whole elementwise_multiply x y p q h = mul_whole (whole_int y q) (whole_int x p) h

module _ (most : ℕ) (few : most ≤ limit) (op : PairOperation) (a b : Reading) (x : WholeReading a) (y : WholeReading b) where
  module _ (k : Kind) (s : Sizes most k op (reading_z a) (reading_z b)) where
    first_whole : Whole (component op a.v0 b.v0) (component_z op (int_of a.v0) (int_of b.v0))
    first_whole = component_whole op a.v0 b.v0 x.v0 y.v0 (le_trans s.c0 few)

    total_whole : Whole (component_sum (datum_of op a b)) (component_sum_z op (reading_z a) (reading_z b))
    total_whole =
        add_whole first_whole (add_whole (component_whole op a.v1 b.v1 x.v1 y.v1 (le_trans s.c1 few))
        (component_whole op a.v2 b.v2 x.v2 y.v2 (le_trans s.c2 few)) (le_trans s.c12 few))
        (le_trans s.total few)

    weight_whole : Whole (datum_of op a b).weight (int_of a.w *ℤ int_of b.w)
    weight_whole = mul_whole (whole_int a.w x.w) (whole_int b.w y.w) (le_trans s.weight few)

    mean_gives : Whole (value k (datum_of op a b)) (value_z k op (reading_z a) (reading_z b)) → (e : ℕ)
        → Gives (mean_term e (value k (datum_of op a b)) (datum_of op a b).weight) (mean_term_z e (value_z k op (reading_z a) (reading_z b)) (int_of a.w *ℤ int_of b.w))
    mean_gives v zero = mul_whole v weight_whole (le_trans s.product few)
    mean_gives v (suc zero) = weight_whole
    mean_gives v (suc (suc e)) = refl

  pub datum_gives : (k : Kind) → NoZeroKind k → Sizes most k op (reading_z a) (reading_z b) → (e : ℕ)
      → Gives (datum_term k e (datum_of op a b)) (term_z k e (value_z k op (reading_z a) (reading_z b)) (int_of a.w *ℤ int_of b.w))
  datum_gives comp0_mean n s e = mean_gives comp0_mean s (first_whole comp0_mean s) e
  datum_gives component_sum_mean n s e = mean_gives component_sum_mean s (total_whole component_sum_mean s) e
  datum_gives (component_sum_histogram h) n s e =
      let t = total_whole (component_sum_histogram h) s in
      let z = component_sum_z op (reading_z a) (reading_z b) in
      rw (← bin_same t (of_int_plain z (le_trans s.total few)).whole h n)
      (in_bin_gives (bin_of h (component_sum (datum_of op a b))) e (Some (datum_of op a b).weight) (int_of a.w *ℤ int_of b.w) (weight_whole (component_sum_histogram h) s))

-- a pair yields a datum for its bin, or nothing
pub pair_term_law : (k : Kind) (s e : ℕ) (o : Option ℕ) (d : Datum) → pair_term k s e (pair_in o d) ≡ in_bin o s (datum_term k e d)
pair_term_law k s e None d = refl
pair_term_law k s e (Some b) d = refl

-- ---- squared distances are exact, and never -0.0
pub record Square (x : Float) (z : ℤ) : Type 0 where
  pub plain : Plain x z
  pub small : nat_abs z ≤ 2 ^ 50

pub square_of : {x : Float} {z : ℤ} → Whole x z → nat_abs z ≤ 2 ^ 25 → Square (square x) (square_z z)
square_of {x} {z} w h =
    let l : nat_abs (square_z z) ≤ 2 ^ 50 = omega (arith, abs_mul z z, mul-le-mul h h) in
    record { plain = square_plain w (omega arith); small = l }

module _ {x y z : Float} {a b c : ℤ} (p : Square x a) (q : Square y b) (r : Square z c) where
  -- as points add them
  pub points_sum : add binary64 x (add binary64 y z) ≡ of_int binary64 (a +ℤ (b +ℤ c))
  points_sum =
      let l : nat_abs (b +ℤ c) ≤ limit = omega (arith, abs_add b c, q.small, r.small) in
      let m : nat_abs (a +ℤ (b +ℤ c)) ≤ limit = omega (arith, abs_add a (b +ℤ c), abs_add b c, p.small, q.small, r.small) in
      canon (add_plain_l p.plain (add_whole q.plain.whole r.plain.whole l) m) m

  -- as blocks add them, from 0.0
  pub blocks_sum : add binary64 (add binary64 (add binary64 (zero_f false) x) y) z ≡ of_int binary64 (a +ℤ (b +ℤ c))
  blocks_sum =
      let o : nat_abs (pos 0 +ℤ a) ≤ limit = omega (arith, abs_add (pos 0) a, p.small) in
      let l : nat_abs (pos 0 +ℤ a +ℤ b) ≤ limit = omega (arith, abs_add (pos 0 +ℤ a) b, abs_add (pos 0) a, p.small, q.small) in
      let m : nat_abs (pos 0 +ℤ a +ℤ b +ℤ c) ≤ limit = omega (arith, abs_add (pos 0 +ℤ a +ℤ b) c, abs_add (pos 0 +ℤ a) b, abs_add (pos 0) a, p.small, q.small, r.small) in
      canon (add_plain_l (add_plain_l (add_plain_l zero_plain p.plain.whole o) q.plain.whole l) r.plain.whole m) m
      ∙ ap (of_int binary64) (ap (λ (t : ℤ). t +ℤ b +ℤ c) (+ℤ_idl a) ∙ +ℤ_assoc a b c)

side : (x y : Float) → WholeF x → WholeF y → nat_abs (int_of x) ≤ 2 ^ 24 → nat_abs (int_of y) ≤ 2 ^ 24 → Square (square (sub binary64 y x)) (square_z (int_of y -ℤ int_of x))
side x y p q h k = let l : nat_abs (int_of y -ℤ int_of x) ≤ 2 ^ 25 = omega (arith, abs_sub (int_of y) (int_of x)) in square_of (sub_whole (whole_int y q) (whole_int x p) (omega arith)) l

pub distance_is : (a b : Point) → WholePoint a → WholePoint b → Near (point_z a) → Near (point_z b) → squared_diff_norm a b ≡ of_int binary64 (distance_z (point_z a) (point_z b))
distance_is a b x y p q =
    points_sum (side a.c0 b.c0 x.c0 y.c0 p.c0 q.c0) (side a.c1 b.c1 x.c1 y.c1 p.c1 q.c1) (side a.c2 b.c2 x.c2 y.c2 p.c2 q.c2)

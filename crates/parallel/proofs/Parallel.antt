-- The Rust's way leaves the same pack: the zero datum of a binless pair changes no total, since one that begins at +0.0 never becomes -0.0, and the one team's segment is everything.
use mathlib.Core.Path.{◌≡◌, refl, sym, ap, ◌∙◌, fun_ext}
use Rattle.std.specs.Prelude.{Option, None, Some}
use mathlib.Core.List.{List, [], ◌∷◌, ◌++◌, map}
use mathlib.Core.Bool.{Bool, true, false, cond}
use Prim.Native.Nat.{ℕ, zero, suc, ◌+◌, ◌-◌, ◌/◌, ◌%◌}
use native.Mathlib.Nat.{zero-add}
use native.Mathlib.Omega.{arith}
use lib.Dec.{T, ltb, eqb}
use lib.ListN.{length, take}
use lib.Seq.{take-length}
use lib.Ieee.{Float, binary64, add, mul, fits}
use lib.Ieee.Fits.{add-fits, mul-fits}
use Rattle.definitions.specs.Lists.{at, range, upto, flat_map, add_opt, fold_at, later_pairs, all_pairs, overwritten}
use Rattle.definitions.specs.Floats.{zero_f}
use Rattle.definitions.specs.Bins.{bins, find, below, bin_of}
use Rattle.definitions.specs.Points.{Point, point_at, squared_diff_norm}
use Rattle.definitions.specs.Blocks.{offsets_of, is_after}
use Rattle.definitions.specs.Reducer.{Datum, datum_of, datum_term, kept, dropped, pair_in, pair_term, mean_term, in_bin, Kind, comp0_mean, component_sum_mean, component_sum_histogram}
use Rattle.definitions.specs.Run.{Run, Sets, one_points, two_points, one_block, two_blocks, used, state_at, number_at, pair_at, offset_at, scratch_of, scratch, merged}
use Rattle.definitions.specs.Segments.{segment_start, segment_size}
use Rattle.laws.proofs.PlusZero.{not_minus0, add_plus0}
use Rattle.laws.proofs.MinusZero.{add_not_minus0}
use Rattle.parallel.specs.Parallel.{zero_datum, binned_datum, team_part, filtered, binned_at, team_scratch_of, driven}

-- ---- the one team's segment
one_size : (n : ℕ) → segment_size n 1 0 ≡ n
one_size n =
    let e : n % 1 ≡ 0 = omega arith in
    let d : n / 1 + 0 ≡ n = omega arith in
    ap (λ (m : ℕ). n / 1 + cond (ltb 0 m) 1 0) e ∙ d

one_team : {A : Type 0} (l : List A) → team_part l 0 1 ≡ l
unfolding segment_start
one_team l = ap (λ (n : ℕ). take n l) (one_size (length l)) ∙ take-length l

-- ---- a total that adding +0.0 does not change
pub record Clean (x : Float) : Type 0 where
  pub fit : T (fits binary64 x)
  pub sign : T (not_minus0 x)

clean_zero : Clean (zero_f false)
unfolding fits
clean_zero = record { fit = tt; sign = tt }

-- what is added is nothing or +0.0
abbrev Idle : Option Float → Type 0
Idle None = Unit {0}
Idle (Some y) = y ≡ zero_f false

-- what is added is an f64
abbrev Fitting : Option Float → Type 0
Fitting None = Unit {0}
Fitting (Some y) = T (fits binary64 y)

idle_add : (o : Option Float) {x : Float} → Idle o → Clean x → add_opt o x ≡ x
idle_add None i c = refl
idle_add (Some y) {x} i c = ap (add binary64 x) i ∙ add_plus0 x c.fit c.sign

clean_add : (o : Option Float) {x : Float} → Fitting o → Clean x → Clean (add_opt o x)
clean_add None f c = c
clean_add (Some y) {x} f c = record { fit = add-fits binary64 x y; sign = add_not_minus0 x y c.fit f c.sign }

-- ---- what either keeps through a bin's test
in_bin_law : (P : Option Float → Type 0) → P None → (b : Option ℕ) (s : ℕ) (o : Option Float) → P o → P (in_bin b s o)
in_bin_law P n None s o h = n
in_bin_law P n (Some b) s o h = go (eqb b s)
  where
    go : (t : Bool) → P (cond t o None)
    go true = h
    go false = n

zero_product : mul binary64 (zero_f false) (zero_f false) ≡ zero_f false
unfolding mul
zero_product = refl

zero_sum : add binary64 (zero_f false) (add binary64 (zero_f false) (zero_f false)) ≡ zero_f false
unfolding add
zero_sum = refl

-- number e of a mean, for a value of +0.0
zero_mean : (e : ℕ) (v : Float) → v ≡ zero_f false → Idle (mean_term e v (zero_f false))
zero_mean zero v h = ap (λ (x : Float). mul binary64 x (zero_f false)) h ∙ zero_product
zero_mean (suc zero) v h = refl
zero_mean (suc (suc e)) v h = tt

zero_term : (k : Kind) (e : ℕ) → Idle (datum_term k e zero_datum)
zero_term comp0_mean e = zero_mean e (zero_f false) refl
zero_term component_sum_mean e = zero_mean e (add binary64 (zero_f false) (add binary64 (zero_f false) (zero_f false))) zero_sum
zero_term (component_sum_histogram h) e = in_bin_law Idle tt (bin_of h (add binary64 (zero_f false) (add binary64 (zero_f false) (zero_f false)))) e (Some (zero_f false)) refl

mean_fits : (e : ℕ) (v w : Float) → T (fits binary64 w) → Fitting (mean_term e v w)
mean_fits zero v w h = mul-fits binary64 v w
mean_fits (suc zero) v w h = h
mean_fits (suc (suc e)) v w h = tt

term_fits : (k : Kind) (e : ℕ) (d : Datum) → T (fits binary64 d.weight) → Fitting (datum_term k e d)
term_fits comp0_mean e d h = mean_fits e d.c0 d.weight h
term_fits component_sum_mean e d h = mean_fits e (add binary64 d.c0 (add binary64 d.c1 d.c2)) d.weight h
term_fits (component_sum_histogram v) e d h = in_bin_law Fitting tt (bin_of v (add binary64 d.c0 (add binary64 d.c1 d.c2))) e (Some d.weight) h

-- ---- one pair, by what the lookup found
module _ (k : Kind) (n s e : ℕ) (d : Datum) {x : Float} (c : Clean x) where
  same_add : (o : Option ℕ) → add_opt (pair_term k s e (binned_datum n o d)) x ≡ add_opt (pair_term k s e (pair_in (below n o) d)) x
  same_add None = idle_add (in_bin (Some 0) s (datum_term k e zero_datum)) (in_bin_law Idle tt (Some 0) s (datum_term k e zero_datum) (zero_term k e)) c
  same_add (Some b) = go (ltb b n)
    where
      go : (t : Bool) → add_opt (pair_term k s e (cond t (kept b d) dropped)) x ≡ add_opt (pair_term k s e (pair_in (cond t (Some b) None) d)) x
      go true = refl
      go false = refl

  pair_clean : (o : Option ℕ) → T (fits binary64 d.weight) → Clean (add_opt (pair_term k s e (pair_in o d)) x)
  pair_clean None h = c
  pair_clean (Some b) h = clean_add (in_bin (Some b) s (datum_term k e d)) (in_bin_law Fitting tt (Some b) s (datum_term k e d) (term_fits k e d h)) c

module _ (r : Run) (p : ℕ) where
  -- a whole run's worth of pairs
  same_fold : (l : List (Point × Point)) {x : Float} → Clean x → fold_at (binned_at r p) x l ≡ fold_at (pair_at r p) x l
  unfolding bin_of
  same_fold [] c = refl
  same_fold (q ∷ l) {x} c =
      let n = bins r.edges in
      let o = find r.edges (squared_diff_norm q.0 q.1) in
      let d = datum_of r.op q.0.rd q.1.rd in
      ap (λ (y : Float). fold_at (binned_at r p) y l) (same_add r.kind n (state_at n p) (number_at n p) d c o)
      ∙ same_fold l (pair_clean r.kind n (state_at n p) (number_at n p) d c (below n o) (mul-fits binary64 q.0.rd.w q.1.rd.w))

-- ---- the order of the pairs
map-map : {A B C : Type 0} (f : A → B) (g : B → C) (l : List A) → map g (map f l) ≡ map (λ a. g (f a)) l
map-map f g [] = refl
map-map f g (a ∷ l) = ap (λ (m : List _). g (f a) ∷ m) (map-map f g l)

later_range : {A : Type 0} (g : ℕ → A) (k n : ℕ) → flat_map (λ i. map (λ j. (g i, g j)) (range (suc i) (k + n - suc i))) (range k n) ≡ later_pairs (map g (range k n))
later_range g k zero = refl
later_range {A} g k (suc n) =
    let e : k + suc n - suc k ≡ n = omega arith in
    let h : k + suc n ≡ suc k + n = omega arith in
    λ i. (ap (λ (m : ℕ). map (λ j. (g k, g j)) (range (suc k) m)) e ∙ sym (map-map g (λ b. (g k, b)) (range (suc k) n))) i
    ++ (ap (λ (m : ℕ). flat_map (λ i. map (λ j. (g i, g j)) (range (suc i) (m - suc i))) (range (suc k) n)) h ∙ later_range g (suc k) n) i

cross_range : {A : Type 0} (g h : ℕ → A) (l m : List ℕ) → flat_map (λ i. map (λ j. (g i, h j)) m) l ≡ all_pairs (map g l) (map h m)
cross_range g h [] m = refl
cross_range g h (i ∷ l) m = λ t. sym (map-map h (λ b. (g i, b)) m) t ++ cross_range g h l m t

filtered_fold : {A : Type 0} (f : A → Bool) (t : A → Option Float) (l : List A) (x : Float) → fold_at t x (filtered f l) ≡ fold_at (λ a. cond (f a) (t a) None) x l
filtered_fold f t [] x = refl
filtered_fold f t (a ∷ l) x = go (f a) (λ y. filtered_fold f t l y)
  where
    go : (b : Bool) → ((y : Float) → fold_at t y (filtered f l) ≡ fold_at (λ a. cond (f a) (t a) None) y l) → fold_at t x (cond b (a ∷ filtered f l) (filtered f l)) ≡ fold_at (λ a. cond (f a) (t a) None) (add_opt (cond b (t a) None) x) l
    go true h = h (add_opt (t a) x)
    go false h = h x

-- ---- the whole scratch pack, and what the run leaves
same_scratch : (r : Run) (p : ℕ) (s : Sets) → team_scratch_of r p s ≡ scratch_of r p s
unfolding team_scratch_of scratch_of
same_scratch r p (one_points s) =
    ap (λ (l : List ℕ). fold_at (binned_at r p) (zero_f false) (flat_map (λ i. map (λ j. (point_at s i, point_at s j)) (range (suc i) (s.count - suc i))) l)) (one_team (upto s.count))
    ∙ ap (fold_at (binned_at r p) (zero_f false)) (ap (λ (m : ℕ). flat_map (λ i. map (λ j. (point_at s i, point_at s j)) (range (suc i) (m - suc i))) (upto s.count)) (sym (zero-add s.count)) ∙ later_range (point_at s) 0 s.count)
    ∙ same_fold r p (later_pairs (map (point_at s) (upto s.count))) clean_zero
same_scratch r p (two_points s t) =
    ap (λ (l : List ℕ). fold_at (binned_at r p) (zero_f false) (flat_map (λ i. map (λ j. (point_at s i, point_at t j)) (upto t.count)) l)) (one_team (upto s.count))
    ∙ ap (fold_at (binned_at r p) (zero_f false)) (cross_range (point_at s) (point_at t) (upto s.count) (upto t.count))
    ∙ same_fold r p (all_pairs (map (point_at s) (upto s.count)) (map (point_at t) (upto t.count))) clean_zero
same_scratch r p (one_block w a) =
    ap (fold_at (offset_at r p w a a) (zero_f false)) (one_team (filtered is_after (offsets_of a a)))
    ∙ filtered_fold is_after (offset_at r p w a a) (offsets_of a a) (zero_f false)
same_scratch r p (two_blocks w a b) = ap (fold_at (offset_at r p w a b) (zero_f false)) (one_team (offsets_of a b))

pub drive_reduce : (r : Run) (s : List Float) → driven r s ≡ merged r s
unfolding scratch
drive_reduce r s = ap (λ (f : ℕ → Float). overwritten (used r) f s) (fun_ext (λ p. ap (add binary64 (at s p)) (same_scratch r p r.sets)))

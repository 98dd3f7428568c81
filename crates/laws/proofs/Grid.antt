-- Blocks. The offsets between the cells of two axes, and for each offset the pairs of cells that are so far apart: every pair of cells stands at exactly one offset.
-- `grid1` for one axis, `grid3` for three (z, y, x), and `grid3_auto` for the offsets after (0, 0, 0):
-- the pairs of cells of which the first comes before the second in the order z, y, x. Assumes nothing.
use mathlib.Core.Path.{◌≡◌, refl, sym, ap, ◌∙◌}
use mathlib.Core.List.{List}
use mathlib.Core.Bool.{Bool, true, false, ◌&&◌, ◌||◌}
use Prim.Native.Nat.{ℕ, zero, suc, ◌+◌, ◌-◌, ◌<◌, min}
use native.Mathlib.Nat.{add-zero, add-suc, zero-min, min-zero}
use native.Mathlib.Omega.{arith}
use lib.Dec.{T, ltb, eqb, ltb→lt, lt→ltb, eqb→eq}
use lib.Ieee.Fits.{eq→eqb}
use borrow.Author.Tests.{lt-ltb, le-ltb, ne_eqb}
use lib.IntN.{ℤ, pos, negsuc, sub_ℕ, ◌+ℤ◌, +ℤ_idl, +ℤ_idr, +ℤ_comm}
use Rattle.definitions.specs.Lists.{upto, sum_by}
use Rattle.definitions.specs.Blocks.{start_a, start_b, count, offsets, is_pos, is_zero, after}
use Rattle.definitions.specs.Survey.{when_z}
use Rattle.laws.proofs.Integers.{sums}
use Rattle.laws.proofs.Sums.{O, sum_by_map, sum_by_zero, sum_by_add, sum_by_swap, sum_n, sum_n_congr, sum_n_first, sum_n_last, sum_n_split}

-- ---- one axis: a has L cells and b has M
-- the sum over the pairs of cells at offset d, in a's order
abbrev pub diag : ℕ → ℕ → ℤ → (ℕ → ℕ → ℤ) → ℤ
diag L M d f = sum_n (count L M d) (λ k. f (start_a d + k) (start_b d + k))

abbrev pub all : ℕ → ℕ → (ℕ → ℕ → ℤ) → ℤ
all L M f = sum_n L (λ i. sum_n M (λ j. f i j))

-- the offsets below 0, and those from 0 on
abbrev low : ℕ → ℕ → ℕ → (ℕ → ℕ → ℤ) → ℤ
low n L M f = sum_n n (λ m. diag L M (negsuc m) f)

abbrev upp : ℕ → ℕ → (ℕ → ℕ → ℤ) → ℤ
upp L M f = sum_n M (λ n. diag L M (pos n) f)

abbrev next : (ℕ → ℕ → ℤ) → ℕ → ℕ → ℤ
next f i j = f (suc i) (suc j)

-- a diagonal without its first pair is one of the grid without its first row and column
shorter : (c e : ℕ) (f : ℕ → ℕ → ℤ) (a b : ℕ) → c ≡ suc e → sum_n c (λ k. f (a + k) (b + k)) ≡ f a b +ℤ sum_n e (λ k. next f (a + k) (b + k))
shorter c e f a b h =
    ap (λ (n : ℕ). sum_n n (λ k. f (a + k) (b + k))) h ∙ sum_n_first e (λ k. f (a + k) (b + k))
    ∙ (λ i. f (add-zero a i) (add-zero b i) +ℤ sum_n e (λ k. f (add-suc a k i) (add-suc b k i)))

empty : (n : ℕ) (c : ℕ → ℕ) (g : ℕ → ℕ → ℤ) → ((i : ℕ) → c i ≡ 0) → sum_n n (λ i. sum_n (c i) (g i)) ≡ O
empty n c g h = (λ j. sum_n n (λ i. sum_n (h i j) (g i))) ∙ sum_by_zero (upto n)

-- the diagonal below the last one is empty
low_last : (L M : ℕ) (f : ℕ → ℕ → ℤ) → low (suc L) (suc L) M f ≡ low L (suc L) M f
low_last L M f =
    let e : min (suc L - suc L) M ≡ 0 = omega arith in
    sum_n_last L (λ m. diag (suc L) M (negsuc m) f) ∙ (λ i. low L (suc L) M f +ℤ sum_n (e i) (λ k. f (suc L + k) (0 + k))) ∙ +ℤ_idr (low L (suc L) M f)

low_step : (L M : ℕ) (f : ℕ → ℕ → ℤ) → low (suc L) (suc L) (suc M) f ≡ sum_n L (λ i. f (suc i) 0) +ℤ low L L M (next f)
low_step L M f =
    low_last L (suc M) f
    ∙ sum_n_congr L (λ m. diag (suc L) (suc M) (negsuc m) f) (λ m. f (suc m) 0 +ℤ diag L M (negsuc m) (next f))
    (λ m h. shorter (min (suc L - suc m) (suc M)) (min (L - suc m) M) f (suc m) 0 (omega arith))
    ∙ sum_by_add (λ m. f (suc m) 0) (λ m. diag L M (negsuc m) (next f)) (upto L)

upp_step : (L M : ℕ) (f : ℕ → ℕ → ℤ) → upp (suc L) (suc M) f ≡ sum_n (suc M) (λ j. f 0 j) +ℤ upp L M (next f)
upp_step L M f =
    let g : ℕ → ℤ = λ n. diag L M (pos n) (next f) in
    let e : min L (M - M) ≡ 0 = omega arith in
    sum_n_congr (suc M) (λ n. diag (suc L) (suc M) (pos n) f) (λ n. f 0 n +ℤ g n) (λ n h. shorter (min (suc L) (suc M - n)) (min L (M - n)) f 0 n (omega arith))
    ∙ sum_by_add (λ n. f 0 n) g (upto (suc M))
    ∙ ap (λ (s : ℤ). sum_n (suc M) (λ j. f 0 j) +ℤ s) (sum_n_last M g ∙ (λ i. sum_n M g +ℤ sum_n (e i) (λ k. next f (0 + k) (M + k))) ∙ +ℤ_idr (sum_n M g))

both : (L M : ℕ) (f : ℕ → ℕ → ℤ) → low L L M f +ℤ upp L M f ≡ all L M f
both zero M f = +ℤ_idl (upp zero M f) ∙ empty M (λ n. min 0 (M - n)) (λ n k. f (0 + k) (n + k)) (λ n. zero-min (M - n))
both (suc L) zero f =
    +ℤ_idr (low (suc L) (suc L) zero f) ∙ empty (suc L) (λ m. min (suc L - suc m) 0) (λ m k. f (suc m + k) (0 + k)) (λ m. min-zero (suc L - suc m)) ∙ sym (sum_by_zero (upto (suc L)))
both (suc L) (suc M) f =
    let p = sum_n L (λ i. f (suc i) 0) in
    let r = sum_n (suc M) (λ j. f 0 j) in
    (λ i. low_step L M f i +ℤ upp_step L M f i)
    ∙ turn p (low L L M (next f)) r (upp L M (next f))
    ∙ ap (λ (s : ℤ). r +ℤ (p +ℤ s)) (both L M (next f))
    ∙ sym (sum_n_first L (λ i. sum_n (suc M) (λ j. f i j))
    ∙ ap (λ (s : ℤ). r +ℤ s) ((λ k. sum_n L (λ i. sum_n_first M (f (suc i)) k)) ∙ sum_by_add (λ i. f (suc i) 0) (λ i. sum_n M (λ j. next f i j)) (upto L)))
  where
    turn : (p q r s : ℤ) → p +ℤ q +ℤ (r +ℤ s) ≡ r +ℤ (p +ℤ (q +ℤ s))
    turn p q r s = simp sums

-- ---- the offsets as a list
sum_n_rev : (n : ℕ) (g : ℕ → ℤ) → sum_n n (λ t. g (n - suc t)) ≡ sum_n n g
sum_n_rev zero g = refl
sum_n_rev (suc n) g =
    let e : suc n - 1 ≡ n = omega arith in
    sum_n_first n (λ t. g (suc n - suc t))
    ∙ (λ i. g (e i) +ℤ (sum_n_congr n (λ t. g (suc n - suc (suc t))) (λ t. g (n - suc t)) (λ t h. ap g (omega arith)) ∙ sum_n_rev n g) i)
    ∙ +ℤ_comm (g n) (sum_n n g) ∙ sym (sum_n_last n g)

sub_pos : (a d : ℕ) → sub_ℕ (a + d) a ≡ pos d
sub_pos a d = rw (le-ltb (a + d) a (omega arith)) (ap pos (omega arith))

sub_neg : (a t : ℕ) → t < a → sub_ℕ t a ≡ negsuc (a - suc t)
sub_neg a t l = rw (lt-ltb t a l)

-- below 0, and from 0 on
pub offsets_split : (a M : ℕ) (h : ℤ → ℤ) → sum_by h (offsets (suc a) M) ≡ sum_n a (λ m. h (negsuc m)) +ℤ sum_n M (λ n. h (pos n))
offsets_split a M h =
    let e : suc a - 1 ≡ a = omega arith in
    let c : suc a + M - 1 ≡ a + M = omega arith in
    sum_by_map (λ t. sub_ℕ t (suc a - 1)) h (upto (suc a + M - 1)) ∙ (λ i. sum_n (c i) (λ t. h (sub_ℕ t (e i)))) ∙ sum_n_split a M (λ t. h (sub_ℕ t a))
    ∙ (λ i. (sum_n_congr a (λ t. h (sub_ℕ t a)) (λ t. h (negsuc (a - suc t))) (λ t l. ap h (sub_neg a t l)) ∙ sum_n_rev a (λ m. h (negsuc m))) i +ℤ sum_n M (λ d. h (sub_pos a d i)))

pub grid1 : (L M : ℕ) → 0 < L → (f : ℕ → ℕ → ℤ) → sum_by (λ d. diag L M d f) (offsets L M) ≡ all L M f
grid1 zero M h f = absurd (omega arith)
grid1 (suc a) M h f = offsets_split a M (λ d. diag (suc a) M d f) ∙ ap (λ (s : ℤ). s +ℤ upp (suc a) M f) (sym (low_last a M f)) ∙ both (suc a) M f

-- ---- three axes
-- a diagonal's sum goes through any other sum
diag_out : {A : Type 0} (L M : ℕ) (d : ℤ) (g : A → ℕ → ℕ → ℤ) (l : List A) → sum_by (λ e. diag L M d (g e)) l ≡ diag L M d (λ i j. sum_by (λ e. g e i j) l)
diag_out L M d g l = sum_by_swap (λ e k. g e (start_a d + k) (start_b d + k)) l (upto (count L M d))

-- a pair of cells is six indices: z y x of a's cell, z y x of b's
abbrev pub Six : Type 0
Six = ℕ → ℕ → ℕ → ℕ → ℕ → ℕ → ℤ

module _ (Lz Ly Lx Mz My Mx : ℕ) where
  -- the pairs of cells at one offset
  abbrev pub diag3 : ℤ → ℤ → ℤ → Six → ℤ
  diag3 dz dy dx f = diag Lz Mz dz (λ z w. diag Ly My dy (λ y v. diag Lx Mx dx (λ x u. f z y x w v u)))

  -- over all offsets, x fastest
  abbrev pub over3 : (ℤ → ℤ → ℤ → ℤ) → ℤ
  over3 h = sum_by (λ dz. sum_by (λ dy. sum_by (λ dx. h dz dy dx) (offsets Lx Mx)) (offsets Ly My)) (offsets Lz Mz)

  -- every cell of a with every cell of b
  abbrev pub all3 : Six → ℤ
  all3 f = sum_n Lz (λ z. sum_n Ly (λ y. sum_n Lx (λ x. sum_n Mz (λ w. sum_n My (λ v. sum_n Mx (λ u. f z y x w v u))))))

  abbrev axes : Six → ℤ
  axes f = all Lz Mz (λ z w. all Ly My (λ y v. all Lx Mx (λ x u. f z y x w v u)))

  by_axes : (f : Six) → 0 < Lz → 0 < Ly → 0 < Lx → over3 (λ dz dy dx. diag3 dz dy dx f) ≡ axes f
  by_axes f hz hy hx =
      (λ i. sum_by (λ dz. (
      (λ j. sum_by (λ dy. (
      diag_out Lz Mz dz (λ dx z w. diag Ly My dy (λ y v. diag Lx Mx dx (λ x u. f z y x w v u))) (offsets Lx Mx)
      ∙ (λ k. diag Lz Mz dz (λ z w. (
      diag_out Ly My dy (λ dx y v. diag Lx Mx dx (λ x u. f z y x w v u)) (offsets Lx Mx)
      ∙ (λ m. diag Ly My dy (λ y v. grid1 Lx Mx hx (λ x u. f z y x w v u) m))) k))) j) (offsets Ly My))
      ∙ diag_out Lz Mz dz (λ dy z w. diag Ly My dy (λ y v. all Lx Mx (λ x u. f z y x w v u))) (offsets Ly My)
      ∙ (λ j. diag Lz Mz dz (λ z w. grid1 Ly My hy (λ y v. all Lx Mx (λ x u. f z y x w v u)) j))) i) (offsets Lz Mz))
      ∙ grid1 Lz Mz hz (λ z w. all Ly My (λ y v. all Lx Mx (λ x u. f z y x w v u)))

  sort : (f : Six) → axes f ≡ all3 f
  sort f = λ i. sum_n Lz (λ z. (
      sum_by_swap (λ w y. sum_n My (λ v. sum_n Lx (λ x. sum_n Mx (λ u. f z y x w v u)))) (upto Mz) (upto Ly)
      ∙ (λ j. sum_n Ly (λ y. (
      (λ k. sum_n Mz (λ w. sum_by_swap (λ v x. sum_n Mx (λ u. f z y x w v u)) (upto My) (upto Lx) k))
      ∙ sum_by_swap (λ w x. sum_n My (λ v. sum_n Mx (λ u. f z y x w v u))) (upto Mz) (upto Lx)) j))) i)

  pub grid3 : (f : Six) → 0 < Lz → 0 < Ly → 0 < Lx → over3 (λ dz dy dx. diag3 dz dy dx f) ≡ all3 f
  grid3 f hz hy hx = by_axes f hz hy hx ∙ sort f

-- ---- auto: the offsets after (0, 0, 0)
abbrev pub before : ℕ → ℕ → ℕ → ℕ → ℕ → ℕ → Bool
before z y x w v u = ltb z w || (eqb z w && (ltb y v || (eqb y v && ltb x u)))

pub same_bool : (p q : Bool) → (T p → T q) → (T q → T p) → p ≡ q
same_bool true true f g = refl
same_bool false false f g = refl
same_bool true false f g = absurd (f tt)
same_bool false true f g = absurd (g tt)

-- along a diagonal the order of the two cells is the offset's sign
ltb_diag : (d : ℤ) (k : ℕ) → ltb (start_a d + k) (start_b d + k) ≡ is_pos d
ltb_diag (pos n) k =
    same_bool (ltb (0 + k) (n + k)) (ltb 0 n) (λ t. let h = ltb→lt (0 + k) (n + k) t in lt→ltb 0 n (omega arith)) (λ t. let h = ltb→lt 0 n t in lt→ltb (0 + k) (n + k) (omega arith))
ltb_diag (negsuc m) k = le-ltb (suc m + k) (0 + k) (omega arith)

eqb_diag : (d : ℤ) (k : ℕ) → eqb (start_a d + k) (start_b d + k) ≡ is_zero d
eqb_diag (pos n) k =
    same_bool (eqb (0 + k) (n + k)) (eqb n 0) (λ t. let h = eqb→eq (0 + k) (n + k) t in eq→eqb {a = n} {b = 0} (omega arith))
    (λ t. let h = eqb→eq n 0 t in eq→eqb {a = 0 + k} {b = n + k} (omega arith))
eqb_diag (negsuc m) k = ne_eqb (suc m + k) (0 + k) (λ e. omega arith)

when_sum : {A : Type 0} (b : Bool) (l : List A) (g : A → ℤ) → when_z b (sum_by g l) ≡ sum_by (λ k. when_z b (g k)) l
when_sum true l g = refl
when_sum false l g = sym (sum_by_zero l)

-- only where the first cell comes before the second
abbrev pub earlier : Six → Six
earlier f z y x w v u = when_z (before z y x w v u) (f z y x w v u)

diag_order : (dz dy dx : ℤ) (k l m : ℕ) → before (start_a dz + k) (start_a dy + l) (start_a dx + m) (start_b dz + k) (start_b dy + l) (start_b dx + m) ≡ after dz dy dx
diag_order dz dy dx k l m = λ i. ltb_diag dz k i || (eqb_diag dz k i && (ltb_diag dy l i || (eqb_diag dy l i && ltb_diag dx m i)))

module _ (Lz Ly Lx Mz My Mx : ℕ) where
  into : (dz dy dx : ℤ) (f : Six) → when_z (after dz dy dx) (diag3 Lz Ly Lx Mz My Mx dz dy dx f) ≡ diag3 Lz Ly Lx Mz My Mx dz dy dx (earlier f)
  into dz dy dx f =
      let b = after dz dy dx in
      let g : ℕ → ℕ → ℕ → ℤ = λ k l m. f (start_a dz + k) (start_a dy + l) (start_a dx + m) (start_b dz + k) (start_b dy + l) (start_b dx + m) in
      let cz = upto (count Lz Mz dz) in
      let cy = upto (count Ly My dy) in
      let cx = upto (count Lx Mx dx) in
      when_sum b cz (λ k. sum_by (λ l. sum_by (g k l) cx) cy)
      ∙ (λ i. sum_by (λ k. (when_sum b cy (λ l. sum_by (g k l) cx)
      ∙ (λ j. sum_by (λ l. (when_sum b cx (g k l) ∙ (λ n. sum_by (λ m. when_z (sym (diag_order dz dy dx k l m) n) (g k l m)) cx)) j) cy)) i) cz)

  pub grid3_auto : (f : Six) → 0 < Lz → 0 < Ly → 0 < Lx
      → over3 Lz Ly Lx Mz My Mx (λ dz dy dx. when_z (after dz dy dx) (diag3 Lz Ly Lx Mz My Mx dz dy dx f)) ≡ all3 Lz Ly Lx Mz My Mx (earlier f)
  grid3_auto f hz hy hx = (λ i. over3 Lz Ly Lx Mz My Mx (λ dz dy dx. into dz dy dx f i)) ∙ grid3 Lz Ly Lx Mz My Mx (earlier f) hz hy hx

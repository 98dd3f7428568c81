-- The sequences that the crate hands out: what a walk has left at its first offset (`cross_rest`, `auto_rest`), each offset within reach,
-- and the definitions' fold over all offsets as the fold over the auto sequence (`auto_fold`). Assumes nothing.
use mathlib.Core.Path.{◌≡◌, refl, sym, ap, ◌∙◌, subst}
use Rattle.std.specs.Prelude.{Option, None, Some, slice_get}
use Rattle.std.specs.List.{All, filter}
use Rattle.std.proofs.Common.{rules}
use Rattle.std.proofs.lemmas.Int.{ints, by_lt_z}
use Rattle.std.proofs.lemmas.Bool.Decides.{nat_tests}
use Rattle.std.proofs.lemmas.List.Elements.{All-nil, All-cons, All-head, All-tail, All-append, All-map, All-weaker, All-filter, All-get_or, filter-append}
use Rattle.std.proofs.lemmas.Option.{slice_get_within, get_or_from_slice_get}
use mathlib.Core.List.{List, [], ◌∷◌, ◌++◌, map}
use mathlib.Core.Bool.{Bool, true, false, not, cond, ◌&&◌}
use Prim.Native.Nat.{ℕ, zero, suc, ◌+◌, ◌-◌, ◌≤◌, ◌<◌}
use native.Mathlib.Omega.{arith}
use lib.Dec.{T, leb, eqb, leb→le, ltb→lt}
use lib.Ieee.Fits.{and_l, and_r}
use borrow.Author.Tests.{le-leb, lt-ltb, ne_eqb}
use lib.ListN.{length}
use lib.IntN.{ℤ, pos, negsuc, sub_ℕ, ◌+ℤ◌, ◌-ℤ◌}
use lib.Signed.{◌<ℤ◌, ◌≤ℤ◌}
use lib.Ieee.{Float}
use Rattle.definitions.specs.Lists.{range, flat_map, add_opt, fold_at}
use Rattle.definitions.specs.Blocks as blocks
use Rattle.definitions.specs.Blocks.{start_b, offsets, axes_offsets, is_pos, is_after}
use Rattle.idx_3d_offset.specs.declared.Axes.{Axes}
use Rattle.idx_3d_offset.specs.declared.Offset.{Offset}
use Rattle.idx_3d_offset.specs.Offsets.{axis_fits, walkable, cross_seq, auto_seq, Within, Reach, Axis, Walkable}
use Rattle.idx_3d_offset.specs.Steps.{at, offset_of, lowest_of, end_of, counted, between, row, rows, planes, rest, Inside}
use Rattle.idx_3d_offset.proofs.Steps.{between_first, between_none, planes_first, first}

-- ---- axes that fit
fits_axis : (n : ℕ) → Axis n → axis_fits n ≡ true
fits_axis n h = let e : n ≡ 0 → ⊥ = omega arith in λ t. not (ne_eqb n 0 e t) && le-leb n 64 h.most t

axis_fits_law : (n : ℕ) → T (axis_fits n) → Axis n
axis_fits_law zero t = absurd t
axis_fits_law (suc n) t = record { least = omega arith; most = leb→le (suc n) 64 (and_r (not (eqb (suc n) 0)) (leb (suc n) 64) t) }

fits_axes : (a : Axes) → Walkable a → walkable a ≡ true
unfolding walkable
fits_axes a h = λ t. fits_axis a.z h.z_axis t && fits_axis a.y h.y_axis t && fits_axis a.x h.x_axis t

pub axes_fit : (a : Axes) (r : Bool) → r ≡ walkable a → r ≡ true → Walkable a
unfolding walkable
axes_fit a r p e =
    let t : T (walkable a) = subst T (sym e ∙ p) tt in
    record {
      z_axis = axis_fits_law a.z (search (and_l, and_r));
      y_axis = axis_fits_law a.y (search (and_l, and_r));
      x_axis = axis_fits_law a.x (search (and_l, and_r));
    }

pub cross_all : (a b : Axes) → Walkable a → Walkable b → cross_seq a b ≡ axes_offsets a.z a.y a.x b.z b.y b.x
unfolding cross_seq
cross_all a b ha hb = λ t. cond (fits_axes a ha t && fits_axes b hb t) (axes_offsets a.z a.y a.x b.z b.y b.x) []

-- ---- one axis
sub_law : (m n : ℕ) → sub_ℕ m n ≡ pos m -ℤ pos n
sub_law m zero = grind (arith, ints, nat_tests)
sub_law m (suc n) = refl

counted_law : (c k n : ℕ) → map (λ t. sub_ℕ t c) (range k n) ≡ counted (sub_ℕ k c) n
counted_law c k zero = refl
counted_law c k (suc n) =
    let e : sub_ℕ (suc k) c ≡ sub_ℕ k c +ℤ pos 1 = omega (arith, ints, sub_law (suc k) c, sub_law k c) in
    ap (λ (l : List ℤ). sub_ℕ k c ∷ l) (counted_law c (suc k) n ∙ ap (λ (d : ℤ). counted d n) e)

start_law : (z : ℤ) (n : ℕ) → z ≡ pos n → start_b z ≡ n
start_law z n e = ap start_b e

offsets_law : (L M : ℕ) → 1 ≤ L → offsets L M ≡ between (pos 1 -ℤ pos L) (pos M)
unfolding between
offsets_law L M h =
    let l : sub_ℕ 0 (L - 1) ≡ pos 1 -ℤ pos L = omega (arith, ints, sub_law 0 (L - 1)) in
    let k : L + M - 1 ≡ start_b (pos M -ℤ (pos 1 -ℤ pos L)) = sym (start_law (pos M -ℤ (pos 1 -ℤ pos L)) (L + M - 1) (omega (arith, ints))) in
    counted_law (L - 1) 0 (L + M - 1) ∙ (λ t. counted (l t) (k t))

-- what is in a part of an axis
record Between (d e x : ℤ) : Type 0 where
  low : d ≤ℤ x
  high : x <ℤ e

start_most : (z : ℤ) → z ≤ℤ pos (start_b z)
start_most (pos n) = omega (arith, ints)
start_most (negsuc n) = omega (arith, ints)

between_all : (d e : ℤ) → All (Between d e) (between d e)
between_all d e = let h = start_most (e -ℤ d) in go (start_b (e -ℤ d)) d (omega (arith, ints)) (omega (arith, ints))
  where
    done : (x : ℤ) → e ≤ℤ x → All (Between d e) (between x e)
    done x h = rw (between_none x e h) (All-nil (Between d e))

    go : (n : ℕ) (x : ℤ) → d ≤ℤ x → e ≤ℤ (x +ℤ pos n) → All (Between d e) (between x e)
    go zero x l m = done x (omega (arith, ints))
    go (suc n) x l m =
        let u : d ≤ℤ (x +ℤ pos 1) = omega (arith, ints) in
        let f = λ (h : x <ℤ e). All-cons (Between d e) x (between (x +ℤ pos 1) e) (record { low = l; high = h }) (go n (x +ℤ pos 1) u (omega (arith, ints))) in
        by_lt_z x e (λ h. rw (between_first x e h) (f h)) (done x)

module _ {A : Type 0} (P : A → Type 0) (g : ℤ → List A) where
  flat_all : (d e : ℤ) → ((x : ℤ) → Between d e x → All P (g x)) → All P (flat_map g (between d e))
  flat_all d e h = go (between d e) (between_all d e)
    where
      go : (l : List ℤ) → All (Between d e) l → All P (flat_map g l)
      go [] a = All-nil P
      go (x ∷ l) a = All-append P (g x) (flat_map g l) (h x (All-head (Between d e) x l a)) (go l (All-tail (Between d e) x l a))

module _ (lowest end : Offset) (P : blocks.Idx3DOffset → Type 0) where
  row_all : (z y x : ℤ) → ((dx : ℤ) → Between x end.x dx → P (at z y dx)) → All P (row lowest end z y x)
  row_all z y x h = All-map P (at z y) (between x end.x) (All-weaker (Between x end.x) (λ dx. P (at z y dx)) h (between x end.x) (between_all x end.x))

  rows_all : (z y : ℤ) → ((dy dx : ℤ) → Between y end.y dy → Between lowest.x end.x dx → P (at z dy dx)) → All P (rows lowest end z y)
  rows_all z y h = flat_all P (λ dy. row lowest end z dy lowest.x) y end.y (λ dy b. row_all z dy lowest.x (λ dx c. h dy dx b c))

  planes_all : (z : ℤ) → ((dz dy dx : ℤ) → Between z end.z dz → Between lowest.y end.y dy → Between lowest.x end.x dx → P (at dz dy dx))
      → All P (planes lowest end z)
  planes_all z h = flat_all P (λ dz. rows lowest end dz lowest.y) z end.z (λ dz a. rows_all dz lowest.y (λ dy dx b c. h dz dy dx a b c))

-- ---- those after (0, 0, 0)
module _ {A : Type 0} (p : A → Bool) where
  keeps : (l : List A) → All (λ a. p a ≡ true) l → filter p l ≡ l
  keeps [] h = refl
  keeps (a ∷ l) h = rw (All-head (λ a. p a ≡ true) a l h) (ap (λ (m : List A). a ∷ m) (keeps l (All-tail (λ a. p a ≡ true) a l h)))

  drops : (l : List A) → All (λ a. p a ≡ false) l → filter p l ≡ []
  drops [] h = refl
  drops (a ∷ l) h = rw (All-head (λ a. p a ≡ false) a l h) (drops l (All-tail (λ a. p a ≡ false) a l h))

  -- of an axis from below 0 to past it: nothing below 0, and all past it
  module _ (g : ℤ → List A) (e : ℤ) (he : pos 0 <ℤ e)
      (below : (m : ℕ) → All (λ a. p a ≡ false) (g (negsuc m))) (above : (x : ℤ) → is_pos x ≡ true → All (λ a. p a ≡ true) (g x)) where
    past : (x : ℤ) → Between (pos 1) e x → All (λ a. p a ≡ true) (g x)
    past (pos zero) b = absurd (omega (arith, ints))
    past (pos (suc m)) b = above (pos (suc m)) (lt-ltb 0 (suc m) (omega arith))
    past (negsuc m) b = absurd (omega (arith, ints))

    from_below : (k : ℕ) (d : ℤ) → d +ℤ pos k ≡ pos 0 → filter p (flat_map g (between d e)) ≡ filter p (g (pos 0)) ++ flat_map g (between (pos 1) e)
    from_below zero d h =
        let z : d ≡ pos 0 = omega (arith, ints) in
        ap (λ (x : ℤ). filter p (flat_map g (between x e))) z
        ∙ ap (λ (l : List ℤ). filter p (flat_map g l)) (between_first (pos 0) e he) ∙ filter-append p (g (pos 0)) (flat_map g (between (pos 1) e))
        ∙ ap (λ (l : List A). filter p (g (pos 0)) ++ l) (keeps (flat_map g (between (pos 1) e)) (flat_all (λ a. p a ≡ true) g (pos 1) e past))
    from_below (suc k) d h =
        let n : d ≡ negsuc k = omega (arith, ints) in
        ap (λ (x : ℤ). filter p (flat_map g (between x e))) n
        ∙ ap (λ (l : List ℤ). filter p (flat_map g l)) (between_first (negsuc k) e (omega (arith, ints)))
        ∙ filter-append p (g (negsuc k)) (flat_map g (between (negsuc k +ℤ pos 1) e))
        ∙ ap (λ (l : List A). l ++ filter p (flat_map g (between (negsuc k +ℤ pos 1) e))) (drops (g (negsuc k)) (below k))
        ∙ from_below k (negsuc k +ℤ pos 1) (omega (arith, ints))

singles : {A : Type 0} (f : ℤ → A) (l : List ℤ) → map f l ≡ flat_map (λ d. f d ∷ []) l
singles f [] = refl
singles {A} f (d ∷ l) = ap (λ (m : List A). f d ∷ m) (singles f l)

-- ---- the sequences of blocks whose axes fit
module _ (a b : Axes) (ha : Walkable a) (hb : Walkable b) where
  all_planes : axes_offsets a.z a.y a.x b.z b.y b.x ≡ planes (lowest_of a) (end_of b) (pos 1 -ℤ pos a.z)
  all_planes =
      λ t. flat_map (λ dz. flat_map (λ dy. map (at dz dy) (offsets_law a.x b.x ha.x_axis.least t)) (offsets_law a.y b.y ha.y_axis.least t))
      (offsets_law a.z b.z ha.z_axis.least t)

  low_inside : Inside (lowest_of a) (end_of b) (lowest_of a)
  low_inside = search rules

  low_rest : rest (lowest_of a) (end_of b) (lowest_of a) ≡ cross_seq a b
  low_rest =
      sym (planes_first (lowest_of a) (end_of b) (omega (arith, ints)) (lowest_of a) refl refl (omega (arith, ints)))
      ∙ sym all_planes ∙ sym (cross_all a b ha hb)

  -- low and end are what calls answered
  module _ (low end : Offset) (p : low ≡ lowest_of a) (q : end ≡ end_of b) where
    pub cross_inside : Inside low end low
    cross_inside = rw (p, q) low_inside

    pub cross_rest : rest low end low ≡ cross_seq a b
    cross_rest = rw (p, q) low_rest

-- a block with itself: from (0, 0, 0) on
module _ (a : Axes) (h : Walkable a) where
  abbrev low : Offset
  low = lowest_of a

  abbrev end : Offset
  end = end_of a

  abbrev zero_offset : Offset
  zero_offset = record { z = pos 0; y = pos 0; x = pos 0 }

  below_row : filter is_after (row low end (pos 0) (pos 0) low.x) ≡ row low end (pos 0) (pos 0) (pos 1)
  below_row =
      let f : ℤ → blocks.Idx3DOffset = at (pos 0) (pos 0) in
      ap (filter is_after) (singles f (between low.x end.x))
      ∙ from_below is_after (λ dx. f dx ∷ []) end.x (omega (arith, ints))
      (λ m. All-cons (λ a. is_after a ≡ false) (f (negsuc m)) [] refl (All-nil (λ a. is_after a ≡ false)))
      (λ x e. All-cons (λ a. is_after a ≡ true) (f x) [] e (All-nil (λ a. is_after a ≡ true)))
      (a.x - 1) low.x (omega (arith, ints))
      ∙ sym (singles f (between (pos 1) end.x))

  below_rows : filter is_after (rows low end (pos 0) low.y) ≡ row low end (pos 0) (pos 0) (pos 1) ++ rows low end (pos 0) (pos 1)
  below_rows =
      from_below is_after (λ dy. row low end (pos 0) dy low.x) end.y (omega (arith, ints))
      (λ m. row_all low end (λ a. is_after a ≡ false) (pos 0) (negsuc m) low.x (λ dx c. refl))
      (λ y e. row_all low end (λ a. is_after a ≡ true) (pos 0) y low.x (λ dx c. rw e refl))
      (a.y - 1) low.y (omega (arith, ints))
      ∙ ap (λ (l : List blocks.Idx3DOffset). l ++ rows low end (pos 0) (pos 1)) below_row

  auto_planes : auto_seq a ≡ (row low end (pos 0) (pos 0) (pos 1) ++ rows low end (pos 0) (pos 1)) ++ planes low end (pos 1)
  unfolding auto_seq
  auto_planes =
      ap (filter is_after) (cross_all a a h h ∙ all_planes a a h h)
      ∙ from_below is_after (λ dz. rows low end dz low.y) end.z (omega (arith, ints))
      (λ m. rows_all low end (λ a. is_after a ≡ false) (negsuc m) low.y (λ dy dx b c. refl))
      (λ z e. rows_all low end (λ a. is_after a ≡ true) z low.y (λ dy dx b c. rw e refl))
      (a.z - 1) low.z (omega (arith, ints))
      ∙ ap (λ (l : List blocks.Idx3DOffset). l ++ planes low end (pos 1)) below_rows

  zero_inside : Inside low end zero_offset
  zero_inside = search rules

  zero_rest : (l : List blocks.Idx3DOffset) → rest low end zero_offset ≡ offset_of zero_offset ∷ l → l ≡ auto_seq a
  zero_rest l e = let f = first low end zero_offset zero_inside in let g = auto_planes in cc

  -- d, e and l are what calls answered
  module _ (d e : Offset) (p : d ≡ low) (q : e ≡ end) where
    pub auto_inside : Inside d e zero_offset
    auto_inside = rw (p, q) zero_inside

    pub auto_rest : (l : List blocks.Idx3DOffset) → rest d e zero_offset ≡ offset_of zero_offset ∷ l → l ≡ auto_seq a
    auto_rest l h = zero_rest l ((λ t. rest (sym p t) (sym q t) zero_offset) ∙ h)

-- ---- each is within reach
within : (L M : ℕ) → Axis L → Axis M → (d : ℤ) → Between (pos 1 -ℤ pos L) (pos M) d → Within L M d
within L M h g (pos n) k = record { first = h.least; second = ltb→lt n M k.high.lt }
within L M h g (negsuc n) k = record { first = omega (arith, ints, k.low); second = g.least }

module _ (a b : Axes) where
  all_reach : All (Reach a b) (cross_seq a b)
  unfolding cross_seq
  all_reach = go (walkable a) (walkable b) refl refl
    where
      go : (s t : Bool) → s ≡ walkable a → t ≡ walkable b → All (Reach a b) (cond (s && t) (axes_offsets a.z a.y a.x b.z b.y b.x) [])
      go false t p q = All-nil (Reach a b)
      go true false p q = All-nil (Reach a b)
      go true true p q =
          let h = axes_fit a true p refl in
          let k = axes_fit b true q refl in
          let z = within a.z b.z h.z_axis k.z_axis in
          let y = within a.y b.y h.y_axis k.y_axis in
          let x = within a.x b.x h.x_axis k.x_axis in
          rw (all_planes a b h k)
          (planes_all (lowest_of a) (end_of b) (Reach a b) (pos 1 -ℤ pos a.z) (λ dz dy dx i j l. record { z_axis = z dz i; y_axis = y dy j; x_axis = x dx l }))

found : {A : Type 0} (P : A → Type 0) (l : List A) (i : ℕ) (d : A) → All P l → Some d ≡ slice_get l i → P d
found P l i d h e = subst P (get_or_from_slice_get l i d d (sym e)) (All-get_or P l i d (slice_get_within l i d (sym e)) h)

pub cross_reach : (a b : Axes) (i n : ℕ) → n ≡ length (cross_seq a b) → i < n → (d : blocks.Idx3DOffset) → Some d ≡ slice_get (cross_seq a b) i → Reach a b d
cross_reach a b i n _ _ d e = found (Reach a b) (cross_seq a b) i d (all_reach a b) e

pub auto_reach : (a : Axes) (i n : ℕ) → n ≡ length (auto_seq a) → i < n → (d : blocks.Idx3DOffset) → Some d ≡ slice_get (auto_seq a) i → Reach a a d
unfolding auto_seq
auto_reach a i n _ _ d e = found (Reach a a) (auto_seq a) i d (All-filter is_after (Reach a a) (cross_seq a a) (all_reach a a)) e

-- ---- a fold over all offsets in which those that are not after (0, 0, 0) add nothing
fold_law : {A : Type 0} (p : A → Bool) (t : A → Option Float) (x : Float) (l : List A) → fold_at (λ a. cond (p a) (t a) None) x l ≡ fold_at t x (filter p l)
fold_law p t x [] = refl
fold_law p t x (a ∷ l) = go (p a) (λ y. fold_law p t y l)
  where
    go : (b : Bool) → ((y : Float) → fold_at (λ a. cond (p a) (t a) None) y l ≡ fold_at t y (filter p l))
        → fold_at (λ a. cond (p a) (t a) None) (add_opt (cond b (t a) None) x) l ≡ fold_at t x (cond b (a ∷ filter p l) (filter p l))
    go true h = h (add_opt (t a) x)
    go false h = h x

pub auto_fold : (a : Axes) → Walkable a → (t : blocks.Idx3DOffset → Option Float) (x : Float)
    → fold_at (λ d. cond (is_after d) (t d) None) x (axes_offsets a.z a.y a.x a.z a.y a.x) ≡ fold_at t x (auto_seq a)
unfolding auto_seq
auto_fold a h t x =
    fold_law is_after t x (axes_offsets a.z a.y a.x a.z a.y a.x)
    ∙ ap (λ (l : List blocks.Idx3DOffset). fold_at t x (filter is_after l)) (sym (cross_all a a h h))

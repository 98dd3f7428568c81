-- What a batch's lookup leaves, and the edges' own bins.
use mathlib.Core.Path.{◌≡◌, refl, sym, ap, subst, ◌∙◌}
use Rattle.std.specs.Borrow.{Bor}
use Rattle.std.specs.Prelude.{Option, None, Some}
use mathlib.Core.Bool.{Bool, true, false, cond, not, ◌&&◌, ◌||◌, true≢false}
use mathlib.Core.List.{List, [], ◌∷◌, map}
use Prim.Native.Nat.{ℕ, suc, ◌+◌, ◌-◌, ◌*◌, ◌/◌, ◌%◌, ◌^◌, ◌<◌, ◌≤◌, min}
use native.Mathlib.Omega.{arith}
use lib.Dec.{ltb, eqb, T}
use lib.ListN.{length, get_or, length-map}
use lib.Ieee.{Float, lt, le, eq, ne, is_nan, binary64, add, mul, of_bits, to_bits, fits}
use lib.Ieee.Bits.{is_true}
use borrow.Author.Tests.{lt-ltb, le-ltb, ltb-true, eq-eqb, ne_eqb}
use Rattle.definitions.specs.Lists.{at}
use Rattle.definitions.specs.Floats.{as_usize}
use Rattle.definitions.specs.Bins as definitions
use Rattle.definitions.specs.Bins.{below}
use Rattle.reducer.specs.declared.BinEdges.TheVariants.{Regular, Irregular}
use Rattle.reducer.specs.Readings.{BuiltEdges}
use Rattle.reducer.specs.Consume.{built_bins, built_find, built_bin}
use Rattle.reducer.proofs.Placewise.{below_again}
use Rattle.edge_table.specs.declared.Ends.{Ends}
use Rattle.edge_table.specs.declared.Table.{Table}
use Rattle.edge_table.specs.Table.{hint_place, place_of, near_hint, bit, past_end, enclosed, nonzero, located_bin, irregular_bin, sure_at}
use Rattle.edge_table.specs.Tabled.{Tabled}
use Rattle.edge_table.proofs.Lookups.{outside, bin_past, enclosed_bin, located_found}
use Rattle.edge_table.specs.declared.Lookup.{Lookup}
use Rattle.edge_batch.specs.Batch.{number_or, quotient, is_past, number_for, sure_number, AtMost, each, sure_in, sure, settled, settled_or, batch_number, number_by_in, number_by, number_in, numbers_of}
use Rattle.edge_batch.proofs.Loops.{each_after, each_value}
use Rattle.edge_batch.proofs.Cuts.{sure_within}

-- ---- the first loop
-- places is what the places' loop left
pub sure_irregular : (inside : Bool) (look : Lookup) (list : Bor (List Float)) (x : List Float) (before places l : List ℕ) → look.edges ≡ Irregular list → places ≡ each (λ v n. place_of inside look.table v) x before
    → l ≡ each (sure_at list.now look.hints.now) x places → l ≡ each (λ v n. sure inside look v) x before
sure_irregular inside look list x before places l t p q =
    let f = sure_at list.now look.hints.now in
    q ∙ ap (each f x) p ∙ each_after f (place_of inside look.table) x before ∙ (λ i. each (λ v n. sure_in inside (sym t i) look.table look.hints.now v) x before)

-- ---- the second
settled_kept : (inside : Bool) (look : Lookup) (x : Float) (n : ℕ) → n < 8192 → n ≡ settled_or inside look x n
unfolding settled_or
settled_kept inside look x n h = rw (lt-ltb n 8192 h)

-- ---- the edges' own bins
module _ (list : Bor (List Float)) (hints : List ℕ) (table : Table) (x : Float) where
  es : List Float
  es = list.now

  -- what is no place
  unplaced : (p : ℕ) → 4096 ≤ p → sure_at es hints x p ≡ cond (eqb (p / 4096) 1) 4096 (2 ^ 64 - 1)
  unfolding sure_at
  unplaced p h = rw (le-ltb p (min (length hints) 4096) (omega arith))

  no_zero : eq x (of_bits binary64 0) ≡ false → nonzero x ≡ true
  unfolding ne
  no_zero k = ap not k

  module _ (t : Tabled (Irregular list) table.ends) (f : fits binary64 x ≡ true) where
    -- a hint that is no mark was tested
    tried : (p : ℕ) → nonzero x ≡ true → p < 4096 → sure_at es hints x p < 8192 → sure_at es hints x p ≡ number_or (irregular_bin es x)
    unfolding sure_at es
    tried p z h = go (ltb p (min (length hints) 4096)) (enclosed es x (near_hint es x (get_or hints p 0))) refl
      where
        g : ℕ
        g = near_hint es x (get_or hints p 0)

        go : (b s : Bool) → enclosed es x g ≡ s → cond b (cond s g (2 ^ 64 - 1)) (cond (eqb (p / 4096) 1) 4096 (2 ^ 64 - 1)) < 8192
            → cond b (cond s g (2 ^ 64 - 1)) (cond (eqb (p / 4096) 1) 4096 (2 ^ 64 - 1)) ≡ number_or (irregular_bin es x)
        go true true e l = ap number_or (enclosed_bin es t.usable x f g z e)
        go true false e l = absurd (omega (arith, l))
        go false s e l =
            let n : eqb (p / 4096) 1 ≡ false = ne_eqb (p / 4096) 1 (λ w. omega (arith, w, h)) in
            absurd (omega (arith, subst (λ (b : Bool). cond b 4096 (2 ^ 64 - 1) < 8192) n l))

    past_none : past_end table.ends x ≡ true → None ≡ irregular_bin es x
    unfolding built_bin es
    past_none h = bin_past (Irregular list) table.ends x t.ends h

    is_past_none : (inside : Bool) → (not inside && past_end table.ends x) ≡ true → None ≡ irregular_bin es x
    is_past_none true h = absurd (true≢false (sym h))
    is_past_none false h = past_none h

    settled_found : (inside : Bool) → settled inside (Irregular list) table.ends x ≡ number_or (irregular_bin es x)
    unfolding es
    settled_found inside = go (past_end table.ends x) refl
      where
        within : past_end table.ends x ≡ false → is_nan x ≡ false → outside es x ≡ false
        within h n = rw n (ap (λ (e : Ends). past_end e x) (sym t.ends) ∙ h)

        go : (b : Bool) → past_end table.ends x ≡ b → cond b 4096 (number_or (located_bin es x)) ≡ number_or (irregular_bin es x)
        go true e = ap number_or (past_none e)
        go false e = ap number_or (located_found es t.usable x f (within e))

    -- past an end, a zero, or tried
    sure_found : (inside : Bool) → sure_at es hints x (place_of inside table x) < 8192 → sure_at es hints x (place_of inside table x) ≡ number_or (irregular_bin es x)
    unfolding place_of hint_place
    sure_found inside = go (not inside && past_end table.ends x) (eq x (of_bits binary64 0)) refl refl
      where
        m : ℕ
        m = to_bits binary64 (add binary64 (mul binary64 x table.scale) table.offset)

        go : (o z : Bool) → (not inside && past_end table.ends x) ≡ o → eq x (of_bits binary64 0) ≡ z → sure_at es hints x (m % 4096 + (4096 * bit o + 8192 * bit z)) < 8192
            → sure_at es hints x (m % 4096 + (4096 * bit o + 8192 * bit z)) ≡ number_or (irregular_bin es x)
        go o true i k l =
            let n : eqb ((m % 4096 + (4096 * bit o + 8192)) / 4096) 1 ≡ false = ne_eqb ((m % 4096 + (4096 * bit o + 8192)) / 4096) 1 (λ w. omega (arith, w)) in
            absurd (omega (arith, l, unplaced (m % 4096 + (4096 * bit o + 8192)) (omega arith) ∙ ap (λ (b : Bool). cond b 4096 (2 ^ 64 - 1)) n))
        go false false i k l =
            let p : m % 4096 ≡ m % 4096 + (4096 * 0 + 8192 * 0) = omega arith in
            sym (ap (sure_at es hints x) p) ∙ tried (m % 4096) (no_zero k) (omega arith) (subst (λ (q : ℕ). sure_at es hints x q < 8192) (sym p) l)
        go true false i k l =
            let n : eqb ((m % 4096 + (4096 * 1 + 8192 * 0)) / 4096) 1 ≡ true = eq-eqb ((m % 4096 + (4096 * 1 + 8192 * 0)) / 4096) 1 (omega arith) in
            unplaced (m % 4096 + (4096 * 1 + 8192 * 0)) (omega arith) ∙ ap (λ (b : Bool). cond b 4096 (2 ^ 64 - 1)) n ∙ ap number_or (is_past_none inside i)

module _ (inside : Bool) (look : Lookup) (t : Tabled look.edges look.table.ends) where
  batch_number_law : (x : Float) → fits binary64 x ≡ true → batch_number inside look x ≡ number_in inside look.edges x
  unfolding settled_or built_bin es
  batch_number_law x f = go look.edges t
    where
      pick : (n : ℕ) (r m : ℕ) (b : Bool) → ltb n 8192 ≡ b → (n < 8192 → n ≡ m) → r ≡ m → cond b n r ≡ m
      pick n r m true e h k = h (ltb-true n 8192 e)
      pick n r m false e h k = k

      go : (d : BuiltEdges) → Tabled d look.table.ends
          → cond (ltb (sure_in inside d look.table look.hints.now x) 8192) (sure_in inside d look.table look.hints.now x) (settled inside d look.table.ends x) ≡ number_in inside d x
      go (Regular e) u = pick (sure_number inside e x) _ _ _ refl (sure_within inside e x) refl
      go (Irregular l) u = pick (sure_at l.now look.hints.now x (place_of inside look.table x)) _ _ _ refl (sure_found l look.hints.now look.table x u f inside) (settled_found l look.hints.now look.table x u f inside)

-- ---- a batch
-- one value by itself
pub number_by_law : (inside : Bool) (look : Lookup) (x : Float) → fits binary64 x ≡ true → number_by inside look x ≡ number_in inside look.edges x
number_by_law inside look x f = go look.edges refl
  where
    go : (d : BuiltEdges) → look.edges ≡ d → number_by_in inside d look x ≡ number_in inside d x
    go (Regular e) q = refl
    go (Irregular list) q =
        ap (λ (d : BuiltEdges). settled_or inside look x (sure_in inside d look.table look.hints.now x)) (sym q) ∙ batch_number_law inside look look.tabled x f
        ∙ ap (λ (d : BuiltEdges). number_in inside d x) q

pub numbers_map : (inside : Bool) (edges : BuiltEdges) (x : List Float) (found : List ℕ) → length found ≡ length x → numbers_of inside edges x found ≡ map (number_in inside edges) x
unfolding numbers_of
numbers_map inside edges x found h = rw (eq-eqb (length found) (length x) h)

-- first is what the first loop left
module _ (inside : Bool) (look : Lookup) (x : List Float) (found first : List ℕ) (h : length found ≡ length x) (f : (i : ℕ) → T (fits binary64 (at x i)))
    (s : first ≡ each (λ v n. sure inside look v) x found) where
  batch_map : (y : List Float) → ((i : ℕ) → T (fits binary64 (at y i))) → map (batch_number inside look) y ≡ map (number_in inside look.edges) y
  batch_map [] k = refl
  batch_map (v ∷ y) k = λ i. batch_number_law inside look look.tabled v (is_true (fits binary64 v) (k 0)) i ∷ batch_map y (λ j. k (suc j)) i

  found_map : map (batch_number inside look) x ≡ numbers_of inside look.edges x found
  found_map = batch_map x f ∙ sym (numbers_map inside look.edges x found h)

  pub found_settled : (l : List ℕ) → l ≡ each (settled_or inside look) x first → l ≡ numbers_of inside look.edges x found
  found_settled l p =
      let g = settled_or inside look in
      p ∙ ap (each g x) s ∙ each_after g (sure inside look) x found ∙ each_value (batch_number inside look) x found h ∙ found_map

  first_is : first ≡ map (sure inside look) x
  first_is = s ∙ each_value (sure inside look) x found h

  all_kept : (y : List Float) → ((i : ℕ) → i < length y → get_or (map (sure inside look) y) i 0 < 8192) → map (sure inside look) y ≡ map (batch_number inside look) y
  all_kept [] k = refl
  all_kept (v ∷ y) k = λ i. settled_kept inside look v (sure inside look v) (k 0 (omega arith)) i ∷ all_kept y (λ j l. k (suc j) (omega arith)) i

  -- nothing is marked
  pub found_sure : (m : ℕ) → AtMost m (length x) first → m < 8192 → first ≡ numbers_of inside look.edges x found
  found_sure m a k =
      first_is ∙ all_kept x (λ i w.
      let n : i < length first = omega (arith, w, ap length first_is, length-map x (sure inside look)) in
      subst (λ (y : List ℕ). get_or y i 0 < 8192) first_is (omega (arith, a i w n, k))) ∙ found_map

-- ---- which are their bins
-- what a lookup returns, of regular edges before an index past the bins is dropped
abbrev pub index_in : BuiltEdges → Float → Option ℕ
index_in (Regular e) x = built_find (Regular e) x
index_in (Irregular l) x = built_bin (Irregular l) x

pub index_number : (edges : BuiltEdges) (x : Float) → number_in false edges x ≡ number_or (index_in edges x)
unfolding number_for is_past definitions.regular_index
index_number (Regular e) x = go (lt x e.min || le e.max x)
  where
    go : (b : Bool) → cond b 4096 (as_usize (quotient e x)) ≡ number_or (cond b None (Some (as_usize (quotient e x))))
    go false = refl
    go true = refl
index_number (Irregular l) x = refl

pub index_bin : (edges : BuiltEdges) (x : Float) → below (built_bins edges) (index_in edges x) ≡ built_bin edges x
unfolding built_bin
index_bin (Regular e) x = refl
index_bin (Irregular l) x = below_again (length l.now - 1) (built_find (Irregular l) x)

-- of a value that is past no end
pub inside_bin : (edges : BuiltEdges) (ends : Ends) → Tabled edges ends → (x : Float) → past_end ends x ≡ false → below (built_bins edges) (Some (number_in true edges x)) ≡ built_bin edges x
unfolding number_for is_past definitions.regular_index built_bin
inside_bin (Regular e) ends t x a =
    let c : (lt x e.min || le e.max x) ≡ false = ap (λ (n : Ends). past_end n x) (sym t.ends) ∙ a in
    sym (rw c)
inside_bin (Irregular l) ends t x a = go (built_bin (Irregular l) x) refl
  where
    go : (o : Option ℕ) → built_bin (Irregular l) x ≡ o → below (length l.now - 1) (Some (number_or o)) ≡ o
    go None e = rw (le-ltb 4096 (length l.now - 1) (omega (arith, t.usable.few)))
    go (Some i) e = sym (ap (below (length l.now - 1)) e) ∙ below_again (length l.now - 1) (built_find (Irregular l) x) ∙ e

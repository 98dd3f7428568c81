-- A table of accepted edges finds the edges' own bins.
use mathlib.Core.Path.{◌≡◌, refl, sym, ap, subst, ◌∙◌}
use mathlib.Core.Logic.{⊎_elim}
use Rattle.std.specs.Prelude.{Option, None, Some}
use mathlib.Core.Bool.{Bool, true, false, cond, not, ◌&&◌, ◌||◌, true≢false}
use mathlib.Core.List.{List}
use Prim.Native.Nat.{ℕ, ◌+◌, ◌-◌, ◌<◌, ◌≤◌}
use native.Mathlib.Nat.{le_refl, le_of_lt, eq-or-lt_of_le}
use native.Mathlib.Omega.{arith}
use lib.Dec.{T, leb, ltb}
use lib.ListN.{length}
use lib.Ieee.{Float, binary64, lt, le, eq, is_nan, nan, inf, fin, fits}
use lib.Ieee.Scale.{finite}
use borrow.Author.Tests.{lt-ltb, le-leb, lt-leb, ltb-true, leb-true}
use Rattle.definitions.specs.Lists.{at}
use Rattle.definitions.specs.Floats.{not_after}
use Rattle.definitions.specs.Bins.{regular_index, irregular_index, last_edge, below}
use Rattle.floats.specs.Order.{order_key}
use Rattle.floats.proofs.Keys.{key_order, key_mono, key_equal, key_injective, sorted}
use Rattle.bins.proofs.Irregular.{halves_at, finite_at}
use Rattle.reducer.specs.declared.BinEdges.TheVariants.{Regular, Irregular}
use Rattle.reducer.specs.Readings.{BuiltEdges}
use Rattle.reducer.specs.Usable.{Searchable, Usable}
use Rattle.reducer.specs.Consume.{built_bin}
use Rattle.edge_table.specs.declared.Ends.{Ends}
use Rattle.edge_table.specs.declared.Table.{Table}
use Rattle.edge_table.specs.Table.{ends_of, past_end, table_of, enclosed, nonzero, shown, holds, step_up, near_hint, located, irregular_bin, located_bin, outside_of, edge_bin, ends_bin}
use Rattle.edge_table.specs.Tabled.{EndsOf, Tabled}
use Rattle.edge_table.proofs.Order.{le_not, lt_le, lt_self, lt_finite, eq_finite, le_lt}

pub and-true : (a b : Bool) → (a && b) ≡ true → (a ≡ true) × (b ≡ true)
and-true true true h = (refl, refl)
and-true true false h = absurd (true≢false (sym h))
and-true false b h = absurd (true≢false (sym h))

-- ---- a hint's bin that encloses the value: the value points to no bin beside it
pub near_enclosed : (list : List Float) (x : Float) (h : ℕ) → enclosed list x h ≡ true → h ≡ near_hint list x h
unfolding enclosed near_hint step_up
near_enclosed list x h e =
    let p = and-true (le (at list h) x) (lt x (at list (h + 1))) (and-true (ltb h (length list - 1)) _ e).1 in
    let z : h ≡ h + 0 = omega arith in rw (le_not (at list h) x p.0, lt_le x (at list (h + 1)) p.1) z

-- ---- a value past an end has no bin
past_regular : (a : Bool) (o : Option ℕ) → a ≡ true → None ≡ cond a None o
past_regular true o h = refl
past_regular false o h = absurd (true≢false (sym h))

past_irregular : (n a b : Bool) (o : Option ℕ) → (a || b) ≡ true → None ≡ cond (n || a || b) None o
past_irregular true a b o h = refl
past_irregular false a b o h = past_regular (a || b) o h

pub bin_past : (edges : BuiltEdges) (ends : Ends) (x : Float) → EndsOf edges ends → past_end ends x ≡ true → None ≡ built_bin edges x
unfolding built_bin regular_index irregular_index
bin_past edges ends x e h = go edges (ap (λ (n : Ends). past_end n x) (sym e) ∙ h)
  where
    go : (edges : BuiltEdges) → past_end (ends_of edges) x ≡ true → None ≡ built_bin edges x
    go (Regular e) h = ap (below e.n_bins) (past_regular (lt x e.min || le e.max x) _ h)
    go (Irregular list) h = ap (below (length list.now - 1)) (past_irregular (is_nan x) (lt x (at list.now 0)) (le (at list.now (length list.now - 1)) x) _ h)

-- ---- a bin whose keys enclose the value's is the value's
abbrev pub outside : List Float → Float → Bool
outside es x = is_nan x || lt x (at es 0) || le (at es (length es - 1)) x

module _ (es : List Float) (u : Searchable es) (x : Float) (f : fits binary64 x ≡ true) (g : ℕ) (within : g < length es - 1) (lower : order_key (at es g) ≤ order_key x) (upper : order_key x < order_key (at es (g + 1))) where
  below_all : (i : ℕ) → i < g + 1 → not_after (at es i) x ≡ true
  below_all i h =
      let s = sorted es u.held u.finite u.increasing i g (omega arith) (omega arith) in
      key_order (at es i) x (u.held i) (subst T (sym f) tt) ∙ le-leb (order_key (at es i)) (order_key x) (omega arith)

  above_all : (i : ℕ) → g + 1 ≤ i → i < length es → not_after (at es i) x ≡ false
  above_all i h m =
      let s = sorted es u.held u.finite u.increasing (g + 1) i h m in
      key_order (at es i) x (u.held i) (subst T (sym f) tt) ∙ lt-leb (order_key (at es i)) (order_key x) (omega arith)

  found_edge : Some g ≡ last_edge es x (length es)
  found_edge =
      let e : g ≡ g + 1 - 1 = omega arith in
      ap Some e ∙ halves_at es x (g + 1) (g + 1) (le_refl (g + 1)) (le_refl (g + 1)) (omega arith) above_all below_all (λ z. absurd (omega (arith, z)))

  keyed_bin : outside es x ≡ false → Some g ≡ irregular_bin es x
  unfolding irregular_index
  keyed_bin v = rw (v, ← found_edge, lt-ltb g (length es - 1) within)

-- a bin that was tested, or what follows
tested : (t : Bool) (g : ℕ) (o b : Option ℕ) → (t ≡ true → Some g ≡ b) → o ≡ b → cond t (Some g) o ≡ b
tested true g o b h e = h refl
tested false g o b h e = e

not_true : (a : Bool) → not a ≡ true → a ≡ false
not_true false h = refl
not_true true h = absurd (true≢false (sym h))

none_outside : (es : List Float) (x : Float) → outside es x ≡ true → None ≡ irregular_bin es x
unfolding irregular_index
none_outside es x v = rw v

-- ---- a bin whose edges show that it holds the value
finite_number : (x : Float) → T (finite x) → is_nan x ≡ false
unfolding is_nan
finite_number nan h = absurd h
finite_number (inf s) h = absurd h
finite_number (fin s m e) h = refl

key_less : (x y : Float) → T (fits binary64 x) → T (fits binary64 y) → T (finite x) → T (finite y) → lt x y ≡ true → order_key x < order_key y
key_less x y f g a b h =
    ⊎_elim (λ (e : order_key x ≡ order_key y). absurd (true≢false (sym h ∙ ap (lt x) (sym (key_injective x y f g e)) ∙ lt_self x))) (λ (l : order_key x < order_key y). l)
    (eq-or-lt_of_le (key_mono x y f g a b (subst T (sym h) tt)))

module _ (es : List Float) (u : Searchable es) (x : Float) (f : fits binary64 x ≡ true) where
  above_first : (g : ℕ) → g < length es - 1 → order_key (at es g) ≤ order_key x → T (finite x) → lt x (at es 0) ≡ false
  above_first g w l m = go (lt x (at es 0)) refl
    where
      go : (b : Bool) → lt x (at es 0) ≡ b → b ≡ false
      go false e = refl
      go true e =
          absurd
          (omega
          (arith, l, sorted es u.held u.finite u.increasing 0 g (omega arith) (omega arith), key_less x (at es 0) (subst T (sym f) tt) (u.held 0) m (finite_at es 0 u.finite (omega arith)) e))

  below_last : (g : ℕ) → g < length es - 1 → lt x (at es (g + 1)) ≡ true → T (finite x) → le (at es (length es - 1)) x ≡ false
  below_last g w l m = go (le (at es (length es - 1)) x) refl
    where
      go : (b : Bool) → le (at es (length es - 1)) x ≡ b → b ≡ false
      go false e = refl
      go true e =
          let n = length es - 1 in
          let p = finite_at es n u.finite (omega arith) in
          let q = finite_at es (g + 1) u.finite (omega arith) in
          absurd
          (omega
          (arith, sorted es u.held u.finite u.increasing (g + 1) n (omega arith) (omega arith), key_less (at es n) (at es (g + 1)) (u.held n) (u.held (g + 1)) p q (le_lt (at es n) x (at es (g + 1)) p m q e l)))

  -- what the test of the lower edge shows of a value that is no zero
  above_lower : (g : ℕ) → g < length es - 1 → nonzero x ≡ true → le (at es g) x ≡ true → lt x (at es (g + 1)) ≡ true → T (finite x) × (order_key (at es g) ≤ order_key x)
  unfolding le
  above_lower g w z c l = go (lt (at es g) x) refl c
    where
      a : T (finite (at es g))
      a = finite_at es g u.finite (omega arith)

      t : T (fits binary64 x)
      t = subst T (sym f) tt

      go : (b : Bool) → lt (at es g) x ≡ b → (b || eq (at es g) x) ≡ true → T (finite x) × (order_key (at es g) ≤ order_key x)
      go true e k =
          let m = lt_finite (at es g) x (at es (g + 1)) a (finite_at es (g + 1) u.finite (omega arith)) e l in
          (m, le_of_lt (key_less (at es g) x (u.held g) t a m e))
      go false e k =
          let m = eq_finite (at es g) x a k in
          (m, key_equal (at es g) x (u.held g) t a m k z)

  -- so it is inside the ends
  pub enclosed_bin : (g : ℕ) → nonzero x ≡ true → enclosed es x g ≡ true → Some g ≡ irregular_bin es x
  unfolding enclosed
  enclosed_bin g z c =
      let p = and-true (ltb g (length es - 1)) _ c in
      let q = and-true (le (at es g) x) (lt x (at es (g + 1))) p.1 in
      let w : g < length es - 1 = ltb-true _ _ p.0 in
      let b = finite_at es (g + 1) u.finite (omega arith) in
      let m = above_lower g w z q.0 q.1 in
      let o : outside es x ≡ false = rw (finite_number x m.0, above_first g w m.1 m.0, below_last g w q.1 m.0) in
      keyed_bin es u x f g w m.1 (key_less x (at es (g + 1)) (subst T (sym f) tt) (u.held (g + 1)) m.0 b q.1) o

  shown_bin : (g : ℕ) → shown es x g ≡ true → Some g ≡ irregular_bin es x
  unfolding shown
  shown_bin g c =
      let p = and-true (nonzero x) (enclosed es x g) c in
      enclosed_bin g p.0 p.1

-- ---- the search by quarters: a number is not outside the ends
module _ (es : List Float) (u : Searchable es) (x : Float) (f : fits binary64 x ≡ true) (inside : is_nan x ≡ false → outside es x ≡ false) where
  held_bin : (g : ℕ) → holds es x g ≡ true → Some g ≡ irregular_bin es x
  unfolding holds
  held_bin g c =
      let p = and-true (not (is_nan x) && ltb g (length es - 1) && leb (order_key (at es g)) (order_key x)) (ltb (order_key x) (order_key (at es (g + 1)))) c in
      let q = and-true (not (is_nan x) && ltb g (length es - 1)) (leb (order_key (at es g)) (order_key x)) p.0 in
      let r = and-true (not (is_nan x)) (ltb g (length es - 1)) q.0 in
      keyed_bin es u x f g (ltb-true _ _ r.1) (leb-true _ _ q.1) (ltb-true _ _ p.1) (inside (not_true (is_nan x) r.0))

  pub located_found : located_bin es x ≡ irregular_bin es x
  unfolding located_bin
  located_found = tested (shown es x (located es x)) (located es x) _ _ (shown_bin es u x f (located es x)) (tested (holds es x (located es x)) (located es x) _ _ (held_bin (located es x)) refl)

-- ---- a table's edges
within_ends : (es : List Float) (u : Searchable es) (x : Float) (f : fits binary64 x ≡ true) → edge_bin es (record { first = at es 0; last = at es (length es - 1) }) x ≡ irregular_bin es x
unfolding edge_bin outside_of
within_ends es u x f = go (outside es x) refl
  where
    go : (b : Bool) → outside es x ≡ b → cond b None (located_bin es x) ≡ irregular_bin es x
    go true v = none_outside es x v
    go false v = located_found es u x f (λ n. v)

ends_bin_law : (edges : BuiltEdges) (ends : Ends) (x : Float) → Tabled edges ends → fits binary64 x ≡ true → ends_bin edges ends x ≡ built_bin edges x
unfolding built_bin
ends_bin_law (Regular e) ends x t f = refl
ends_bin_law (Irregular list) ends x t f = ap (λ (e : Ends). edge_bin list.now e x) t.ends ∙ within_ends list.now t.usable x f

-- o is what `bin_of` returned
pub found_bin : (edges : BuiltEdges) (ends : Ends) (x : Float) (o : Option ℕ) → o ≡ ends_bin edges ends x → Tabled edges ends → fits binary64 x ≡ true → o ≡ built_bin edges x
found_bin edges ends x o e t f = e ∙ ends_bin_law edges ends x t f

-- ---- what the tables' makers leave
pub tabled_ends : (edges : BuiltEdges) (ends : Ends) → Usable edges → ends ≡ ends_of edges → Tabled edges ends
tabled_ends edges ends u e = record { usable = u; ends = e }

pub tabled : (edges : BuiltEdges) (table : Table) → Usable edges → table ≡ table_of edges → Tabled edges table.ends
tabled edges table u e = tabled_ends edges table.ends u (ap (λ (t : Table). t.ends) e ∙ go edges)
  where
    go : (edges : BuiltEdges) → (table_of edges).ends ≡ ends_of edges
    go (Regular e) = refl
    go (Irregular list) = refl

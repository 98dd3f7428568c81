-- Steps of the loops over irregular edges, and each outcome of their definitions.
use mathlib.Core.Path.{◌≡◌, refl, sym, ◌∙◌, ap, subst}
use Rattle.std.specs.Prelude.{Option, None, Some}
use mathlib.Core.Bool.{Bool, true, false, ◌||◌}
use mathlib.Core.List.{List, [], ◌∷◌}
use Prim.Native.Nat.{ℕ, zero, suc, ◌-◌, ◌<◌, ◌≤◌, zero-le}
use native.Mathlib.Omega.{arith}
use lib.Dec.{T, leb}
use lib.ListN.{length, get_or}
use native.Mathlib.Nat.{le_refl}
use Rattle.std.specs.Prelude.{SomeIff, slice_get}
use Rattle.std.specs.List.Sorted.{IsPartitionedBy, IsPartitionPoint}
use Rattle.std.proofs.lemmas.List.{get_or_default}
use lib.Ieee.{Float, nan, inf, fin, binary64, lt, le, eq, is_nan, fits}
use lib.Ieee.Scale.{finite}
use lib.Ieee.Fits.{and_l, and_r}
use borrow.Author.Tests.{le-leb, leb-true, leb-false}
use Rattle.definitions.specs.Lists.{at}
use Rattle.definitions.specs.Floats.{not_after}
use Rattle.definitions.specs.Bins.{last_edge}
use Rattle.definitions.specs.Rules.{all_finite, increasing}
use Rattle.floats.specs.Order.{order_key}
use Rattle.floats.proofs.Keys.{key_order, sorted}

-- ---- finite edges
pub finite_at : (es : List Float) (i : ℕ) → T (all_finite es) → i < length es → T (finite (at es i))
finite_at [] i a h = absurd (omega arith)
finite_at (x ∷ es) zero a h = and_l (finite x) (all_finite es) a
finite_at (x ∷ es) (suc i) a h = finite_at es i (and_r (finite x) (all_finite es) a) (omega arith)

-- ---- the end tests decide nothing where there is no edge
lt_nan : (x : Float) → lt x nan ≡ false
unfolding lt
lt_nan nan = refl
lt_nan (inf s) = refl
lt_nan (fin s m e) = refl

pub outside_empty : (es : List Float) (x : Float) → is_nan x ≡ false → slice_get es 0 ≡ None → false ≡ (is_nan x || lt x (at es 0) || le (at es (length es - 1)) x)
unfolding le lt eq
outside_empty [] x h z = rw (h, lt_nan x)
outside_empty (y ∷ es) x h z = cc

-- ---- edges by their keys
abbrev pub AtMost : List Float → Float → ℕ → Type 0
AtMost es x n = (i : ℕ) → i < n → not_after (at es i) x ≡ true

abbrev pub Above : List Float → Float → ℕ → Type 0
Above es x n = (i : ℕ) → n ≤ i → i < length es → not_after (at es i) x ≡ false

module _ (es : List Float) (x : Float) (f : fits binary64 x ≡ true) (g : (i : ℕ) → T (fits binary64 (at es i))) (key : ℕ) (p : key ≡ order_key x) where
  by_key : (j k : ℕ) → k ≡ order_key (at es j) → not_after (at es j) x ≡ leb k key
  by_key j k q = key_order (at es j) x (g j) (subst T (sym f) tt) ∙ rw (q, p)

  -- what the scan's closure answers of an edge y
  pub key_at : (j : ℕ) (y : Float) (b : Bool) → y ≡ at es j → b ≡ leb (order_key y) key → not_after (at es j) x ≡ b
  key_at j y b e q = by_key j (order_key y) (ap order_key e) ∙ sym q

  -- the search by halves: whether an edge's key is at most the value's
  abbrev pub not_above : Float → Bool
  not_above y = leb (order_key y) key

  pub parted : T (all_finite es) → T (increasing es) → IsPartitionedBy not_above es
  parted a b i j d h l t =
      let e : get_or es i d ≡ at es i = get_or_default es i d nan (omega arith) in
      let k : get_or es j d ≡ at es j = get_or_default es j d nan l in
      ap not_above e ∙ le-leb _ key (omega (arith, sorted es g a b i j h l, leb-true (order_key (at es j)) key (ap not_above (sym k) ∙ t)))

  pub split : (n : ℕ) → IsPartitionPoint (λ y. not_above y ≡ true) (λ y. not_above y ≡ false) es n → AtMost es x n × Above es x n
  split n s = ((λ i u. by_key i (order_key (at es i)) refl ∙ s.0 i nan zero-le u), (λ i u v. by_key i (order_key (at es i)) refl ∙ s.1 i nan u v))

-- edges after x at the end do not count
pub past : (es : List Float) (x : Float) (n p : ℕ) → p ≤ n → ((i : ℕ) → p ≤ i → i < n → not_after (at es i) x ≡ false) → last_edge es x n ≡ last_edge es x p
unfolding last_edge
past es x zero p h a =
    let e : zero ≡ p = omega arith in
    ap (last_edge es x) e
past es x (suc n) p h a = go (leb p n) (λ l. past es x n p l (λ i k m. a i k (omega arith))) refl
  where
    go : (b : Bool) → (p ≤ n → last_edge es x n ≡ last_edge es x p) → leb p n ≡ b → last_edge es x (suc n) ≡ last_edge es x p
    go true rest e =
        let l : p ≤ n = leb-true p n e in
        (rw (a n l (omega arith))) ∙ rest l
    go false rest e =
        let l : suc n ≡ p = omega (arith, leb-false p n e) in
        ap (last_edge es x) l

module _ (es : List Float) (x : Float) (lo hi : ℕ) (l : lo ≤ hi) (g : hi ≤ lo) (h : hi ≤ length es) (b : Above es x hi) where
  ends : last_edge es x (length es) ≡ last_edge es x lo
  ends = past es x (length es) lo (omega arith) (λ i k m. b i (omega arith) m)

  pub halves_none : lo ≡ 0 → None ≡ last_edge es x (length es)
  unfolding last_edge
  halves_none z = sym (ends ∙ ap (last_edge es x) z)

  pub halves_at : AtMost es x lo → (lo ≡ 0 → ⊥) → Some (lo - 1) ≡ last_edge es x (length es)
  unfolding last_edge
  halves_at a z =
      let e : lo ≡ suc (lo - 1) = omega arith in
      sym (ends ∙ ap (last_edge es x) e ∙ (rw (a (lo - 1) (omega arith))))

-- n edges are not after x, r is their last one's index
pub halves_done : (es : List Float) (x : Float) (n : ℕ) → n ≤ length es → AtMost es x n × Above es x n → (r : Option ℕ) → SomeIff r (1 ≤ n) (n - 1) → r ≡ last_edge es x (length es)
halves_done es x n h a None s = halves_none es x n n (le_refl n) (le_refl n) h a.1 (omega (arith, s))
halves_done es x n h a (Some i) s = ap Some s.1 ∙ halves_at es x n n (le_refl n) (le_refl n) h a.1 a.0 (λ z. absurd (omega (arith, s.0, z)))

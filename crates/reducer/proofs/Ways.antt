-- Each way through the code, and the definition that its answer meets.
use mathlib.Core.Path.{◌≡◌, refl, sym, ap, subst, ◌∙◌}
use Rattle.std.specs.Prelude.{Option, None, Some}
use Rattle.std.specs.Bool.{then_some}
use Rattle.std.proofs.lemmas.Option.{none-some, same_Some}
use mathlib.Core.Bool.{Bool, true, false, cond, ◌&&◌, true≢false}
use mathlib.Core.List.{List}
use Prim.Native.Nat.{ℕ, ◌*◌, ◌<◌, ◌≤◌}
use native.Mathlib.Nat.{mul_comm, mul-le-mul, mul-le-mul_right, add-mul, one-mul}
use native.Mathlib.Omega.{arith}
use lib.Dec.{leb, ltb}
use lib.ListN.{length}
use lib.Ieee.{Float, binary64, sub, mul}
use mir.Syntax.{w64}
use mir.Val.{Fits}
use borrow.Author.Tests.{lt-ltb, le-ltb, ltb-true, leb-true}
use Rattle.definitions.specs.Bins.{below}
use Rattle.definitions.specs.Run.{place}
use Rattle.definitions.specs.Reducer as definitions
use Rattle.definitions.specs.Reducer.{datum_of, component_sum}
use Rattle.laws.specs.Stores.{bump, add_mean, add_hist}
use Rattle.reducer.specs.declared.PairOperation.{PairOperation}
use Rattle.reducer.specs.declared.PairOperation.TheVariants.{ElementwiseMultiply, ElementwiseSub}
use Rattle.reducer.specs.declared.Reducer.TheVariants.{Comp0Mean, ComponentSumMean, ComponentSumHistogram}
use Rattle.reducer.specs.declared.Datum.{Datum}
use Rattle.reducer.specs.Readings.{BuiltEdges, BuiltReducer, op_of, reading_of}
use Rattle.reducer.specs.Consume.{built_bins, built_find, built_bin, reducer_size, has_room, add_in, value_bin, added_at, consumed_at, consumed}

-- ---- a mean's total and weight
pub both_bumped : (n s : ℕ) (v w : Float) (p q r : List Float) → q ≡ bump (place n 0 s) (mul binary64 v w) p → r ≡ bump (place n 1 s) w q → r ≡ add_mean n s v w p
both_bumped n s v w p q r e f = f ∙ ap (bump (place n 1 s) w) e

-- ---- a pair's datum
module _ (op : PairOperation) (a b : Datum) where
  abbrev by : (Float → Float → Float) → definitions.Datum
  by f = record { c0 = f a.c0 b.c0; c1 = f a.c1 b.c1; c2 = f a.c2 b.c2; weight = mul binary64 a.weight b.weight }

  pub datum_multiply : op ≡ ElementwiseMultiply → by (λ x y. mul binary64 y x) ≡ datum_of (op_of op) (reading_of a) (reading_of b)
  datum_multiply m = rw m

  pub datum_sub : op ≡ ElementwiseSub → by (λ x y. sub binary64 y x) ≡ datum_of (op_of op) (reading_of a) (reading_of b)
  datum_sub m = rw m

-- ---- built edges; r is what the lookup found
module _ (e : BuiltEdges) (x : Float) (r : Option ℕ) (q : r ≡ built_find e x) where
  found : (o : Option ℕ) → r ≡ o → built_bin e x ≡ below (built_bins e) o
  unfolding built_bin
  found o t = rw (← q, t)

  pub bin_none : (o : Option ℕ) → r ≡ None → o ≡ None → o ≡ built_bin e x
  bin_none o t h = h ∙ sym (found None t)

  pub bin_some : (i n : ℕ) (o : Option ℕ) → r ≡ Some i → n ≡ built_bins e → o ≡ then_some (ltb i n) i → o ≡ built_bin e x
  bin_some i n o t m h = h ∙ go (ltb i n) refl
    where
      go : (b : Bool) → ltb i n ≡ b → then_some b i ≡ built_bin e x
      go true b = sym (found (Some i) t ∙ (rw (← m, b)))
      go false b = sym (found (Some i) t ∙ (rw (← m, b)))

-- ---- room
pub product_fits : (n m : ℕ) → n ≤ 4096 → m ≤ 4096 → Fits w64 (n * m)
product_fits n m h k = record { fits = omega (arith, mul-le-mul h k) }

-- number e of state s stands in the pack
pub place_within : (e size s n len : ℕ) → e < size → s < n → n * size ≤ len → place n e s < len
place_within e size s n len h k l = omega (arith, mul-le-mul_right n h, add-mul e 1 n, one-mul n, mul_comm size n)

-- ---- a histogram's number
pub below_bins : (n : ℕ) (o : Option ℕ) (i : ℕ) → Some i ≡ below n o → i < n
below_bins n None i e = absurd (none-some i (sym e))
below_bins n (Some j) i e = go (ltb j n) refl e
  where
    go : (t : Bool) → ltb j n ≡ t → Some i ≡ cond t (Some j) None → i < n
    go true t k = subst (λ (a : ℕ). a < n) (sym (same_Some i j k)) (ltb-true j n t)
    go false t k = absurd (none-some i (sym k))

module _ (m : ℕ) (r : Option ℕ) (n s : ℕ) (w : Float) (p : List Float) where
  pub hist_kept : (i : ℕ) (q : List Float) → r ≡ Some i → i < m → q ≡ add_hist n s i w p → q ≡ add_in (below m r) n s w p
  hist_kept i q t l e = e ∙ (rw (t, lt-ltb i m l))

  pub hist_past : (i : ℕ) → r ≡ Some i → m ≤ i → p ≡ add_in (below m r) n s w p
  hist_past i t l = rw (t, le-ltb i m l)

  pub hist_none : r ≡ None → p ≡ add_in (below m r) n s w p
  hist_none t = rw t

-- ---- a datum
both : (a b : Bool) → (a && b) ≡ true → (a ≡ true) × (b ≡ true)
both true true h = (refl, refl)
both true false h = absurd (true≢false (sym h))
both false b h = absurd (true≢false (sym h))

-- what room means
module _ (n size s len : ℕ) (h : has_room n size s len ≡ true) where
  parts : ((leb n 4096 && leb size 4096 && ltb s n) ≡ true) × (leb (n * size) len ≡ true)
  unfolding has_room
  parts = both (leb n 4096 && leb size 4096 && ltb s n) (leb (n * size) len) h

  pub room_state : s < n
  room_state = ltb-true s n (both (leb n 4096 && leb size 4096) (ltb s n) parts.0).1

  room_pack : n * size ≤ len
  room_pack = leb-true (n * size) len parts.1

module _ (r : BuiltReducer) (b : Option ℕ) (n s : ℕ) (d : definitions.Datum) (p : List Float) (size : ℕ) (z : size ≡ reducer_size r) (o : Bool) (h : o ≡ has_room n size s (length p)) where
  pub consumed_none : o ≡ false → p ≡ consumed_at r b n s d p
  unfolding consumed_at
  consumed_none t = rw (← z, ← h, t)

  module _ (t : o ≡ true) where
    pub consumed_state : s < n
    consumed_state = room_state n size s (length p) (sym h ∙ t)

    pub within : n * size ≤ length p
    within = room_pack n size s (length p) (sym h ∙ t)

    two : (k : BuiltReducer) → r ≡ k → reducer_size k ≡ 2 → n * 2 ≤ length p
    two k e f = subst (λ (a : ℕ). n * a ≤ length p) (z ∙ ap reducer_size e ∙ f) within

    pub within_comp0 : r ≡ Comp0Mean → n * 2 ≤ length p
    within_comp0 e = two Comp0Mean e refl

    pub within_sum : r ≡ ComponentSumMean → n * 2 ≤ length p
    within_sum e = two ComponentSumMean e refl

    module _ (q : List Float) where
      by_reducer : (k : BuiltReducer) → r ≡ k → q ≡ added_at k b n s d p → q ≡ consumed_at r b n s d p
      unfolding consumed_at
      by_reducer k e f = f ∙ (rw (← z, ← h, t, e))

      pub consumed_comp0 : r ≡ Comp0Mean → q ≡ add_mean n s d.c0 d.weight p → q ≡ consumed_at r b n s d p
      consumed_comp0 e f = by_reducer Comp0Mean e f

      pub consumed_sum : (v : Float) → r ≡ ComponentSumMean → v ≡ component_sum d → q ≡ add_mean n s v d.weight p → q ≡ consumed_at r b n s d p
      consumed_sum v e c f = by_reducer ComponentSumMean e (f ∙ ap (λ (x : Float). add_mean n s x d.weight p) c)

      pub consumed_histogram : (k : BuiltEdges) → r ≡ ComponentSumHistogram k → q ≡ add_in (below size b) n s d.weight p → q ≡ consumed_at r b n s d p
      consumed_histogram k e f =
          by_reducer (ComponentSumHistogram k) e (f ∙ ap (λ (a : ℕ). add_in (below a b) n s d.weight p) (z ∙ ap reducer_size e))

-- ---- the value's bin
pub value_histogram : (r : BuiltReducer) (d : definitions.Datum) (k : BuiltEdges) (v : Float) (o : Option ℕ) → r ≡ ComponentSumHistogram k → v ≡ component_sum d → o ≡ built_bin k v → o ≡ value_bin r d
value_histogram r d k v o e c f = rw e (f ∙ ap (built_bin k) c)

pub consumed_found : (r : BuiltReducer) (n s : ℕ) (d : definitions.Datum) (p : List Float) → consumed r n s d p ≡ consumed_at r (value_bin r d) n s d p
unfolding consumed
consumed_found r n s d p = refl

-- b is the bin found, q what `consume_at` left
pub consumed_is : (r : BuiltReducer) (n s : ℕ) (d : definitions.Datum) (p q : List Float) (b : Option ℕ) → b ≡ value_bin r d → q ≡ consumed_at r b n s d p → q ≡ consumed r n s d p
unfolding consumed
consumed_is r n s d p q b e f = f ∙ ap (λ (o : Option ℕ). consumed_at r o n s d p) e

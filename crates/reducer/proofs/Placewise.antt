-- What is built of accepted edges finds the definitions' bins, and a datum consumed by a built reducer adds, at each place, what the definitions say.
use mathlib.Core.Path.{◌≡◌, refl, sym, ap, ◌∙◌}
use Rattle.std.specs.Prelude.{Option, None, Some}
use mathlib.Core.Bool.{Bool, true, false, cond}
use mathlib.Core.List.{List}
use Prim.Native.Nat.{ℕ, ◌*◌, ◌<◌, ◌≤◌}
use lib.Dec.{eqb, ltb}
use lib.ListN.{length, length-set}
use lib.Ieee.{Float}
use borrow.Author.Tests.{lt-ltb, le-leb}
use Rattle.definitions.specs.Lists.{at, add_opt}
use Rattle.definitions.specs.Bins as definitions
use Rattle.definitions.specs.Bins.{bins, find, bin_of, below}
use Rattle.definitions.specs.Reducer.{Datum, component_sum, kind_size, kept, in_bin, pair_term}
use Rattle.definitions.specs.Run.{state_at, number_at}
use Rattle.laws.proofs.Places.{mean_at, hist_at}
use Rattle.reducer.specs.declared.BinEdges.TheVariants.{Regular, Irregular}
use Rattle.reducer.specs.declared.Reducer.TheVariants.{Comp0Mean, ComponentSumMean, ComponentSumHistogram}
use Rattle.reducer.specs.Readings.{Edges, BuiltEdges, Kind, BuiltReducer, edges_of, kind_of}
use Rattle.reducer.specs.Consume.{made_edges, made, built_bins, built_find, built_bin, reducer_size, has_room, add_in, value_bin, added_at, consumed_at, consumed}
use Rattle.reducer.proofs.Ways.{below_bins, room_state}

-- a bin is among the bins
pub bin_bounded : (e : definitions.Edges) (x : Float) (b : ℕ) → bin_of e x ≡ Some b → b < bins e
unfolding definitions.bin_of
bin_bounded e x b h = below_bins (bins e) (find e x) b (sym h)

-- room where the numbers say so
pub room : (n size s len : ℕ) → n ≤ 4096 → size ≤ 4096 → s < n → n * size ≤ len → has_room n size s len ≡ true
unfolding has_room
room n size s len a b c d = rw (le-leb n 4096 a, le-leb size 4096 b, lt-ltb s n c, le-leb (n * size) len d)

pub below_again : (n : ℕ) (o : Option ℕ) → below n (below n o) ≡ below n o
below_again n None = refl
below_again n (Some i) = go (ltb i n) refl
  where
    go : (t : Bool) → ltb i n ≡ t → below n (cond t (Some i) None) ≡ cond t (Some i) None
    go true e = rw e
    go false e = refl

-- a bin found is one of the bins
pub kept_bin : (e : BuiltEdges) (x : Float) → below (built_bins e) (built_bin e x) ≡ built_bin e x
unfolding built_bin
kept_bin e x = below_again (built_bins e) (built_find e x)

pub made_bins : (e : Edges) → built_bins (made_edges e) ≡ bins (edges_of e)
unfolding definitions.bins
made_bins (Regular e) = refl
made_bins (Irregular list) = refl

pub made_bin : (e : Edges) (x : Float) → built_bin (made_edges e) x ≡ bin_of (edges_of e) x
unfolding built_bin definitions.bin_of definitions.bins definitions.find
made_bin (Regular e) x = refl
made_bin (Irregular list) x = refl

pub made_size : (k : Kind) → reducer_size (made k) ≡ kind_size (kind_of k)
made_size Comp0Mean = refl
made_size ComponentSumMean = refl
made_size (ComponentSumHistogram e) = made_bins e

module _ (n s : ℕ) (d : Datum) (pack : List Float) where
  in_length : (o : Option ℕ) (w : Float) → length (add_in o n s w pack) ≡ length pack
  in_length None w = refl
  in_length (Some b) w = simp length-set

  added_length : (r : BuiltReducer) (o : Option ℕ) → length (added_at r o n s d pack) ≡ length pack
  added_length Comp0Mean o = simp length-set
  added_length ComponentSumMean o = simp length-set
  added_length (ComponentSumHistogram e) o = in_length (below (built_bins e) o) d.weight

  pub consumed_length : (r : BuiltReducer) → length (consumed r n s d pack) ≡ length pack
  unfolding consumed consumed_at
  consumed_length r = go (has_room n (reducer_size r) s (length pack))
    where
      go : (t : Bool) → length (cond t (added_at r (value_bin r d) n s d pack) pack) ≡ length pack
      go true = added_length r (value_bin r d)
      go false = refl

  module _ (p : ℕ) (h : p < length pack) (l : s < n) where
    -- nothing to no bin
    nowhere : (t : Bool) → at pack p ≡ add_opt (cond t None None) (at pack p)
    nowhere true = refl
    nowhere false = refl

    in_at : (o : Option ℕ) (w : Float) → at (add_in o n s w pack) p ≡ add_opt (in_bin (Some s) (state_at n p) (in_bin o (number_at n p) (Some w))) (at pack p)
    in_at None w = nowhere (eqb s (state_at n p))
    in_at (Some b) w = hist_at n s b p w pack l h

    added_at_law : (k : Kind) → at (added_at (made k) (value_bin (made k) d) n s d pack) p ≡ add_opt (pair_term (kind_of k) (state_at n p) (number_at n p) (kept s d)) (at pack p)
    added_at_law Comp0Mean = mean_at n s p d.c0 d.weight pack l h
    added_at_law ComponentSumMean = mean_at n s p (component_sum d) d.weight pack l h
    added_at_law (ComponentSumHistogram e) =
        let b = built_bin (made_edges e) (component_sum d) in
        in_at (below (built_bins (made_edges e)) b) d.weight
        ∙ ap (λ (o : Option ℕ). add_opt (in_bin (Some s) (state_at n p) (in_bin o (number_at n p) (Some d.weight))) (at pack p)) (kept_bin (made_edges e) (component_sum d) ∙ made_bin e (component_sum d))

  -- with room, at each place of the slice
  pub consumed_at_law : (k : Kind) → has_room n (kind_size (kind_of k)) s (length pack) ≡ true → (p : ℕ) → p < length pack
      → at (consumed (made k) n s d pack) p ≡ add_opt (pair_term (kind_of k) (state_at n p) (number_at n p) (kept s d)) (at pack p)
  unfolding consumed consumed_at
  consumed_at_law k r p h = rw (made_size k, r) (added_at_law p h (room_state n (kind_size (kind_of k)) s (length pack) r) k)

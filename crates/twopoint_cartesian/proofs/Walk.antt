-- The walk over the offsets, turn by turn. Assumes nothing.
use mathlib.Core.Path.{◌≡◌, refl, sym, ap, ◌∙◌}
use Rattle.std.specs.Prelude.{Option, None, Some, slice_get}
use Rattle.std.specs.Iterator.{YieldsFirstBy}
use Rattle.std.proofs.lemmas.Option.{none-some}
use mathlib.Core.List.{List, [], ◌∷◌, map}
use Prim.Native.Nat.{ℕ, zero, suc, ◌*◌, ◌<◌, ◌≤◌}
use native.Mathlib.Omega.{arith}
use lib.ListN.{length}
use lib.Ieee.{Float}
use Rattle.definitions.specs.Blocks as blocks
use Rattle.definitions.specs.Blocks.{CartesianBlock, distance_squared}
use Rattle.laws.specs.Loops.{fold_pack}
use Rattle.reducer.specs.Consume.{built_bin}
use Rattle.idx_3d_offset.specs.declared.Idx3DOffset.{Idx3DOffset}
use Rattle.idx_3d_offset.specs.declared.Offsets.{Offsets}
use Rattle.idx_3d_offset.specs.Offsets.{idx_of, cross_seq, auto_seq}
use Rattle.idx_3d_offset.specs.Walk.{offsets_left}
use Rattle.idx_3d_offset.proofs.Sequence.{cross_reach, auto_reach}
use Rattle.parallel_serial.specs.declared.Setup.{Setup}
use Rattle.parallel_serial.specs.declared.Sets.{Sets}
use Rattle.parallel_serial.specs.declared.Sets.TheVariants.{Auto, Cross}
use Rattle.spatial.specs.declared.Block.{Block}
use Rattle.twopoint_cartesian.specs.Held.{axes_of, Reached, AllReached, AllReady}
use Rattle.twopoint_cartesian.specs.Cells.{fresh, offset_cells, merged_in, StateFits, Displaced, displaced, offset_added, offsets_added, overlap_added, overlaps_added}
use Rattle.twopoint_cartesian.proofs.Merge.{bin_fits}

-- ---- the offsets are within reach
within : {A : Type 0} (l : List A) (i : ℕ) (d : A) → slice_get l i ≡ Some d → i < length l
within [] i d e = absurd (none-some d e)
within (x ∷ l) zero d e = omega arith
within (x ∷ l) (suc i) d e = omega (arith, within l i d e)

module _ (s : Sets Block) (h : AllReady s) (l : List blocks.Idx3DOffset) where
  pub auto_reached : (a : Block) → s ≡ Auto a → l ≡ auto_seq (axes_of a) → AllReached a a l
  auto_reached a t e =
      let k = rw t at h in
      rw e (record { first = k.first; second = k.second; reach = λ i d p. auto_reach (axes_of a) i (length (auto_seq (axes_of a))) refl (within (auto_seq (axes_of a)) i d p) d (sym p) })

  pub cross_reached : (a b : Block) → s ≡ Cross a b → l ≡ cross_seq (axes_of a) (axes_of b) → AllReached a b l
  cross_reached a b t e =
      let k = rw t at h in
      rw e
      (record { first = k.first; second = k.second; reach = λ i d p. cross_reach (axes_of a) (axes_of b) i (length (cross_seq (axes_of a) (axes_of b))) refl (within (cross_seq (axes_of a) (axes_of b)) i d p) d (sym p) })

-- l is what there was left, r what is left after a step
module _ (a b : Block) (l r : List blocks.Idx3DOffset) (h : AllReached a b l) where
  pub none_reached : r ≡ [] → AllReached a b r
  none_reached e = rw e (record { first = h.first; second = h.second; reach = λ i d p. absurd (none-some d p) })

  module _ (o : Idx3DOffset) (e : l ≡ idx_of o ∷ r) where
    pub head_reached : Reached a b o
    head_reached = record { first = h.first; second = h.second; reach = h.reach 0 (idx_of o) (ap (λ (k : List blocks.Idx3DOffset). slice_get k 0) e) }

    pub tail_reached : AllReached a b r
    tail_reached = record { first = h.first; second = h.second; reach = λ i d p. h.reach (suc i) d (ap (λ (k : List blocks.Idx3DOffset). slice_get k (suc i)) e ∙ p) }

-- o is what a step answered
pub step_reached : (a b : Block) (s t : Offsets) (o : Option Idx3DOffset) → YieldsFirstBy idx_of offsets_left s o t → AllReached a b (offsets_left s) → AllReached a b (offsets_left t)
step_reached a b s t None e h = none_reached a b (offsets_left s) (offsets_left t) h e.1
step_reached a b s t (Some o) e h = tail_reached a b (offsets_left s) (offsets_left t) h o e

-- ---- an overlap's cells, by the bin k of its squared distance x, which a call answered
module _ (setup : Setup) (x : Float) (k : Option ℕ) (e : k ≡ built_bin setup.edges x) where
  module _ (bin : ℕ) (t : k ≡ Some bin) where
    found : built_bin setup.edges x ≡ Some bin
    found = sym e ∙ t

    pub found_fits : (size len : ℕ) → size ≤ 256 → setup.n_states * size ≤ len → StateFits setup.n_states bin size len
    found_fits size len k l = bin_fits setup size x bin len found k l

    pub found_added : (width : blocks.CellWidth) (a b : CartesianBlock) (size : ℕ) (d : blocks.Idx3DOffset) (s q : List Float) → x ≡ distance_squared width a b d
        → q ≡ merged_in (Some bin) setup.n_states (offset_cells setup a b d (fresh size)) s → q ≡ overlap_added setup width size (displaced a b d) s
    unfolding overlap_added offset_added
    found_added width a b size d s q p g = g ∙ ap (λ (o : Option ℕ). merged_in o setup.n_states (offset_cells setup a b d (fresh size)) s) (sym found ∙ ap (built_bin setup.edges) p)

  pub none_added : k ≡ None → (width : blocks.CellWidth) (a b : CartesianBlock) (size : ℕ) (d : blocks.Idx3DOffset) (s : List Float) → x ≡ distance_squared width a b d → s ≡ overlap_added setup width size (displaced a b d) s
  unfolding overlap_added offset_added
  none_added t width a b size d s p = ap (λ (o : Option ℕ). merged_in o setup.n_states (offset_cells setup a b d (fresh size)) s) (sym t ∙ e ∙ ap (built_bin setup.edges) p)

module _ (setup : Setup) (width : blocks.CellWidth) (size : ℕ) where
  module _ (z : List Float) where
    -- l is what the walk had left, r what it has left after p
    pub walk_turn : (l r : List Displaced) (p : Displaced) (s q : List Float) → l ≡ p ∷ r → q ≡ overlap_added setup width size p s → overlaps_added setup width size l s ≡ z → overlaps_added setup width size r q ≡ z
    unfolding overlaps_added
    walk_turn l r p s q e f inv = ap (fold_pack (overlap_added setup width size) r) f ∙ sym (ap (λ (k : List Displaced). fold_pack (overlap_added setup width size) k s) e) ∙ inv

    pub walk_done : (l : List Displaced) (s : List Float) → l ≡ [] → overlaps_added setup width size l s ≡ z → s ≡ z
    unfolding overlaps_added
    walk_done l s e inv = ap (λ (k : List Displaced). fold_pack (overlap_added setup width size) k s) (sym e) ∙ inv

  -- the overlaps of two blocks, by their offsets
  pub overlaps_are : (a b : CartesianBlock) (l : List blocks.Idx3DOffset) (s : List Float) → overlaps_added setup width size (map (displaced a b) l) s ≡ offsets_added setup width a b size l s
  unfolding overlaps_added offsets_added overlap_added
  overlaps_are a b [] s = refl
  overlaps_are a b (d ∷ l) s = overlaps_are a b l (offset_added setup width a b size d s)

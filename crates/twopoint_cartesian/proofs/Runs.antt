-- A run: what follows of the number that it answers, and that the pack of an accepted one is merged. Assumes nothing.
use mathlib.Core.Path.{◌≡◌, refl, sym, ap, ◌∙◌}
use mathlib.Core.Bool.{false}
use mathlib.Core.List.{List, map}
use Prim.Native.Nat.{ℕ, ◌*◌, ◌≤◌}
use native.Mathlib.Omega.{arith}
use lib.ListN.{length, take, length-replicate}
use lib.Seq.{length-take-le}
use lib.Ieee.{Float}
use Rattle.std.specs.declared.result.Result.{Result}
use Rattle.std.specs.declared.result.Result.TheVariants.{Ok}
use Rattle.definitions.specs.Lists.{fold_at}
use Rattle.definitions.specs.Floats.{zero_f}
use Rattle.definitions.specs.Bins.{bins}
use Rattle.definitions.specs.Blocks as blocks
use Rattle.definitions.specs.Blocks.{CartesianBlock}
use Rattle.definitions.specs.Reducer.{kind_size}
use Rattle.definitions.specs.Run as run
use Rattle.definitions.specs.Run.{Run, offset_at, scratch, merged}
use Rattle.definitions.specs.Rules.{refusal, run_rules}
use Rattle.refusals.specs.declared.Refusal.{Refusal}
use Rattle.refusals.specs.Numbers.{number_of}
use Rattle.reducer.specs.Readings.{edges_of, kind_of}
use Rattle.reducer.specs.Consume.{reducer_size}
use Rattle.reducer.proofs.Placewise.{made_size}
use Rattle.parallel_serial.specs.Drive as drive
use Rattle.parallel_serial.specs.Drive.{zero_pack, added_scratch, run_of}
use Rattle.parallel_serial.specs.declared.RunSpec.{RunSpec}
use Rattle.parallel_serial.specs.declared.Setup.{Setup}
use Rattle.parallel_serial.specs.declared.Sets.{Sets}
use Rattle.parallel_serial.specs.declared.Sets.TheVariants.{Auto, Cross}
use Rattle.parallel_serial.specs.Setups.{SetupOf}
use Rattle.parallel_serial.proofs.Refusals.{Accepted, accepted}
use Rattle.parallel_serial.proofs.Scratch.{lent_length, lent_zeros, added_merged}
use Rattle.idx_3d_offset.specs.Offsets.{auto_seq, cross_seq}
use Rattle.idx_3d_offset.proofs.Sequence.{cross_all, auto_fold}
use Rattle.spatial.specs.declared.Block.{Block}
use Rattle.spatial.specs.declared.CellWidth.{CellWidth}
use Rattle.spatial.specs.Readings.{block_of, width_of, sets_of}
use Rattle.twopoint_cartesian.specs.Held.{axes_of, AllReady}
use Rattle.twopoint_cartesian.specs.Cells.{Displaced, displaced, seq_of, offsets_added, overlaps_added}
use Rattle.twopoint_cartesian.proofs.Ready.{ready_sets}
use Rattle.twopoint_cartesian.proofs.Walk.{overlaps_are}
use Rattle.twopoint_cartesian.proofs.Placewise.{filled_length, filled_at}

-- ---- the parts that are lent

module _ (n : ℕ) (z : List Float) (h : n ≤ 4096) (e : z ≡ zero_pack) where
  pub used_lent : n ≡ length (take n z)
  used_lent = lent_length z n h e

-- of a scratch of m
module _ (n m : ℕ) (z : List Float) (h : n ≤ m) (k : m ≤ 4096) (e : z ≡ take m zero_pack) where
  pub small_part : n ≤ length z
  unfolding drive.zero_pack
  small_part = omega (arith, ap length e, length-take-le m zero_pack (omega (arith, length-replicate 4096 (zero_f false))))

  pub small_lent : n ≡ length (take n z)
  small_lent = sym (length-take-le n z small_part)

-- ---- scratch, by the overlaps of the run
-- a pack to which the scratch of two blocks is added is merged
module _ (spec : RunSpec) (setup : Setup) (o : SetupOf spec setup) (sets : run.Sets) (s : List Float) (k : Accepted sets spec (length s)) where
  abbrev n : ℕ
  n = bins (edges_of spec.edges)

  abbrev size : ℕ
  size = kind_size (kind_of spec.kind)

  added_law : (width : blocks.CellWidth) (a b : CartesianBlock) (l : List blocks.Idx3DOffset) → ((p : ℕ) → fold_at (offset_at (run_of sets spec) p width a b) (zero_f false) l ≡ scratch (run_of sets spec) p)
      → (q : List Float) → q ≡ added_scratch s (offsets_added setup width a b size l (take (n * size) zero_pack)) → q ≡ merged (run_of sets spec) s
  unfolding run_of
  added_law width a b l f q h =
      let d = k.drivable in
      h
      ∙ ap (λ (z : List Float). added_scratch s (offsets_added setup width a b size l z)) (lent_zeros zero_pack (n * size) d.limit refl)
      ∙ added_merged (run_of sets spec) s _ (filled_length spec setup o d.few d.small sets width a b l _ ∙ length-replicate (n * size) (zero_f false)) d.within (λ p h. filled_at spec setup o d.few d.small sets width a b l p h ∙ f p)

-- ---- what follows where a run has no refusal; x is what a call answered
module _ (sets : Sets Block) (width : CellWidth) (spec : RunSpec) (s : List Float) (x : Result Setup Refusal) (h : number_of x ≡ refusal (run_rules (run_of (sets_of sets (width_of width)) spec) (length s))) (v : Setup) (z : x ≡ Ok v) where
  all : Accepted (sets_of sets (width_of width)) spec (length s)
  all = accepted (sets_of sets (width_of width)) spec (length s) (sym h ∙ ap number_of z)

  pub all_ready : AllReady sets
  all_ready = ready_sets sets (width_of width) all.limits all.own

-- q is what the pack holds after the walk from zeros
pub driven : (sets : Sets Block) (width : CellWidth) (spec : RunSpec) (s : List Float) (x : Result Setup Refusal) → number_of x ≡ refusal (run_rules (run_of (sets_of sets (width_of width)) spec) (length s)) → (v : Setup) → x ≡ Ok v → SetupOf spec v
    → (l : List Displaced) → l ≡ seq_of sets → (q : List Float) → q ≡ added_scratch s (overlaps_added v (width_of width) (reducer_size v.reducer) l (take (v.n_states * reducer_size v.reducer) zero_pack)) → q ≡ merged (run_of (sets_of sets (width_of width)) spec) s
unfolding run.scratch run.scratch_of run_of
driven sets width spec s x h v z o l el q e = go sets el (accepted (sets_of sets (width_of width)) spec (length s) (sym h ∙ ap number_of z)) (all_ready sets width spec s x h v z)
  where
    w : blocks.CellWidth
    w = width_of width

    sized : reducer_size v.reducer ≡ kind_size (kind_of spec.kind)
    sized = ap reducer_size o.reducer ∙ made_size spec.kind

    of_offsets : (a b : CartesianBlock) (m : List blocks.Idx3DOffset) → l ≡ map (displaced a b) m → q ≡ added_scratch s (offsets_added v w a b (kind_size (kind_of spec.kind)) m (take (bins (edges_of spec.edges) * kind_size (kind_of spec.kind)) zero_pack))
    of_offsets a b m em =
        e
        ∙ (λ t. added_scratch s (overlaps_added v w (sized t) (em t) (take (o.states t * sized t) zero_pack)))
        ∙ ap (added_scratch s) (overlaps_are v w (kind_size (kind_of spec.kind)) a b m _)

    go : (t : Sets Block) → l ≡ seq_of t → Accepted (sets_of t w) spec (length s) → AllReady t → q ≡ merged (run_of (sets_of t w) spec) s
    go (Auto a) et k u =
        let c = block_of a in
        added_law spec v o (sets_of (Auto a) w) s k w c c (auto_seq (axes_of a)) (λ p. sym (auto_fold (axes_of a) u.first.axes (offset_at (run_of (sets_of (Auto a) w) spec) p w c c) (zero_f false))) q (of_offsets c c (auto_seq (axes_of a)) et)
    go (Cross a b) et k u =
        let c = block_of a in
        let d = block_of b in
        added_law spec v o (sets_of (Cross a b) w) s k w c d (cross_seq (axes_of a) (axes_of b))
        (λ p. ap (fold_at (offset_at (run_of (sets_of (Cross a b) w) spec) p w c d) (zero_f false)) (cross_all (axes_of a) (axes_of b) u.first.axes u.second.axes)) q (of_offsets c d (cross_seq (axes_of a) (axes_of b)) et)

-- A run's loops leave in scratch, place by place, what the definitions say; so the caller's pack is merged.
use mathlib.Core.Path.{◌≡◌, refl, sym, ap, ◌∙◌}
use Rattle.std.specs.Prelude.{Option, None, Some}
use mathlib.Core.Bool.{false}
use mathlib.Core.List.{List, [], ◌∷◌, map}
use Prim.Native.Nat.{ℕ, ◌*◌, ◌<◌, ◌≤◌}
use native.Mathlib.Omega.{arith}
use lib.ListN.{length, take, replicate, length-replicate}
use lib.Ieee.{Float}
use Rattle.definitions.specs.Lists.{at, upto, add_opt, fold_at}
use Rattle.definitions.specs.Floats.{zero_f}
use Rattle.definitions.specs.Bins.{bins, bin_of}
use Rattle.definitions.specs.Points as points
use Rattle.definitions.specs.Points.{stride_or, squared_diff_norm}
use Rattle.definitions.specs.Reducer.{Datum, Pair, kept, dropped, datum_of, kind_size, pair_in, pair_term}
use Rattle.definitions.specs.Run as run
use Rattle.definitions.specs.Run.{Run, used, state_at, number_at, pair_at, scratch, merged}
use Rattle.laws.proofs.Places.{placewise}
use Rattle.reducer.specs.Readings.{BuiltEdges, op_of, edges_of, kind_of}
use Rattle.reducer.specs.Consume.{built_bins, built_bin, reducer_size, consumed}
use Rattle.reducer.proofs.Placewise.{bin_bounded, room, made_bin, made_bins, made_size, consumed_length, consumed_at_law}
use Rattle.parallel_serial.specs.declared.RunSpec.{RunSpec}
use Rattle.parallel_serial.specs.declared.Setup.{Setup}
use Rattle.parallel_serial.specs.declared.Sets.{Sets}
use Rattle.parallel_serial.specs.declared.Sets.TheVariants.{Auto, Cross}
use Rattle.parallel_serial.specs.Drive.{zero_pack, added_scratch, run_of}
use Rattle.parallel_serial.specs.Setups.{SetupOf}
use Rattle.parallel_serial.proofs.Refusals.{Drivable}
use Rattle.parallel_serial.proofs.Scratch.{lent_zeros, zero_at, added_merged}
use Rattle.unstructured_points.specs.declared.PointSet.{PointSet}
use Rattle.unstructured_points.specs.Readings.{points_of}
use Rattle.unstructured_points.specs.Sets.{sets_of}
use Rattle.unstructured.specs.declared.held.Points.{Points}
use Rattle.unstructured.specs.Pairs.{sets_pairs, pairs_in, built_pair, pair_consumed, pair_step, filled, run_filled}

-- ---- a run by what is built of its statement
module _ (setup : Setup) (spec : RunSpec) (o : SetupOf spec setup) (sets : run.Sets) where
  abbrev the_run : Run
  the_run = run_of sets spec

  abbrev n : ℕ
  n = bins (edges_of spec.edges)

  states : setup.n_states ≡ n
  states = setup.usable.states ∙ ap built_bins o.edges ∙ made_bins spec.edges

  size : reducer_size setup.reducer ≡ kind_size (kind_of spec.kind)
  size = ap reducer_size o.reducer ∙ made_size spec.kind

  few : n ≤ 256
  few = omega (arith, states, setup.usable.few)

  small : kind_size (kind_of spec.kind) ≤ 256
  small = omega (arith, size, setup.usable.small)

  used_is : used the_run ≡ setup.n_states * reducer_size setup.reducer
  unfolding run_of
  used_is = λ i. sym states i * sym size i

  -- ---- one pair at one place
  pair_length : (p : Pair) (s : List Float) → length (pair_consumed setup p s) ≡ length s
  pair_length dropped s = refl
  pair_length (kept b d) s = consumed_length setup.n_states b d s setup.reducer

  step_length : (q : points.Point × points.Point) (s : List Float) → length (pair_step setup q s) ≡ length s
  unfolding pair_step
  step_length q s = pair_length (built_pair setup q.0 q.1) s

  -- the definitions' pair
  abbrev stated_pair : points.Point × points.Point → Pair
  stated_pair q = pair_in (bin_of (edges_of spec.edges) (squared_diff_norm q.0 q.1)) (datum_of (op_of spec.op) q.0.rd q.1.rd)

  pair_is : (q : points.Point × points.Point) → built_pair setup q.0 q.1 ≡ stated_pair q
  unfolding built_pair
  pair_is q = λ i. pair_in ((ap (λ (e : BuiltEdges). built_bin e (squared_diff_norm q.0 q.1)) o.edges ∙ made_bin spec.edges (squared_diff_norm q.0 q.1)) i) (datum_of (op_of (o.op i)) q.0.rd q.1.rd)

  step_at : (q : points.Point × points.Point) (s : List Float) (p : ℕ) → length s ≡ used the_run → p < used the_run → at (pair_step setup q s) p ≡ add_opt (pair_at the_run p q) (at s p)
  unfolding pair_step run_of
  step_at q s p e h = ap (λ (x : Pair). at (pair_consumed setup x s) p) (pair_is q) ∙ go (bin_of (edges_of spec.edges) (squared_diff_norm q.0 q.1)) refl
    where
      d : Datum
      d = datum_of (op_of spec.op) q.0.rd q.1.rd

      go : (b : Option ℕ) → bin_of (edges_of spec.edges) (squared_diff_norm q.0 q.1) ≡ b
          → at (pair_consumed setup (pair_in b d) s) p ≡ add_opt (pair_term (kind_of spec.kind) (state_at n p) (number_at n p) (pair_in b d)) (at s p)
      go None i = refl
      go (Some b) i =
          (λ j. at (consumed (o.reducer j) (states j) b d s) p)
          ∙ consumed_at_law n b d s spec.kind
          (room n (kind_size (kind_of spec.kind)) b (length s) (omega (arith, few)) (omega (arith, small)) (bin_bounded (edges_of spec.edges) (squared_diff_norm q.0 q.1) b i) (omega arith)) p (omega arith)

  -- ---- the whole of scratch, from zeros
  filled_length : (l : List (points.Point × points.Point)) (s : List Float) → length (filled setup l s) ≡ length s
  unfolding filled
  filled_length [] s = refl
  filled_length (a ∷ l) s = filled_length l (pair_step setup a s) ∙ step_length a s

  filled_at : (l : List (points.Point × points.Point)) (p : ℕ) → p < used the_run
      → at (filled setup l (replicate (used the_run) (zero_f false))) p ≡ fold_at (pair_at the_run p) (zero_f false) l
  unfolding filled
  filled_at l p h =
      placewise (pair_step setup) (used the_run) (λ p q. pair_at the_run p q) step_length step_at l (replicate (used the_run) (zero_f false)) p
      (length-replicate (used the_run) (zero_f false)) h
      ∙ ap (λ (x : Float). fold_at (pair_at the_run p) x l) (zero_at (used the_run) p h)

pub scratch_is : (r : Run) (sets : Sets PointSet) (p : ℕ) → r.sets ≡ sets_of sets → scratch r p ≡ fold_at (pair_at r p) (zero_f false) (sets_pairs sets)
unfolding run.scratch run.scratch_of
scratch_is r (Auto a) p e = rw e
scratch_is r (Cross a b) p e = rw e

-- ---- an accepted run; its points are what the sets hold, in order
pub driven : (setup : Setup) (spec : RunSpec) (sets : Sets PointSet) (held : Sets Points) (s q : List Float) → SetupOf spec setup → Drivable spec (length s) → pairs_in held ≡ sets_pairs sets
    → q ≡ added_scratch s (run_filled setup held (take (setup.n_states * reducer_size setup.reducer) zero_pack)) → q ≡ merged (run_of (sets_of sets) spec) s
unfolding run_of
driven setup spec sets held s q o d same h =
    let r = run_of (sets_of sets) spec in
    let m = used r in
    let e = used_is setup spec o (sets_of sets) in
    let u : take (setup.n_states * reducer_size setup.reducer) zero_pack ≡ replicate m (zero_f false) = ap (λ (k : ℕ). take k zero_pack) (sym e) ∙ lent_zeros zero_pack m d.limit refl in
    h
    ∙ (λ i. added_scratch s (filled setup (same i) (u i)))
    ∙ added_merged r s _ (filled_length setup spec o (sets_of sets) (sets_pairs sets) _ ∙ length-replicate m (zero_f false)) d.within
    (λ p l. filled_at setup spec o (sets_of sets) (sets_pairs sets) p l ∙ sym (scratch_is r sets p refl))

-- the points of a set whose stride is k
pub held_points : (set : PointSet) (k : ℕ) → k ≡ stride_or set.n_points set.stride
    → map (λ i. points.point_at (record { count = i; stated = Some k; positions = set.positions.now; values = set.values.now; weights = set.weights.now }) i) (upto set.n_points)
    ≡ points.points (points_of set)
held_points set k q = rw q

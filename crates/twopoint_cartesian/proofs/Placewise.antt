-- The walk leaves in scratch, place by place, what the definitions say. Assumes nothing.
use mathlib.Core.Path.{◌≡◌, refl, ap, ◌∙◌}
use Rattle.std.specs.Prelude.{Option, None, Some}
use mathlib.Core.Bool.{Bool, true, false, cond}
use mathlib.Core.List.{List}
use Prim.Native.Nat.{ℕ, zero, suc, ◌+◌, ◌*◌, ◌<◌, ◌≤◌}
use native.Mathlib.Nat.{mod-one, div-one, div-lt_iff_lt-mul, mul_comm}
use native.Mathlib.Omega.{arith}
use lib.Dec.{eqb}
use lib.ListN.{length, replicate, length-set, length-replicate}
use lib.Ieee.{Float}
use borrow.Author.Tests.{ne_eqb, eqb-true, eqb-false}
use Rattle.definitions.specs.Lists.{at, range, add_opt, fold_at}
use Rattle.definitions.specs.Floats.{zero_f}
use Rattle.definitions.specs.Bins.{bins, bin_of}
use Rattle.definitions.specs.Blocks as blocks
use Rattle.definitions.specs.Blocks.{CartesianBlock, Cell, cell_index, reading_at, cell_pairs, distance_squared}
use Rattle.definitions.specs.Reducer.{datum_of, datum_term, kind_size, in_bin}
use Rattle.definitions.specs.Run.{Sets, Run, used, place, state_at, number_at, cells_at, offset_at}
use Rattle.laws.specs.Loops.{loop_left}
use Rattle.laws.specs.Loops.{fold_pack}
use Rattle.laws.specs.Stores.{bump}
use Rattle.laws.proofs.Places.{placewise, hist_at}
use Rattle.reducer.specs.Readings.{BuiltEdges, op_of, edges_of, kind_of}
use Rattle.reducer.specs.Consume.{built_bin, consumed}
use Rattle.reducer.proofs.Placewise.{bin_bounded, room, made_bin, consumed_at_law}
use Rattle.parallel_serial.specs.declared.RunSpec.{RunSpec}
use Rattle.parallel_serial.specs.Setups.{SetupOf}
use Rattle.parallel_serial.specs.Drive.{run_of}
use Rattle.parallel_serial.proofs.Scratch.{zero_at}
use Rattle.parallel_serial.specs.declared.Setup.{Setup}
use Rattle.twopoint_cartesian.specs.Cells.{cells_added, pair_step, offset_cells, fresh, state_merged, merged_in, offset_added, offsets_added}
use Rattle.twopoint_cartesian.proofs.Merge.{fold_length, pair_length, cells_length}

-- ---- a state merged into a bin
loop_fold : (upd : ℕ → List Float → List Float) (k n : ℕ) (s : List Float) → loop_left upd k n s ≡ fold_pack upd (range k n) s
loop_fold upd k zero s = refl
loop_fold upd k (suc n) s = loop_fold upd (suc k) n (upd k s)

neither : {x : Float} (t : Bool) → add_opt (cond t None None) x ≡ x
neither true = refl
neither false = refl

-- of the terms only that of q is one
module _ (t : Bool) (g : ℕ → Float) (q : ℕ) where
  abbrev only : ℕ → Option Float
  only e = cond t (cond (eqb e q) (Some (g e)) None) None

  past : (k m : ℕ) (x : Float) → q < k → fold_at only x (range k m) ≡ x
  past k zero x h = refl
  past k (suc m) x h = ap (λ (y : Float). fold_at only y (range (suc k) m)) (other t (ne_eqb k q (omega arith))) ∙ past (suc k) m x (omega arith)
    where
      other : (u : Bool) → eqb k q ≡ false → add_opt (cond u (cond (eqb k q) (Some (g k)) None) None) x ≡ x
      other true e = rw e
      other false e = refl

  once : (k m : ℕ) (x : Float) → k ≤ q → q < k + m → fold_at only x (range k m) ≡ add_opt (cond t (Some (g q)) None) x
  once k zero x h l = absurd (omega arith)
  once k (suc m) x h l = go (eqb k q) refl (λ n. once (suc k) m x n (omega arith))
    where
      go : (u : Bool) → eqb k q ≡ u → (suc k ≤ q → fold_at only x (range (suc k) m) ≡ add_opt (cond t (Some (g q)) None) x)
          → fold_at only (add_opt (cond t (cond (eqb k q) (Some (g k)) None) None) x) (range (suc k) m) ≡ add_opt (cond t (Some (g q)) None) x
      go true e next =
          let d : k ≡ q = eqb-true k q e in
          (rw e (past (suc k) m (add_opt (cond t (Some (g k)) None) x) (omega arith))) ∙ ap (λ (i : ℕ). add_opt (cond t (Some (g i)) None) x) d
      go false e next = (rw e (ap (λ (y : Float). fold_at only y (range (suc k) m)) (neither t))) ∙ next (omega (arith, eqb-false k q e))

module _ (n bin size : ℕ) (l : bin < n) (st s : List Float) (es : length st ≡ size) (e : length s ≡ n * size) (p : ℕ) (h : p < n * size) where
  number_below : number_at n p < size
  number_below =
      let z : 0 < n = omega arith in
      let k : p < size * n = omega (arith, mul_comm n size) in
      (div-lt_iff_lt-mul z).1 k

  merge_at : at (state_merged n bin st 0 (length st) s) p ≡ add_opt (in_bin (Some bin) (state_at n p) (Some (at st (number_at n p)))) (at s p)
  unfolding state_merged
  merge_at =
      ap (λ (z : List Float). at z p) (loop_fold (λ e s. bump (place n e bin) (at st e) s) 0 (length st) s)
      ∙ placewise (λ e s. bump (place n e bin) (at st e) s) (n * size) (λ p e. in_bin (Some bin) (state_at n p) (in_bin (Some e) (number_at n p) (Some (at st e)))) (λ e s. length-set s (place n e bin) _)
      (λ e s p d k. hist_at n bin e p (at st e) s l (omega arith)) (range 0 (length st)) s p e h
      ∙ once (eqb bin (state_at n p)) (at st) (number_at n p) 0 (length st) (at s p) (omega arith) (omega (arith, number_below))

-- ---- a run
module _ (spec : RunSpec) (setup : Setup) (o : SetupOf spec setup) (few : bins (edges_of spec.edges) ≤ 256) (small : kind_size (kind_of spec.kind) ≤ 256) (sets : Sets) where
  abbrev pub the_run : Run
  the_run = run_of sets spec

  abbrev n : ℕ
  n = bins (edges_of spec.edges)

  abbrev size : ℕ
  size = kind_size (kind_of spec.kind)

  module _ (width : blocks.CellWidth) (a b : CartesianBlock) where
    -- a pair of cells, in a state by itself
    pair_at_law : (q : Cell × Cell) (s : List Float) (p : ℕ) → length s ≡ size → p < size
        → at (pair_step setup a b q s) p ≡ add_opt (datum_term (kind_of spec.kind) p (datum_of (op_of spec.op) (reading_at a q.0) (reading_at b q.1))) (at s p)
    unfolding pair_step cells_added
    pair_at_law q s p e h =
        let d = datum_of (op_of spec.op) (reading_at a q.0) (reading_at b q.1) in
        (λ t. at (consumed (o.reducer t) 1 0 (datum_of (op_of (o.op t)) (reading_at a q.0) (reading_at b q.1)) s) p)
        ∙ consumed_at_law 1 0 d s spec.kind (room 1 size 0 (length s) (omega arith) (omega arith) (omega arith) (omega arith)) p (omega arith)
        ∙ λ t. add_opt (cond (eqb 0 (mod-one p t)) (datum_term (kind_of spec.kind) (div-one p t) d) None) (at s p)

    cells_at_law : (d : blocks.Idx3DOffset) (p : ℕ) → p < size → at (offset_cells setup a b d (fresh size)) p
        ≡ fold_at (λ q. datum_term (kind_of spec.kind) p (datum_of (op_of spec.op) (reading_at a q.0) (reading_at b q.1))) (zero_f false) (cell_pairs a b d)
    unfolding offset_cells fresh
    cells_at_law d p h =
        placewise (pair_step setup a b) size (λ p q. datum_term (kind_of spec.kind) p (datum_of (op_of spec.op) (reading_at a q.0) (reading_at b q.1))) (pair_length setup a b) pair_at_law (cell_pairs a b d)
        (replicate size (zero_f false)) p (length-replicate size (zero_f false)) h
        ∙ ap (λ (x : Float). fold_at (λ q. datum_term (kind_of spec.kind) p (datum_of (op_of spec.op) (reading_at a q.0) (reading_at b q.1))) x (cell_pairs a b d)) (zero_at size p h)

    -- one offset
    offset_length : (d : blocks.Idx3DOffset) (s : List Float) → length (offset_added setup width a b size d s) ≡ length s
    unfolding offset_added state_merged
    offset_length d s = go (built_bin setup.edges (distance_squared width a b d)) (offset_cells setup a b d (fresh size))
      where
        go : (o : Option ℕ) (st : List Float) → length (merged_in o setup.n_states st s) ≡ length s
        go None st = refl
        go (Some bin) st =
            ap length (loop_fold (λ e s. bump (place setup.n_states e bin) (at st e) s) 0 (length st) s)
            ∙ fold_length (λ e s. bump (place setup.n_states e bin) (at st e) s) (λ e s. length-set s (place setup.n_states e bin) _) (range 0 (length st)) s

    offset_at_law : (d : blocks.Idx3DOffset) (s : List Float) (p : ℕ) → length s ≡ used the_run → p < used the_run → at (offset_added setup width a b size d s) p ≡ add_opt (offset_at the_run p width a b d) (at s p)
    unfolding offset_added run_of
    offset_at_law d s p e h =
        (λ t. at (merged_in ((ap (λ (x : BuiltEdges). built_bin x (distance_squared width a b d)) o.edges ∙ made_bin spec.edges (distance_squared width a b d)) t) (o.states t) st s) p)
        ∙ go (bin_of (edges_of spec.edges) (distance_squared width a b d)) refl
      where
        st : List Float
        st = offset_cells setup a b d (fresh size)

        go : (o : Option ℕ) → bin_of (edges_of spec.edges) (distance_squared width a b d) ≡ o
            → at (merged_in o n st s) p ≡ add_opt (in_bin o (state_at n p) (Some (fold_at (cells_at the_run p a b) (zero_f false) (cell_pairs a b d)))) (at s p)
        go None i = refl
        go (Some bin) i =
            let l = bin_bounded (edges_of spec.edges) (distance_squared width a b d) bin i in
            merge_at n bin size l st s (cells_length setup a b d size) e p h
            ∙ ap (λ (x : Float). add_opt (in_bin (Some bin) (state_at n p) (Some x)) (at s p)) (cells_at_law d (number_at n p) (number_below n bin size l st s (cells_length setup a b d size) e p h))

    -- all of them, from zeros
    pub filled_length : (l : List blocks.Idx3DOffset) (s : List Float) → length (offsets_added setup width a b size l s) ≡ length s
    unfolding offsets_added
    filled_length l s = fold_length (offset_added setup width a b size) offset_length l s

    pub filled_at : (l : List blocks.Idx3DOffset) (p : ℕ) → p < used the_run → at (offsets_added setup width a b size l (replicate (used the_run) (zero_f false))) p ≡ fold_at (offset_at the_run p width a b) (zero_f false) l
    unfolding offsets_added
    filled_at l p h =
        placewise (offset_added setup width a b size) (used the_run) (λ p d. offset_at the_run p width a b d) offset_length offset_at_law l (replicate (used the_run) (zero_f false)) p (length-replicate (used the_run) (zero_f false)) h
        ∙ ap (λ (x : Float). fold_at (offset_at the_run p width a b) x l) (zero_at (used the_run) p h)

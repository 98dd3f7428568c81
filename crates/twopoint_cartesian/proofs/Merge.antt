-- A state's merge into its bin, and one offset's part of a run. Assumes nothing.
use mathlib.Core.Path.{◌≡◌, refl, ap, ◌∙◌}
use Rattle.std.specs.Prelude.{Option, None, Some}
use Rattle.std.proofs.lemmas.Option.{none-some, same_Some}
use mathlib.Core.Bool.{Bool, true, false, cond}
use mathlib.Core.List.{List, [], ◌∷◌}
use Prim.Native.Nat.{ℕ, ◌+◌, ◌-◌, ◌*◌, ◌<◌, ◌≤◌}
use native.Mathlib.Nat.{sub-zero, suc-mul, mul_comm, mul-le-mul_right}
use native.Mathlib.Omega.{arith}
use lib.Dec.{T, ltb, ltb→lt}
use lib.ListN.{length, replicate, length-replicate}
use lib.Ieee.{Float}
use Rattle.definitions.specs.Lists.{at}
use Rattle.definitions.specs.Floats.{zero_f}
use Rattle.definitions.specs.Bins.{below}
use Rattle.definitions.specs.Blocks as blocks
use Rattle.definitions.specs.Blocks.{CartesianBlock, Cell, cell_pairs}
use Rattle.definitions.specs.Run.{place}
use Rattle.laws.specs.Loops.{fold_pack}
use Rattle.laws.specs.Stores.{bump}
use Rattle.reducer.proofs.Placewise.{consumed_length}
use Rattle.reducer.specs.Consume.{built_bins, built_find, built_bin}
use Rattle.parallel_serial.specs.declared.Setup.{Setup}
use Rattle.twopoint_cartesian.specs.declared.held.Mean.{Mean}
use Rattle.twopoint_cartesian.specs.Cells.{fresh, cells_added, pair_step, state_merged, StateFits, merged_in, mean_state, offset_cells}
use Rattle.twopoint_cartesian.proofs.Loops.{left_turn, left_done}

-- ---- the merge
-- k is what a call answered
pub merge_place : (n b size len e k : ℕ) → StateFits n b size len → e < size → k ≡ place n e b → k < len
merge_place n b size len e k r h q = omega (arith, r.state, r.pack, suc-mul e n, mul_comm size n, mul-le-mul_right n h)

module _ (n b : ℕ) (state : List Float) where
  pub merge_start : (s : List Float) → state_merged n b state 0 (length state - 0) s ≡ state_merged n b state 0 (length state) s
  merge_start s = ap (λ (m : ℕ). state_merged n b state 0 m s) (sub-zero (length state))

  module _ (z : List Float) (e : ℕ) (s : List Float) where
    pub merge_turn : (k : ℕ) → e < length state → k ≡ place n e b → state_merged n b state e (length state - e) s ≡ z
        → state_merged n b state (e + 1) (length state - (e + 1)) (bump k (at state e) s) ≡ z
    unfolding state_merged
    merge_turn k h q = left_turn (λ e s. bump (place n e b) (at state e) s) (length state) z e s (bump k (at state e) s) h (ap (λ (i : ℕ). bump i (at state e) s) q)

    pub merge_done : length state ≤ e → state_merged n b state e (length state - e) s ≡ z → s ≡ z
    unfolding state_merged
    merge_done = left_done (λ e s. bump (place n e b) (at state e) s) (length state) z e s

-- ---- one offset, by what the lookup answered
pub below_found : (n : ℕ) (o : Option ℕ) (b : ℕ) → below n o ≡ Some b → b < n
below_found n None b e = absurd (none-some b e)
below_found n (Some i) b e = go (ltb i n) (ltb→lt i n) e
  where
    go : (t : Bool) → (T t → i < n) → cond t (Some i) None ≡ Some b → b < n
    go true h p = rw (same_Some i b p) at (h tt)
    go false h p = absurd (none-some b p)

-- the cells keep the state's length
pub fold_length : {A : Type 0} (upd : A → List Float → List Float) → ((x : A) (s : List Float) → length (upd x s) ≡ length s) → (l : List A) (s : List Float) → length (fold_pack upd l s) ≡ length s
fold_length upd keeps [] s = refl
fold_length upd keeps (x ∷ l) s = fold_length upd keeps l (upd x s) ∙ keeps x s

module _ (setup : Setup) (a b : CartesianBlock) where
  pub pair_length : (q : Cell × Cell) (s : List Float) → length (pair_step setup a b q s) ≡ length s
  unfolding pair_step cells_added
  pair_length q s = consumed_length 1 0 _ s setup.reducer

  pub cells_length : (d : blocks.Idx3DOffset) (n : ℕ) → length (offset_cells setup a b d (fresh n)) ≡ n
  unfolding offset_cells fresh
  cells_length d n = fold_length (pair_step setup a b) pair_length (cell_pairs a b d) (replicate n (zero_f false)) ∙ length-replicate n (zero_f false)

pub bin_fits : (setup : Setup) (size : ℕ) (x : Float) (bin len : ℕ) → built_bin setup.edges x ≡ Some bin → size ≤ 256 → setup.n_states * size ≤ len → StateFits setup.n_states bin size len
unfolding built_bin
bin_fits setup size x bin len h k l = record { few = setup.usable.few; small = k; state = let m = below_found (built_bins setup.edges) (built_find setup.edges x) bin h in omega (arith, setup.usable.states); pack = l }

pub room_sized : (n bin size len k : ℕ) → k ≡ size → StateFits n bin size len → StateFits n bin k len
room_sized n bin size len k e r = rw e r

pub state_merged_law : (n bin : ℕ) (state t s q : List Float) → state ≡ t → q ≡ state_merged n bin state 0 (length state) s → q ≡ merged_in (Some bin) n t s
state_merged_law n bin state t s q f g = g ∙ ap (λ (x : List Float). merged_in (Some bin) n x s) f

-- ---- a mean's two numbers
pub mean_stored : (n bin : ℕ) (m : Mean) (s : List Float) (j k : ℕ) → j ≡ place n 0 bin → k ≡ place n 1 bin → bump k m.weight (bump j m.total s) ≡ state_merged n bin (mean_state m) 0 2 s
unfolding state_merged
mean_stored n bin m s j k ej ek = λ t. bump (ek t) m.weight (bump (ej t) m.total s)

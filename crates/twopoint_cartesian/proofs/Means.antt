-- A mean's cells in locals: the two numbers, summed apart, are the state that the cells leave. Assumes nothing.
use mathlib.Core.Path.{◌≡◌, refl, sym, ap, ◌∙◌}
use mathlib.Core.Bool.{true, true≢false}
use mathlib.Core.List.{List}
use Prim.Native.Nat.{ℕ, zero, suc, ◌+◌, ◌-◌, ◌<◌, ◌≤◌}
use native.Mathlib.Nat.{sub-zero}
use native.Mathlib.Omega.{arith}
use lib.Ieee.{Float, binary64, add, mul}
use Rattle.std.specs.Prelude.{Some}
use Rattle.definitions.specs.Blocks as blocks
use Rattle.definitions.specs.Blocks.{CartesianBlock, cell_index, count, cell_pairs, distance_squared}
use Rattle.definitions.specs.Reducer as definitions
use Rattle.definitions.specs.Reducer.{component_sum}
use Rattle.laws.specs.Loops.{loop_left}
use Rattle.reducer.specs.declared.Datum.{Datum}
use Rattle.reducer.specs.declared.Reducer.TheVariants.{Comp0Mean, ComponentSumMean, ComponentSumHistogram}
use Rattle.reducer.specs.Readings.{BuiltEdges, BuiltReducer, the_datum}
use Rattle.reducer.specs.Consume as consume
use Rattle.reducer.specs.Consume.{reducer_size, consumed}
use Rattle.reducer.proofs.Placewise.{room}
use Rattle.parallel_serial.specs.declared.Setup.{Setup}
use Rattle.twopoint_cartesian.specs.declared.held.Mean.{Mean}
use Rattle.twopoint_cartesian.specs.Held.{Ready, is_mean}
use Rattle.twopoint_cartesian.specs.Cells.{Row, Plane, Pairs, row_at, plane_at, pairs_at, datum_in, cells_added, row_added, plane_added, block_added, scalar_of, mean_added, no_mean, mean_state, cells_in_mean, row_in_mean, plane_in_mean, block_in_mean, offset_mean, offset_cells, fresh, state_merged, merged_in}
use Rattle.twopoint_cartesian.proofs.Loops.{left_turn, left_done}
use Rattle.twopoint_cartesian.proofs.Cells.{offset_cells_law}

-- ---- each way through the code
module _ (k : BuiltReducer) (d : definitions.Datum) (x : Float) (h : x ≡ component_sum d) where
  pub scalar_sum : k ≡ ComponentSumMean → x ≡ scalar_of k d
  scalar_sum t = rw t h

  pub scalar_histogram : (e : BuiltEdges) → k ≡ ComponentSumHistogram e → x ≡ scalar_of k d
  scalar_histogram e t = rw t h

-- ---- the loops, turn by turn
module _ (setup : Setup) where
  pub cells_in_mean_law : (r : Row) (x : ℕ) (m : Mean) (d : Datum) (v : Float) → the_datum d ≡ datum_in setup r x → v ≡ scalar_of setup.reducer (the_datum d)
      → ◌≡◌ {A = Mean} (record { total = add binary64 m.total (mul binary64 v d.weight); weight = add binary64 m.weight d.weight }) (cells_in_mean setup r x m)
  unfolding cells_in_mean
  cells_in_mean_law r x m d v ed ev =
      (λ t. record { total = add binary64 m.total (mul binary64 (ev t) d.weight); weight = add binary64 m.weight d.weight }) ∙ ap (λ (e : definitions.Datum). mean_added setup.reducer e m) ed

  module _ (r : Row) (n : ℕ) where
    pub mean_start : (m : Mean) → row_in_mean setup r 0 (n - 0) m ≡ row_in_mean setup r 0 n m
    mean_start m = ap (λ (k : ℕ). row_in_mean setup r 0 k m) (sub-zero n)

    module _ (z : Mean) (x : ℕ) (m : Mean) where
      pub mean_turn : (q : Mean) → x < n → q ≡ cells_in_mean setup r x m → row_in_mean setup r x (n - x) m ≡ z → row_in_mean setup r (x + 1) (n - (x + 1)) q ≡ z
      unfolding row_in_mean
      mean_turn q = left_turn (λ x m. cells_in_mean setup r x m) n z x m q

      pub mean_done : n ≤ x → row_in_mean setup r x (n - x) m ≡ z → m ≡ z
      unfolding row_in_mean
      mean_done = left_done (λ x m. cells_in_mean setup r x m) n z x m

  module _ (p : Plane) (k : ℕ) where
    pub mean_plane_start : (m : Mean) → plane_in_mean setup p 0 (k - 0) m ≡ plane_in_mean setup p 0 k m
    mean_plane_start m = ap (λ (l : ℕ). plane_in_mean setup p 0 l m) (sub-zero k)

    module _ (z : Mean) (y : ℕ) (m : Mean) where
      -- row y, u
      pub mean_plane_turn : (u : Row) (q : Mean) → y < k → u ≡ row_at p y → q ≡ row_in_mean setup u 0 u.n m → plane_in_mean setup p y (k - y) m ≡ z → plane_in_mean setup p (y + 1) (k - (y + 1)) q ≡ z
      unfolding plane_in_mean
      mean_plane_turn u q h e f = left_turn (λ y m. row_in_mean setup (row_at p y) 0 p.rows.n m) k z y m q h (f ∙ λ t. row_in_mean setup (e t) 0 (e t).n m)

      pub mean_plane_done : k ≤ y → plane_in_mean setup p y (k - y) m ≡ z → m ≡ z
      unfolding plane_in_mean
      mean_plane_done = left_done (λ y m. row_in_mean setup (row_at p y) 0 p.rows.n m) k z y m

  module _ (b : Pairs) (l : ℕ) where
    pub mean_block_start : (m : Mean) → block_in_mean setup b 0 (l - 0) m ≡ block_in_mean setup b 0 l m
    mean_block_start m = ap (λ (k : ℕ). block_in_mean setup b 0 k m) (sub-zero l)

    module _ (e : Mean) (z : ℕ) (m : Mean) where
      -- plane z, u
      pub mean_block_turn : (u : Plane) (q : Mean) → z < l → u ≡ plane_at b z → q ≡ plane_in_mean setup u 0 u.rows.m m → block_in_mean setup b z (l - z) m ≡ e → block_in_mean setup b (z + 1) (l - (z + 1)) q ≡ e
      unfolding block_in_mean
      mean_block_turn u q h f g = left_turn (λ z m. plane_in_mean setup (plane_at b z) 0 b.planes.rows.m m) l e z m q h (g ∙ λ t. plane_in_mean setup (f t) 0 (f t).rows.m m)

      pub mean_block_done : l ≤ z → block_in_mean setup b z (l - z) m ≡ e → m ≡ e
      unfolding block_in_mean
      mean_block_done = left_done (λ z m. plane_in_mean setup (plane_at b z) 0 b.planes.rows.m m) l e z m

-- ---- as a state
-- a loop over states is the loop's state
through : {S M : Type 0} (f : ℕ → S → S) (g : ℕ → M → M) (w : M → S) → ((x : ℕ) (m : M) → f x (w m) ≡ w (g x m)) → (x n : ℕ) (m : M) → loop_left f x n (w m) ≡ w (loop_left g x n m)
through f g w h x zero m = refl
through f g w h x (suc n) m = ap (loop_left f (suc x) n) (h x m) ∙ through f g w h (suc x) n (g x m)

-- a datum into a mean's state
consumed_mean : (k : BuiltReducer) (d : definitions.Datum) (m : Mean) → is_mean k ≡ true → consumed k 1 0 d (mean_state m) ≡ mean_state (mean_added k d m)
unfolding consume.consumed consume.consumed_at
consumed_mean Comp0Mean d m e = rw (room 1 2 0 2 (omega arith) (omega arith) (omega arith) (omega arith))
consumed_mean ComponentSumMean d m e = rw (room 1 2 0 2 (omega arith) (omega arith) (omega arith) (omega arith))
consumed_mean (ComponentSumHistogram edges) d m e = absurd (true≢false (sym e))

module _ (setup : Setup) (e : is_mean setup.reducer ≡ true) where
  mean_cells : (r : Row) (x : ℕ) (m : Mean) → cells_added setup r.a r.b (r.i + x) (r.j + x) (mean_state m) ≡ mean_state (cells_in_mean setup r x m)
  unfolding cells_added cells_in_mean
  mean_cells r x m = consumed_mean setup.reducer (datum_in setup r x) m e

  mean_row : (r : Row) (n : ℕ) (m : Mean) → row_added setup r 0 n (mean_state m) ≡ mean_state (row_in_mean setup r 0 n m)
  unfolding row_added row_in_mean
  mean_row r n m = through (λ x s. cells_added setup r.a r.b (r.i + x) (r.j + x) s) (λ x m. cells_in_mean setup r x m) mean_state (λ x m. mean_cells r x m) 0 n m

  mean_plane : (p : Plane) (k : ℕ) (m : Mean) → plane_added setup p 0 k (mean_state m) ≡ mean_state (plane_in_mean setup p 0 k m)
  unfolding plane_added plane_in_mean
  mean_plane p k m = through (λ y s. row_added setup (row_at p y) 0 p.rows.n s) (λ y m. row_in_mean setup (row_at p y) 0 p.rows.n m) mean_state (λ y m. mean_row (row_at p y) p.rows.n m) 0 k m

  mean_block : (b : Pairs) (l : ℕ) (m : Mean) → block_added setup b 0 l (mean_state m) ≡ mean_state (block_in_mean setup b 0 l m)
  unfolding block_added block_in_mean
  mean_block b l m =
      through (λ z s. plane_added setup (plane_at b z) 0 b.planes.rows.m s) (λ z m. plane_in_mean setup (plane_at b z) 0 b.planes.rows.m m) mean_state (λ z m. mean_plane (plane_at b z) b.planes.rows.m m) 0 l m

  cells_mean : (a b : CartesianBlock) → a.sx ≡ 1 → b.sx ≡ 1 → (d : blocks.Idx3DOffset) → offset_cells setup a b d (fresh 2) ≡ mean_state (offset_mean setup a b d)
  unfolding fresh offset_mean
  cells_mean a b ea eb d = sym (offset_cells_law setup a b ea eb d (fresh 2)) ∙ mean_block (pairs_at a b d) (count a.nz b.nz d.dz) no_mean

  -- m is what a call answered
  pub mean_merged : (a b : CartesianBlock) → Ready a → Ready b → (d : blocks.Idx3DOffset) (bin : ℕ) (m : Mean) (s q : List Float) → m ≡ offset_mean setup a b d → q ≡ state_merged setup.n_states bin (mean_state m) 0 2 s
      → q ≡ merged_in (Some bin) setup.n_states (offset_cells setup a b d (fresh 2)) s
  mean_merged a b ha hb d bin m s q f h = h ∙ λ t. merged_in (Some bin) setup.n_states ((ap mean_state f ∙ sym (cells_mean a b ha.x_stride hb.x_stride d)) t) s

-- what the arm of no histogram is told
pub mean_told : (k : BuiltReducer) → ((e : BuiltEdges) → k ≡ ComponentSumHistogram e → ⊥) → is_mean k ≡ true
mean_told Comp0Mean h = refl
mean_told ComponentSumMean h = refl
mean_told (ComponentSumHistogram edges) h = absurd (h edges refl)

-- ---- one offset, by what the calls answered
pub mean_done_cells : (setup : Setup) (a b : CartesianBlock) (d : blocks.Idx3DOffset) (u : Pairs) (q : Mean) → u ≡ pairs_at a b d → q ≡ block_in_mean setup u 0 u.planes.l no_mean → q ≡ offset_mean setup a b d
unfolding offset_mean
mean_done_cells setup a b d u q eu e = e ∙ λ t. block_in_mean setup (eu t) 0 (eu t).planes.l no_mean

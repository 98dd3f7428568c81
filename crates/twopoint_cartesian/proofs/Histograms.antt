-- A histogram's rows: the values of a row's pairs, their bins, and the weights added, are the cells added in order. Assumes nothing.
use mathlib.Core.Path.{◌≡◌, refl, sym, ap, ◌∙◌}
use Rattle.std.specs.Prelude.{Option, None, Some}
use mathlib.Core.Bool.{Bool, true, false, cond}
use mathlib.Core.List.{List, [], ◌∷◌, map}
use Prim.Native.Nat.{ℕ, zero, suc, ◌+◌, ◌-◌, ◌*◌, ◌<◌, ◌≤◌}
use native.Mathlib.Nat.{sub-zero}
use native.Mathlib.Omega.{arith}
use lib.Dec.{ltb}
use lib.ListN.{length, get_or, set, length-map}
use lib.Ieee.{Float, binary64, mul}
use lib.Ieee.Bits.{is_true}
use lib.Ieee.Fits.{add-fits}
use borrow.Author.Tests.{lt-ltb, le-ltb}
use Rattle.definitions.specs.Bins.{below}
use Rattle.definitions.specs.Lists.{at, overwritten}
use Rattle.definitions.specs.Reducer as definitions
use Rattle.definitions.specs.Reducer.{component_sum}
use Rattle.laws.specs.Loops.{loop_left}
use Rattle.laws.specs.Stores.{bump}
use Rattle.laws.proofs.Places.{overwritten_turn, overwritten_at, overwritten_length}
use Rattle.reducer.specs.declared.Datum.{Datum}
use Rattle.reducer.specs.declared.Reducer.TheVariants.{ComponentSumHistogram}
use Rattle.reducer.specs.Readings.{BuiltEdges, BuiltReducer, op_of, the_datum, reading_of}
use Rattle.reducer.specs.Consume as consume
use Rattle.reducer.specs.Consume.{built_bins, add_in, consumed}
use Rattle.reducer.proofs.Placewise.{room, kept_bin, consumed_length}
use Rattle.edge_batch.specs.Batch.{number_or, number_by, number_in, numbers_of}
use Rattle.edge_batch.proofs.Batch.{numbers_map, number_by_law, index_in, index_number, index_bin}
use Rattle.idx_3d_offset.specs.declared.Idx3DOffset.{Idx3DOffset}
use Rattle.spatial.specs.declared.Block.{Block}
use Rattle.spatial.specs.Readings.{block_of}
use Rattle.idx_3d_offset.specs.Offsets.{idx_of}
use Rattle.parallel_serial.specs.declared.Setup.{Setup}
use Rattle.twopoint_cartesian.specs.declared.held.Histograms.{Histograms}
use Rattle.twopoint_cartesian.specs.Held.{Reached}
use Rattle.twopoint_cartesian.specs.Cells.{Row, Pairs, pairs_at, reading_in, datum_in, cells_added, row_added, row_value, weight_added, weights_added, RowRoom}
use Rattle.twopoint_cartesian.proofs.Loops.{left_turn, left_done}
use Rattle.twopoint_cartesian.proofs.Cells.{count_a}

-- ---- a row's values, turn by turn; d is what a call answered
pub datum_is : (setup : Setup) (r : Row) (x : ℕ) (u v d : Datum) → reading_of u ≡ reading_in r.a (r.i + x) → reading_of v ≡ reading_in r.b (r.j + x) → the_datum d ≡ definitions.datum_of (op_of setup.op) (reading_of u) (reading_of v)
    → the_datum d ≡ datum_in setup r x
datum_is setup r x u v d eu ev e = e ∙ λ t. definitions.datum_of (op_of setup.op) (eu t) (ev t)

module _ (setup : Setup) (r : Row) (x : ℕ) (s q : List Float) (d : Datum) (h : x < length s) (ed : the_datum d ≡ datum_in setup r x) where
  pub value_turn : (v : Float) → v ≡ component_sum (the_datum d) → q ≡ overwritten x (row_value setup r) s → set q x v ≡ overwritten (x + 1) (row_value setup r) s
  unfolding row_value
  value_turn v ev inv = ap (λ (w : Float). set q x w) (ev ∙ ap component_sum ed) ∙ overwritten_turn (row_value setup r) x s q h inv

-- ---- the weights added, turn by turn
module _ (b : ℕ) (w : Float) (s : List Float) where
  pub weight_in : b < length s → bump b w s ≡ weight_added b w s
  unfolding weight_added
  weight_in h = rw (lt-ltb b (length s) h)

  pub weight_out : length s ≤ b → s ≡ weight_added b w s
  unfolding weight_added
  weight_out h = rw (le-ltb b (length s) h)

module _ (r : Row) (found : List ℕ) (n : ℕ) where
  abbrev weight_turn : ℕ → List Float → List Float
  weight_turn x s = weight_added (get_or found x 0) (mul binary64 (at r.a.weights (r.i + x)) (at r.b.weights (r.j + x))) s

  pub weights_start : (s : List Float) → weights_added r found 0 (n - 0) s ≡ weights_added r found 0 n s
  weights_start s = ap (λ (m : ℕ). weights_added r found 0 m s) (sub-zero n)

  module _ (z : List Float) (x : ℕ) (s : List Float) where
    pub weights_turn : (q : List Float) → x < n → q ≡ weight_added (get_or found x 0) (mul binary64 (at r.a.weights (r.i + x)) (at r.b.weights (r.j + x))) s → weights_added r found x (n - x) s ≡ z
        → weights_added r found (x + 1) (n - (x + 1)) q ≡ z
    unfolding weights_added
    weights_turn q = left_turn weight_turn n z x s q

    pub weights_over : n ≤ x → weights_added r found x (n - x) s ≡ z → s ≡ z
    unfolding weights_added
    weights_over = left_done weight_turn n z x s

-- ---- a row
-- loops whose bodies agree on states of one kind
same_loop : {S : Type 0} (f g : ℕ → S → S) (n : ℕ) (P : S → Type 0) → ((x : ℕ) (s : S) → x < n → P s → f x s ≡ g x s) → ((x : ℕ) (s : S) → P s → P (g x s)) → (k m : ℕ) → k + m ≤ n → (s : S) → P s
    → loop_left f k m s ≡ loop_left g k m s
same_loop f g n P e h k zero l s p = refl
same_loop f g n P e h k (suc m) l s p = ap (loop_left f (suc k) m) (e k s (omega arith) p) ∙ same_loop f g n P e h (suc k) m (omega arith) (g k s) (h k s p)

-- what each turn keeps, the loop keeps
loop_keeps : {S : Type 0} (g : ℕ → S → S) (P : S → Type 0) → ((x : ℕ) (s : S) → P s → P (g x s)) → (k m : ℕ) (s : S) → P s → P (loop_left g k m s)
loop_keeps g P h k zero s p = p
loop_keeps g P h k (suc m) s p = loop_keeps g P h (suc k) m (g k s) (h k s p)

map_at : (f : Float → ℕ) (l : List Float) (k : ℕ) → k < length l → get_or (map f l) k 0 ≡ f (at l k)
map_at f [] k h = absurd (omega arith)
map_at f (x ∷ l) zero h = refl
map_at f (x ∷ l) (suc k) h = map_at f l k (omega arith)

-- one weight, where the state is of the histogram's size
one_weight : (edges : BuiltEdges) (d : definitions.Datum) (s : List Float) → length s ≡ built_bins edges → length s ≤ 256
    → weight_added (number_in false edges (component_sum d)) d.weight s ≡ consumed (ComponentSumHistogram edges) 1 0 d s
unfolding weight_added consume.consumed consume.consumed_at
one_weight edges d s e h =
    ap (λ (k : ℕ). cond (ltb k (length s)) (bump k d.weight s) s) (index_number edges (component_sum d))
    ∙ go (index_in edges (component_sum d))
    ∙ (λ i. add_in ((ap (λ (n : ℕ). below n (index_in edges (component_sum d))) e ∙ index_bin edges (component_sum d) ∙ sym (kept_bin edges (component_sum d))) i) 1 0 d.weight s)
    ∙ sym (rw (room 1 (built_bins edges) 0 (length s) (omega arith) (omega arith) (omega arith) (omega arith)))
  where
    go : (o : Option ℕ) → cond (ltb (number_or o) (length s)) (bump (number_or o) d.weight s) s ≡ add_in (below (length s) o) 1 0 d.weight s
    go None = rw (le-ltb 4096 (length s) (omega arith))
    go (Some b) = pick (ltb b (length s))
      where
        pick : (t : Bool) → cond t (bump b d.weight s) s ≡ add_in (cond t (Some b) None) 1 0 d.weight s
        pick false = refl
        pick true = let k : b ≡ b * 1 + 0 = omega arith in ap (λ (i : ℕ). bump i d.weight s) k

module _ (by : Histograms) (len : ℕ) (sized : len ≡ built_bins by.values.edges) where
  abbrev setup : Setup
  setup = by.distances.setup

  abbrev bin : Float → ℕ
  bin x = number_in false by.values.edges x

  small : len ≤ 256
  small = omega (arith, sized, rw by.histogram at setup.usable.small)

  keeps : (r : Row) (x : ℕ) (t : List Float) → length t ≡ len → length (cells_added setup r.a r.b (r.i + x) (r.j + x) t) ≡ len
  unfolding cells_added
  keeps r x t p = consumed_length 1 0 (datum_in setup r x) t setup.reducer ∙ p

  row_keeps : (r : Row) (n : ℕ) (t : List Float) → length t ≡ len → length (row_added setup r 0 n t) ≡ len
  unfolding row_added
  row_keeps r n t p = loop_keeps (λ x t. cells_added setup r.a r.b (r.i + x) (r.j + x) t) (λ t. length t ≡ len) (λ x t p. keeps r x t p) 0 n t p

  -- pair x of a row, whose value was looked up by itself
  pub pair_done : (r : Row) (x : ℕ) (d : definitions.Datum) (v : Float) (b : ℕ) (s q : List Float) → length s ≡ len → d ≡ datum_in setup r x → v ≡ component_sum d → b ≡ number_by false by.values v
      → q ≡ weight_added b d.weight s → q ≡ cells_added setup r.a r.b (r.i + x) (r.j + x) s
  unfolding cells_added
  pair_done r x d v b s q es ed ev eb e =
      e ∙ ap (λ (k : ℕ). weight_added k d.weight s) (eb ∙ ap (number_by false by.values) ev ∙ number_by_law false by.values (component_sum d) (is_true _ (add-fits binary64 _ _))) ∙ one_weight by.values.edges d s (es ∙ sized) (omega (arith, es, small)) ∙ (λ i. consumed (sym by.histogram i) 1 0 (ed i) s)

  -- a row whose bins were found
  module _ (r : Row) (n : ℕ) (fs : List ℕ) (bins : (x : ℕ) → x < n → get_or fs x 0 ≡ bin (row_value setup r x)) where
    step : (x : ℕ) (t : List Float) → x < n → length t ≡ len → weight_added (get_or fs x 0) (mul binary64 (at r.a.weights (r.i + x)) (at r.b.weights (r.j + x))) t ≡ cells_added setup r.a r.b (r.i + x) (r.j + x) t
    unfolding cells_added row_value
    step x t h p =
        let d = datum_in setup r x in
        ap (λ (k : ℕ). weight_added k d.weight t) (bins x h) ∙ one_weight by.values.edges d t (p ∙ sized) (omega (arith, small)) ∙ ap (λ (k : BuiltReducer). consumed k 1 0 d t) (sym by.histogram)

    row_found : (t : List Float) → length t ≡ len → weights_added r fs 0 n t ≡ row_added setup r 0 n t
    unfolding weights_added row_added
    row_found t p =
        same_loop (λ x t. weight_added (get_or fs x 0) (mul binary64 (at r.a.weights (r.i + x)) (at r.b.weights (r.j + x))) t) (λ x t. cells_added setup r.a r.b (r.i + x) (r.j + x) t) n (λ t. length t ≡ len) step (λ x t p. keeps r x t p) 0 n
        (omega arith) t p

  -- a row whose values were looked up; found is what the room held
  pub row_done : (r : Row) (vs ws : List Float) (found fs : List ℕ) → length ws ≡ r.n → length found ≡ r.n → vs ≡ overwritten r.n (row_value setup r) ws → fs ≡ numbers_of false by.values.edges vs found
      → (s q : List Float) → length s ≡ len → q ≡ weights_added r fs 0 (length fs) s → q ≡ row_added setup r 0 r.n s
  row_done r vs ws found fs lw lf ev ef s q p e =
      let lv : length vs ≡ r.n = ap length ev ∙ overwritten_length (row_value setup r) r.n ws (omega (arith, lw)) ∙ lw in
      let are : fs ≡ map bin vs = ef ∙ numbers_map false by.values.edges vs found (lf ∙ sym lv) in
      let n : length fs ≡ r.n = ap length are ∙ length-map vs bin ∙ lv in
      e ∙ ap (λ (k : ℕ). weights_added r fs 0 k s) n
      ∙ row_found r r.n fs
      (λ x h. ap (λ (l : List ℕ). get_or l x 0) are ∙ map_at bin vs x (omega (arith, lv, h)) ∙ ap bin (ap (λ (l : List Float). at l x) ev ∙ overwritten_at (row_value setup r) r.n ws x h)) s p

-- ---- room for an offset's rows
pub offset_room : (a b : Block) (o : Idx3DOffset) → Reached a b o → (q : Pairs) → q ≡ pairs_at (block_of a) (block_of b) (idx_of o) → (v f : ℕ) → RowRoom 64 v f → RowRoom q.planes.rows.n v f
offset_room a b o h q e v f u =
    rw e record { values = omega (arith, count_a a.nx b.nx o.2 h.reach.x_axis, h.first.axes.x_axis.most, u.values); found = omega (arith, count_a a.nx b.nx o.2 h.reach.x_axis, h.first.axes.x_axis.most, u.found) }

pub same_room : (m n v f v' f' : ℕ) → m ≡ n → v' ≡ v → f' ≡ f → RowRoom n v f → RowRoom m v' f'
same_room m n v f v' f' en ev ef u = record { values = omega (arith, en, ev, u.values); found = omega (arith, en, ef, u.found) }

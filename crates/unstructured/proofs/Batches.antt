-- Rows in batches: the places that are not outside, their pairs by the numbers of their bins, and the pairs left out.
use mathlib.Core.Path.{◌≡◌, refl, sym, ap, subst, ◌∙◌}
use Rattle.std.specs.Prelude.{Option, None, Some, option_map}
use mathlib.Core.Bool.{Bool, true, false, cond, not, ◌&&◌}
use mathlib.Core.Logic.{⊎_elim}
use mathlib.Core.List.{List, [], ◌∷◌, ◌++◌, map, map-append}
use Rattle.std.specs.Int.{from_bool}
use Prim.Native.Nat.{ℕ, zero, suc, ◌+◌, ◌-◌, ◌*◌, ◌<◌, ◌≤◌}
use native.Mathlib.Nat.{eq-or-lt_of_le, lt_irrefl, add-zero, zero-add, le_refl}
use native.Mathlib.Numerals.{add-one}
use native.Mathlib.Omega.{arith}
use lib.Dec.{ltb, leb}
use lib.ListN.{length, get_or, set, take, drop, length-map, length-drop}
use lib.Seq.{get_or-set_same, get_or-set_other, take-suc, take-set-le, take-suc-set, take-length, ext_get_or, get_or-drop}
use lib.Ieee.{Float, nan, binary64}
use lib.Ieee.Bits.{is_true}
use lib.Ieee.Fits.{add-fits}
use borrow.Author.Tests.{ltb-true, lt-leb}
use Rattle.definitions.specs.Lists.{at}
use Rattle.definitions.specs.Bins.{below}
use Rattle.definitions.specs.Points as points
use Rattle.definitions.specs.Points.{Reading, squared_diff_norm}
use Rattle.definitions.specs.Reducer.{Datum, kept, dropped, component_sum, pair_in, datum_of}
use Rattle.definitions.specs.Reducer as Reducer
use Rattle.laws.specs.Loops.{run_on}
use Rattle.laws.proofs.Loops.{run_append}
use Rattle.reducer.specs.declared.PairOperation.{PairOperation}
use Rattle.reducer.specs.declared.Reducer.TheVariants.{Comp0Mean, ComponentSumMean, ComponentSumHistogram}
use Rattle.reducer.specs.Readings.{BuiltEdges, BuiltReducer, op_of}
use Rattle.reducer.specs.Consume.{built_bins, built_bin, has_room, add_in, value_bin, consumed_at, consumed}
use Rattle.reducer.proofs.Placewise.{kept_bin}
use Rattle.edge_table.specs.declared.Ends.{Ends}
use Rattle.edge_table.specs.declared.Lookup.{Lookup}
use Rattle.edge_table.specs.Table.{past_end, ends_of, ends_bin}
use Rattle.edge_table.specs.Tabled.{EndsOf, Tabled}
use Rattle.edge_table.proofs.Lookups.{bin_past, found_bin, tabled_ends}
use Rattle.edge_batch.specs.Batch.{number_or, number_in}
use Rattle.edge_batch.proofs.Batch.{index_in, index_number, index_bin, inside_bin}
use Rattle.parallel_serial.specs.declared.Setup.{Setup}
use Rattle.point_pairs.specs.declared.Pair.{Pair}
use Rattle.point_pairs.specs.Pairs.{the_pair, pair_value_bin, pair_added}
use Rattle.unstructured.specs.declared.held.Points.{Points}
use Rattle.unstructured.specs.declared.held.Readings.{Readings}
use Rattle.unstructured.specs.Held.{Listed, Parts, value_edges}
use Rattle.unstructured.specs.Pairs.{point_in, built_pair, pair_consumed, pair_step, row_added}
use Rattle.unstructured.specs.Batches.{reading_in, also, kept_below, picked, numbered_pair, pair_placed, pair_values, placed_to, value_numbers, places_added}

-- ---- one more place stored
pub stored_next : {A : Type 0} (o : A) (d : List A) (e : ℕ) (v : A) (g : ℕ → A) → e < length d → v ≡ g e → ((x : ℕ) → x < e → get_or d x o ≡ g x)
    → (x : ℕ) → x < e + 1 → get_or (set d e v) x o ≡ g x
stored_next {A} o d e v g h p q x l =
    let k : x ≤ e = omega arith in
    ⊎_elim (λ (z : x ≡ e). ap (λ (y : ℕ). get_or (set d e v) y o) z ∙ get_or-set_same d e v o h ∙ p ∙ ap g (sym z))
    (λ (z : x < e). get_or-set_other d e x v o (λ (y : x ≡ e). lt_irrefl e (subst (λ (n : ℕ). n < e) y z)) ∙ q x z) (eq-or-lt_of_le k)

-- a store at or below e leaves what is above it
pub above_stored : (d : List Float) (c e : ℕ) (v : Float) (z : List Float) → c ≤ e → ((x : ℕ) → e ≤ x → get_or d x nan ≡ get_or z x nan) → (x : ℕ) → e + 1 ≤ x → get_or (set d c v) x nan ≡ get_or z x nan
above_stored d c e v z k h x l = get_or-set_other d c x v nan (λ (y : x ≡ c). absurd (omega (arith, y))) ∙ h x (omega arith)

-- ---- the list of places
pub bit_le : (t : Bool) → from_bool t ≤ 1
bit_le true = omega arith
bit_le false = omega arith

pub one_more : {A : Type 0} (l : List A) (c w : ℕ) (t : Bool) (e : A) (k : List A) → w ≡ from_bool t → c < length l → take c l ≡ k → take (c + w) (set l c e) ≡ also t k e
one_more l c w false e k h r p = rw (h, add-zero) (take-set-le c l c e (le_refl c) ∙ p)
one_more l c w true e k h r p = rw (h, add-one) (take-suc-set l c e r ∙ ap (λ (x : List _). x ++ (e ∷ [])) p)

pub kept_next : (ends : Ends) (d : List Float) (e : ℕ) → kept_below ends d (e + 1) ≡ also (not (past_end ends (get_or d e nan))) (kept_below ends d e) e
unfolding kept_below
kept_next ends d e = rw add-one

map_also : (f : ℕ → Float) (t : Bool) (l : List ℕ) (e : ℕ) → map f (also t l e) ≡ also t (map f l) (f e)
map_also f false l e = refl
map_also f true l e = map-append f l (e ∷ [])

pub picked_next : (ends : Ends) (d : List Float) (e : ℕ)
    → picked d (kept_below ends d (e + 1)) ≡ also (not (past_end ends (get_or d e nan))) (picked d (kept_below ends d e)) (get_or d e nan)
unfolding picked
picked_next ends d e =
    ap (map (λ x. get_or d x nan)) (kept_next ends d e) ∙ map_also (λ x. get_or d x nan) (not (past_end ends (get_or d e nan))) (kept_below ends d e) e

-- what holds of each listed place
snoc_all : (P : ℕ → Type 0) (l : List ℕ) (e : ℕ) → ((q : ℕ) → q < length l → P (get_or l q 0)) → P e → (q : ℕ) → q < length (l ++ (e ∷ [])) → P (get_or (l ++ (e ∷ [])) q 0)
snoc_all P [] e h k zero p = k
snoc_all P [] e h k (suc q) p = absurd (omega arith)
snoc_all P (x ∷ l) e h k zero p = h 0 (omega arith)
snoc_all P (x ∷ l) e h k (suc q) p = snoc_all P l e (λ y r. h (suc y) (omega arith)) k q (omega arith)

also_all : (P : ℕ → Type 0) (t : Bool) (l : List ℕ) (e : ℕ) → ((q : ℕ) → q < length l → P (get_or l q 0)) → (t ≡ false → P e) → (q : ℕ) → q < length (also (not t) l e) → P (get_or (also (not t) l e) q 0)
also_all P true l e h k q p = h q p
also_all P false l e h k q p = snoc_all P l e h (k refl) q p

kept_all : (P : ℕ → Type 0) (ends : Ends) (d : List Float) (m : ℕ) → ((e : ℕ) → e < m → past_end ends (get_or d e nan) ≡ false → P e) → (q : ℕ) → q < length (kept_below ends d m) → P (get_or (kept_below ends d m) q 0)
unfolding kept_below
kept_all P ends d zero h q p = absurd (omega arith)
kept_all P ends d (suc e) h q p = also_all P (past_end ends (get_or d e nan)) (kept_below ends d e) e (kept_all P ends d e (λ x l. h x (omega arith))) (h e (omega arith)) q p

pub kept_listed : (ends : Ends) (d : List Float) (m n : ℕ) (l : List ℕ) → m ≤ n → l ≡ kept_below ends d m → Listed n l
kept_listed ends d m n l h e = subst (Listed n) (sym e) (kept_all (λ x. x < n) ends d m (λ x p y. omega (arith, p, h)))

-- ---- numbers of bins
module _ (n size b len : ℕ) where
  large_states : leb size 4096 ≡ false → has_room n size b len ≡ false
  unfolding has_room
  large_states h = go (leb n 4096)
    where
      go : (p : Bool) → (p && leb size 4096 && ltb b n && leb (n * size) len) ≡ false
      go true = rw h
      go false = refl

-- the number of no bin is past each histogram
histogram_number : (e : BuiltEdges) (n b : ℕ) (d : Datum) (s : List Float) (o : Option ℕ)
    → consumed_at (ComponentSumHistogram e) (Some (number_or o)) n b d s ≡ consumed_at (ComponentSumHistogram e) o n b d s
unfolding consumed_at
histogram_number e n b d s (Some x) = refl
histogram_number e n b d s None = go (ltb 4096 (built_bins e)) refl
  where
    go : (t : Bool) → ltb 4096 (built_bins e) ≡ t
        → cond (has_room n (built_bins e) b (length s)) (add_in (cond t (Some 4096) None) n b d.weight s) s ≡ cond (has_room n (built_bins e) b (length s)) s s
    go false h = refl
    go true h = rw (large_states n (built_bins e) b (length s) (lt-leb (built_bins e) 4096 (ltb-true 4096 (built_bins e) h)))

module _ (n b : ℕ) (d : Datum) (s : List Float) (v : ℕ) where
  value_number : (r : BuiltReducer) → ((e : BuiltEdges) → value_edges r ≡ Some e → v ≡ number_in false e (component_sum d)) → consumed_at r (Some v) n b d s ≡ consumed r n b d s
  unfolding consumed consumed_at
  value_number Comp0Mean h = refl
  value_number ComponentSumMean h = refl
  value_number (ComponentSumHistogram e) h =
      let o = index_in e (component_sum d) in
      ap (λ (x : ℕ). consumed_at (ComponentSumHistogram e) (Some x) n b d s) (h e refl ∙ index_number e (component_sum d))
      ∙ histogram_number e n b d s o
      ∙ (λ i. cond (has_room n (built_bins e) b (length s)) (add_in ((index_bin e (component_sum d) ∙ sym (kept_bin e (component_sum d))) i) n b d.weight s) s)

module _ (setup : Setup) (x y : Reading) (v : ℕ) (s : List Float) where
  abbrev datum : Datum
  datum = datum_of (op_of setup.op) x y

  -- a pair by the number of its bin
  numbered : (k : ℕ) (o : Option ℕ) → below setup.n_states (Some k) ≡ o → ((e : BuiltEdges) → value_edges setup.reducer ≡ Some e → v ≡ number_in false e (component_sum datum))
      → pair_placed setup v (numbered_pair setup x y k) s ≡ pair_consumed setup (pair_in o datum) s
  unfolding numbered_pair
  numbered k o e h = ap (λ (p : Option ℕ). pair_placed setup v (pair_in p datum) s) e ∙ go o
    where
      go : (p : Option ℕ) → pair_placed setup v (pair_in p datum) s ≡ pair_consumed setup (pair_in p datum) s
      go None = refl
      go (Some i) = value_number setup.n_states i datum s v setup.reducer h

-- ---- lists by places
at_map : {A B : Type 0} (f : A → B) (l : List A) (q : ℕ) (o : A) (z : B) → q < length l → get_or (map f l) q z ≡ f (get_or l q o)
at_map f [] q o z h = absurd (omega arith)
at_map f (x ∷ l) zero o z h = refl
at_map f (x ∷ l) (suc q) o z h = at_map f l q o z (omega arith)

at_maps : {A B C : Type 0} (f : A → B) (g : B → C) (l : List A) (q : ℕ) (o : A) (p : B) (z : C) → q < length l → get_or (map g (map f l)) q z ≡ g (f (get_or l q o))
at_maps f g l q o p z h =
    let k : q < length (map f l) = omega (arith, length-map l f) in
    at_map g (map f l) q p z k ∙ ap g (at_map f l q o p h)

value_at : (o : Option BuiltEdges) (e : BuiltEdges) (f : ℕ → Float) (l found : List ℕ) (q : ℕ) → q < length l → o ≡ Some e → get_or (value_numbers o (map f l) found) q 0 ≡ number_in false e (f (get_or l q 0))
value_at o e f l found q h k = ap (λ (y : Option BuiltEdges). get_or (value_numbers y (map f l) found) q 0) k ∙ at_maps f (number_in false e) l q 0 nan 0 h

module _ (setup : Setup) (x : Reading) (r : ℕ → Reading) (places bins values : List ℕ) where
  pub placed_next : (q : ℕ) (y : Reading) (pair : Pair) (z s u : List Float) → s ≡ placed_to x r setup places bins values q z → y ≡ r (get_or places q 0)
      → the_pair pair ≡ numbered_pair setup x y (get_or bins q 0) → u ≡ pair_placed setup (get_or values q 0) (the_pair pair) s → u ≡ placed_to x r setup places bins values (q + 1) z
  unfolding placed_to
  placed_next q y pair z s u h e p k =
      k ∙ (λ i. pair_placed setup (get_or values q 0) ((p ∙ ap (λ (v : Reading). numbered_pair setup x v (get_or bins q 0)) e) i) (h i))
      ∙ ap (λ (n : ℕ). placed_to x r setup places bins values n z) (sym (add-one q))

  module _ (f : ℕ → List Float → List Float) (h : (q : ℕ) → q < length places → (t : List Float)
      → pair_placed setup (get_or values q 0) (numbered_pair setup x (r (get_or places q 0)) (get_or bins q 0)) t ≡ f (get_or places q 0) t) where
    placed_taken : (q : ℕ) (s : List Float) → q ≤ length places → placed_to x r setup places bins values q s ≡ run_on f (take q places) s
    unfolding placed_to
    placed_taken zero s k = refl
    placed_taken (suc q) s k =
        h q k _ ∙ ap (f (get_or places q 0)) (placed_taken q s (omega arith)) ∙ sym (run_append f (take q places) (get_or places q 0 ∷ []) s)
        ∙ ap (λ (l : List ℕ). run_on f l s) (sym (take-suc places q 0 k))

    placed_all : (s : List Float) → placed_to x r setup places bins values (length places) s ≡ run_on f places s
    placed_all s = placed_taken (length places) s (le_refl (length places)) ∙ ap (λ (l : List ℕ). run_on f l s) (take-length places)

-- ---- rows
module _ (setup : Setup) (a : points.Point) (g : ℕ → points.Point) where
  -- a pair without a bin changes nothing
  skipped : (b : points.Point) (s : List Float) → None ≡ built_bin setup.edges (squared_diff_norm a b) → s ≡ pair_step setup (a, b) s
  unfolding pair_step built_pair
  skipped b s h = rw (sym h)

  row_none : (j : ℕ) (s : List Float) → s ≡ row_added setup a g j 0 s
  unfolding row_added
  row_none j s = refl

  row_cons : (j m : ℕ) (s : List Float) → row_added setup a g j (suc m) s ≡ row_added setup a g (suc j) m (pair_step setup (a, g j) s)
  unfolding row_added
  row_cons j m s = refl

  pub row_join : (j m n : ℕ) (s : List Float) → row_added setup a g j (m + n) s ≡ row_added setup a g (j + m) n (row_added setup a g j m s)
  row_join j zero n s = rw (zero-add n, add-zero j, sym (row_none j s))
  row_join j (suc m) n s =
      let e : suc j + m ≡ j + suc m = omega arith in
      let f : suc m + n ≡ suc (m + n) = omega arith in
      ap (λ (x : ℕ). row_added setup a g j x s) f ∙ row_cons j (m + n) s ∙ row_join (suc j) m n _ ∙ ap (λ (x : ℕ). row_added setup a g x n (row_added setup a g (suc j) m (pair_step setup (a, g j) s))) e
      ∙ ap (row_added setup a g (j + suc m) n) (sym (row_cons j m s))

  row_snoc : (j m : ℕ) (s : List Float) → row_added setup a g j (suc m) s ≡ pair_step setup (a, g (j + m)) (row_added setup a g j m s)
  row_snoc j m s =
      let e : suc m ≡ m + 1 = omega arith in
      ap (λ (x : ℕ). row_added setup a g j x s) e ∙ row_join j m 1 s ∙ row_cons (j + m) 0 _ ∙ sym (row_none (suc (j + m)) _)

  -- the pair of a with a place of a batch whose first point is j
  abbrev place_step : ℕ → ℕ → List Float → List Float
  place_step j e s = pair_step setup (a, g (j + e)) s

  module _ (ends : Ends) (own : EndsOf setup.edges ends) (d : List Float) (j : ℕ) where
    -- one place more, listed or skipped
    also_step : (m : ℕ) (x : Float) (l : List ℕ) (s : List Float) → x ≡ squared_diff_norm a (g (j + m)) → run_on (place_step j) (also (not (past_end ends x)) l m) s ≡ place_step j m (run_on (place_step j) l s)
    also_step m x l s e = go (past_end ends x) refl
      where
        go : (b : Bool) → past_end ends x ≡ b → run_on (place_step j) (also (not b) l m) s ≡ place_step j m (run_on (place_step j) l s)
        go true p = skipped (g (j + m)) _ (bin_past setup.edges ends x own p ∙ ap (built_bin setup.edges) e)
        go false p = run_append (place_step j) l (m ∷ []) s

    kept_row : (m : ℕ) (s : List Float) → ((e : ℕ) → e < m → get_or d e nan ≡ squared_diff_norm a (g (j + e))) → run_on (place_step j) (kept_below ends d m) s ≡ row_added setup a g j m s
    unfolding kept_below
    kept_row zero s h = row_none j s
    kept_row (suc m) s h =
        also_step m (get_or d m nan) (kept_below ends d m) s (h m (omega arith)) ∙ ap (place_step j m) (kept_row m s (λ e p. h e (omega arith))) ∙ sym (row_snoc j m s)

  -- a batch done of a row
  pub batches_turn : (n : ℕ) (z : List Float) (j m : ℕ) (s q : List Float) → j < n → m ≤ n - j → q ≡ row_added setup a g j m s
      → row_added setup a g j (n - j) s ≡ z → row_added setup a g (j + m) (n - (j + m)) q ≡ z
  batches_turn n z j m s q h b e inv =
      let k : n - j ≡ m + (n - (j + m)) = omega arith in
      ap (row_added setup a g (j + m) (n - (j + m))) e ∙ sym (row_join j m (n - (j + m)) s) ∙ sym (ap (λ (x : ℕ). row_added setup a g j x s) k) ∙ inv

  -- ---- a batch: its listed pairs are the row's
  module _ (ends : Ends) (tabled : Tabled setup.edges ends) (d : List Float) (m j : ℕ) (distant : (e : ℕ) → e < m → get_or d e nan ≡ squared_diff_norm a (g (j + e))) (values : List ℕ) where
    abbrev listed : List ℕ
    listed = kept_below ends d m

    abbrev reading : ℕ → Reading
    reading e = (g (j + e)).rd

    abbrev value : ℕ → Float
    value e = component_sum (datum_of (op_of setup.op) a.rd (reading e))

    abbrev number : Float → ℕ
    number x = number_in true setup.edges x

    -- a listed distance, which is past no end, has its bin's number
    listed_bin : (q : ℕ) → q < length listed → below setup.n_states (Some (number (get_or d (get_or listed q 0) nan))) ≡ built_bin setup.edges (squared_diff_norm a (g (j + get_or listed q 0)))
    listed_bin =
        kept_all (λ e. below setup.n_states (Some (number (get_or d e nan))) ≡ built_bin setup.edges (squared_diff_norm a (g (j + e)))) ends d m
        (λ e l y. ap (λ (n : ℕ). below n (Some (number (get_or d e nan)))) setup.usable.states ∙ inside_bin setup.edges ends tabled (get_or d e nan) y ∙ ap (built_bin setup.edges) (distant e l))

    pair_placed_law : (q : ℕ) → q < length listed → (t : List Float)
        → pair_placed setup (get_or (value_numbers (value_edges setup.reducer) (map value listed) values) q 0)
        (numbered_pair setup a.rd (g (j + get_or listed q 0)).rd (get_or (map number (map (λ e. get_or d e nan) listed)) q 0)) t
        ≡ place_step j (get_or listed q 0) t
    unfolding pair_step built_pair
    pair_placed_law q h t =
        let e = get_or listed q 0 in
        let v = get_or (value_numbers (value_edges setup.reducer) (map value listed) values) q 0 in
        ap (λ (x : ℕ). pair_placed setup v (numbered_pair setup a.rd (g (j + e)).rd x) t) (at_maps (λ e. get_or d e nan) number listed q 0 nan 0 h)
        ∙ numbered setup a.rd (g (j + e)).rd v t (number (get_or d e nan)) (built_bin setup.edges (squared_diff_norm a (g (j + e)))) (listed_bin q h)
        (λ r k. value_at (value_edges setup.reducer) r value listed values q h k)

    listed_row : (s : List Float) → places_added setup a.rd reading listed (picked d listed) values s ≡ row_added setup a g j m s
    unfolding places_added picked pair_values
    listed_row s =
        placed_all setup a.rd reading listed (map number (map (λ e. get_or d e nan) listed)) (value_numbers (value_edges setup.reducer) (map value listed) values) (place_step j) pair_placed_law s
        ∙ kept_row ends tabled.ends d j m s distant

    -- r reads the batch
    pub batch_row : (r : ℕ → Reading) (places : List ℕ) (x s q : List Float) → r ≡ reading → places ≡ listed → x ≡ picked d listed → q ≡ places_added setup a.rd r places x values s → q ≡ row_added setup a g j m s
    batch_row r places x s q b e k h = h ∙ (λ i. places_added setup a.rd (b i) (e i) (k i) values s) ∙ listed_row s

-- ---- parts of the slices: place e of `&l[k..]` is place k + e of l, for every e
abbrev part : ℕ → List Float → List Float
part k l = take (length l - k) (drop k l)

part_is : (k : ℕ) (l : List Float) → part k l ≡ drop k l
part_is k l = ap (λ (n : ℕ). take n (drop k l)) (sym (length-drop k l)) ∙ take-length (drop k l)

part_length : (k : ℕ) (l : List Float) → length (part k l) ≡ length l - k
part_length k l = ap length (part_is k l) ∙ length-drop k l

part_at : (k : ℕ) (l : List Float) (e : ℕ) → at (part k l) e ≡ at l (k + e)
part_at k l e = ap (λ (x : List Float). at x e) (part_is k l) ∙ get_or-drop k l e nan

-- the points of a set from j on
module _ (set : Points) (j : ℕ) where
  pub parts_held : Parts (part j set.values.now) (part (set.stride + j) set.values.now) (part (2 * set.stride + j) set.values.now) (part j set.weights.now)
  parts_held =
      let s = set.held in
      let w : length (part j set.weights.now) ≤ set.n - j = omega (arith, s.weights, part_length j set.weights.now) in
      record {
        few = omega (arith, w, s.few);
        in0 = omega (arith, w, s.inside, s.values, part_length j set.values.now);
        in1 = omega (arith, w, s.inside, s.values, part_length (set.stride + j) set.values.now);
        in2 = omega (arith, w, s.inside, s.values, part_length (2 * set.stride + j) set.values.now);
      }

  pub parts_weights : (m : ℕ) → j + m ≤ set.n → m ≤ length (part j set.weights.now)
  parts_weights m h = omega (arith, h, set.held.weights, part_length j set.weights.now)

  pub parts_read : (r : Readings) → r.c0.now ≡ part j set.values.now → r.c1.now ≡ part (set.stride + j) set.values.now → r.c2.now ≡ part (2 * set.stride + j) set.values.now
      → r.w.now ≡ part j set.weights.now → reading_in r ≡ (λ (e : ℕ). (point_in set (j + e)).rd)
  unfolding reading_in point_in
  parts_read r p0 p1 p2 pw = λ i e. record {
    v0 = (ap (λ l. at l e) p0 ∙ part_at j set.values.now e) i;
    v1 = (ap (λ l. at l e) p1 ∙ later set.stride e) i;
    v2 = (ap (λ l. at l e) p2 ∙ later (2 * set.stride) e) i;
    w = (ap (λ l. at l e) pw ∙ part_at j set.weights.now e) i;
  }
    where
      later : (k e : ℕ) → at (part (k + j) set.values.now) e ≡ at set.values.now (k + (j + e))
      later k e = part_at (k + j) set.values.now e ∙ ap (at set.values.now) (omega arith)

-- ---- values
module _ (x : Reading) (r : ℕ → Reading) (op : PairOperation) where
  pub values_are : (places : List ℕ) (d : List Float) → length d ≡ length places → ((q : ℕ) → q < length places → get_or d q nan ≡ component_sum (datum_of (op_of op) x (r (get_or places q 0))))
      → d ≡ pair_values x r op places
  unfolding pair_values
  values_are places d e h =
      ext_get_or nan d (map (λ p. component_sum (datum_of (op_of op) x (r p))) places) (e ∙ sym (length-map places _))
      (λ q l. h q (omega arith) ∙ sym (at_map (λ p. component_sum (datum_of (op_of op) x (r p))) places q 0 nan (omega arith)))

-- ---- lookups
module _ (o : Option Lookup) (x : List Float) (found v : List ℕ) where
  pub some_numbers : (t : Lookup) → o ≡ Some t → v ≡ map (number_in false t.edges) x → v ≡ value_numbers (option_map (λ e. e.edges) o) x found
  some_numbers t h e = e ∙ (λ i. value_numbers (option_map (λ (y : Lookup). y.edges) (sym h i)) x found)

  pub no_numbers : o ≡ None → v ≡ found → v ≡ value_numbers (option_map (λ e. e.edges) o) x found
  no_numbers h e = e ∙ (λ i. value_numbers (option_map (λ (y : Lookup). y.edges) (sym h i)) x found)

-- of the distances d, by edges e, and of the values, by value edges o
pub places_added_law : (setup : Setup) (e : BuiltEdges) (o : Option BuiltEdges) (x : Reading) (r : ℕ → Reading) (places : List ℕ) (d : List Float) (bins values found : List ℕ) (s q : List Float)
    → e ≡ setup.edges → o ≡ value_edges setup.reducer → bins ≡ map (number_in true e) d → found ≡ value_numbers o (pair_values x r setup.op places) values
    → q ≡ placed_to x r setup places bins found (length places) s → q ≡ places_added setup x r places d values s
unfolding places_added
places_added_law setup e o x r places d bins values found s q k m f g h =
    h
    ∙ (λ i. placed_to x r setup places ((f ∙ ap (λ (y : BuiltEdges). map (number_in true y) d) k) i) ((g ∙ ap (λ (y : Option BuiltEdges). value_numbers y (pair_values x r setup.op places) values) m) i) (length places) s)

-- ---- few points: the pairs of a row, one after the other
module _ (setup : Setup) (a : points.Point) (g : ℕ → points.Point) (n : ℕ) (z : List Float) where
  pub row_turn : (j : ℕ) (b : points.Point) (s q : List Float) → j < n → b ≡ g j → q ≡ pair_step setup (a, b) s → row_added setup a g j (n - j) s ≡ z → row_added setup a g (j + 1) (n - (j + 1)) q ≡ z
  row_turn j b s q h e k inv =
      let d : n - j ≡ suc (n - (j + 1)) = omega arith in
      (rw (k, e, add-one j)) ∙ sym (row_cons setup a g j (n - (j + 1)) s) ∙ sym (ap (λ (x : ℕ). row_added setup a g j x s) d) ∙ inv

-- x is the distance, r the answer of `bin_of`
pub pair_at_law : (setup : Setup) (ends : Ends) (a b : points.Point) (x : Float) (r : Option ℕ) (p : Reducer.Pair) → Tabled setup.edges ends → x ≡ squared_diff_norm a b → r ≡ ends_bin setup.edges ends x
    → p ≡ pair_in r (datum_of (op_of setup.op) a.rd b.rd) → p ≡ built_pair setup a b
unfolding built_pair
pair_at_law setup ends a b x r p t e h k =
    k ∙ ap (λ (o : Option ℕ). pair_in o (datum_of (op_of setup.op) a.rd b.rd)) (found_bin setup.edges ends (squared_diff_norm a b) r (h ∙ ap (ends_bin setup.edges ends) e) t (is_true _ (add-fits binary64 _ _)))

-- o is what a lookup of the pair's value by the value edges' own ends returned
pub value_at_law : (setup : Setup) (edges : BuiltEdges) (ends : Ends) (d : Datum) (x : Float) (o : Option ℕ) → setup.reducer ≡ ComponentSumHistogram edges → ends ≡ ends_of edges
    → x ≡ component_sum d → o ≡ ends_bin edges ends x → o ≡ value_bin setup.reducer d
value_at_law setup edges ends d x o r e ev h =
    let u = rw r at setup.usable.values_usable in
    found_bin edges ends (component_sum d) o (h ∙ ap (ends_bin edges ends) ev) (tabled_ends edges ends u e) (is_true _ (add-fits binary64 _ _)) ∙ ap (λ (k : BuiltReducer). value_bin k d) (sym r)

-- o is the bin of the pair's value
looked_up : (setup : Setup) (p : Reducer.Pair) (s : List Float) → pair_added setup.reducer (pair_value_bin setup.reducer p) setup.n_states p s ≡ pair_consumed setup p s
unfolding consumed
looked_up setup (kept b d) s = refl
looked_up setup dropped s = refl

pub one_added : (setup : Setup) (a b : points.Point) (pair : Pair) (o : Option ℕ) (s q : List Float) → the_pair pair ≡ built_pair setup a b → o ≡ pair_value_bin setup.reducer (the_pair pair)
    → q ≡ pair_added setup.reducer o setup.n_states (the_pair pair) s → q ≡ pair_step setup (a, b) s
unfolding pair_step
one_added setup a b pair o s q e v h =
    h ∙ ap (λ (x : Option ℕ). pair_added setup.reducer x setup.n_states (the_pair pair) s) v ∙ looked_up setup (the_pair pair) s ∙ ap (λ p. pair_consumed setup p s) e

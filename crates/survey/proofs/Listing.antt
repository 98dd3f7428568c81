-- The listing of a block has the block's cells for its points and meets no number, so every accepted grid of at most 4,096 cells per block can be replaced by it. Assumes nothing.
use mathlib.Core.Path.{◌≡◌, refl, sym, ap, ◌∙◌}
use mathlib.Core.List.{List, [], ◌∷◌, ◌++◌, map, append-nil}
use Prim.Native.Nat.{ℕ, zero, suc, ◌+◌, ◌*◌, ◌^◌, ◌≤◌, ◌<◌}
use native.Mathlib.Nat.{add-zero, le_refl, mul-mod_left, mul-div_cancel}
use native.Mathlib.Omega.{arith}
use lib.Dec.{T}
use lib.ListN.{length, get_or, length-map, length-append}
use lib.Seq.{get_or-append-add}
use lib.IntN.{ℤ, nat_abs}
use lib.Ieee.{Float, nan, binary64, of_int}
use borrow.Author.Tests.{le-ltb, eq-eqb, ne_eqb}
use Rattle.definitions.specs.Lists.{at, range, All}
use Rattle.definitions.specs.Points.{Point, point_at, points}
use Rattle.definitions.specs.Blocks.{CartesianBlock, CellWidth, Cell, cell, cells_of, reading_at}
use Rattle.definitions.specs.Run.{Sets, one_points, two_points, one_block, two_blocks, Run}
use Rattle.definitions.specs.Rules.{accepted}
use Rattle.definitions.specs.Survey.{point_z, reading_z, coordinate, cell_point, cloud, Near, WholeReading, WholePoint, Reads, listed, pairs, SurveyRun}
use Rattle.laws.proofs.WholeFloats.{Whole, of_int_plain, int_of_law, is_whole_law}
use Rattle.laws.proofs.Lists.{append_get}
use Rattle.survey.specs.Demand3.{with_sets, ListedBlock, ListedSets, one_listed, two_listed, Replaced, grid, components, listing, list_sets, SmallGrid}
use Rattle.survey.proofs.Blocks.{HasCells}
use Rattle.survey.proofs.RunExact.{SetsOk}
use Rattle.survey.proofs.Accepted.{accepted_sets, some_cells}

-- ---- reading a table of cells back
get_map : {A : Type 0} (f : A → Float) (l : List A) (m : List Float) (i : ℕ) (d : A) → i < length l → at (map f l ++ m) i ≡ f (get_or l i d)
get_map f [] m i d h = absurd (omega arith)
get_map f (c ∷ l) m zero d h = refl
get_map f (c ∷ l) m (suc i) d h = get_map f l m i d (omega arith)

get_past : {A : Type 0} (f : A → Float) (l : List A) (m : List Float) (i : ℕ) → at (map f l ++ m) (length l + i) ≡ at m i
get_past f l m i = ap (λ (n : ℕ). at (map f l ++ m) (n + i)) (sym (length-map l f)) ∙ get_or-append-add (map f l) m i nan

map_range : {A B : Type 0} (f : ℕ → B) (g : A → B) (d : A) (l : List A) (k : ℕ) → ((i : ℕ) → i < length l → f (k + i) ≡ g (get_or l i d)) → map f (range k (length l)) ≡ map g l
map_range f g d [] k h = refl
map_range f g d (c ∷ l) k h = λ i. (ap f (sym (add-zero k)) ∙ h 0 (omega arith)) i ∷ map_range f g d l (suc k) (λ j q. ap f (omega arith) ∙ h (suc j) (omega arith)) i

module _ (f g h : Cell → Float) (l : List Cell) (i : ℕ) (d : Cell) (k : i < length l) where
  get_last : at (map h l) i ≡ h (get_or l i d)
  get_last = ap (λ (m : List Float). at m i) (sym (append-nil (map h l))) ∙ get_map h l [] i d k

  at0 : at (components f g h l) i ≡ f (get_or l i d)
  at0 = get_map f l (map g l ++ map h l) i d k

  at1 : at (components f g h l) (length l + i) ≡ g (get_or l i d)
  at1 = get_past f l (map g l ++ map h l) i ∙ get_map g l (map h l) i d k

  at2 : at (components f g h l) (2 * length l + i) ≡ h (get_or l i d)
  at2 = ap (at (components f g h l)) (omega arith) ∙ get_past f l (map g l ++ map h l) (length l + i) ∙ get_past g l (map h l) i ∙ get_last

three_lengths : (f g h : Cell → Float) (l : List Cell) → length (components f g h l) ≡ 3 * length l
three_lengths f g h l = length-append (map f l) (map g l ++ map h l) ∙ (λ j. length-map l f j + (length-append (map g l) (map h l) ∙ (λ i. length-map l g i + length-map l h i)) j) ∙ omega arith

-- ---- the listing's points
module _ (w : CellWidth) (a : CartesianBlock) where
  abbrev listed_point : Cell → Point
  listed_point c = record {
    c0 = of_int binary64 (coordinate a.gz c.z w.wz);
    c1 = of_int binary64 (coordinate a.gy c.y w.wy);
    c2 = of_int binary64 (coordinate a.gx c.x w.wx);
    rd = reading_at a c;
  }

  listing_points : points (listing w a) ≡ map listed_point (cells_of a)
  listing_points =
      let l = cells_of a in
      let o = cell 0 0 0 in
      let x : Cell → Float = λ c. (listed_point c).c0 in
      let y : Cell → Float = λ c. (listed_point c).c1 in
      let z : Cell → Float = λ c. (listed_point c).c2 in
      let v0 : Cell → Float = λ c. (reading_at a c).v0 in
      let v1 : Cell → Float = λ c. (reading_at a c).v1 in
      let v2 : Cell → Float = λ c. (reading_at a c).v2 in
      map_range (point_at (listing w a)) listed_point o l 0 (λ i h. ap (point_at (listing w a)) (omega arith) ∙ (λ j. record {
        c0 = at0 x y z l i o h j;
        c1 = at1 x y z l i o h j;
        c2 = at2 x y z l i o h j;
        rd = record { v0 = at0 v0 v1 v2 l i o h j; v1 = at1 v0 v1 v2 l i o h j; v2 = at2 v0 v1 v2 l i o h j; w = get_last v0 v1 (λ c. (reading_at a c).w) l i o h j };
      }))

  -- a coordinate that is near is exact
  near_whole : (z : ℤ) → nat_abs z ≤ 2 ^ 24 → Whole (of_int binary64 z) z
  near_whole z h = (of_int_plain z (omega arith)).whole

  same_points : (l : List Cell) → All Near (map (cell_point w a) l) → map point_z (map listed_point l) ≡ map (cell_point w a) l
  same_points [] h = refl
  same_points (c ∷ l) h = λ i.
      record {
        c0 = int_of_law (near_whole (coordinate a.gz c.z w.wz) h.0.c0) i;
        c1 = int_of_law (near_whole (coordinate a.gy c.y w.wy) h.0.c1) i;
        c2 = int_of_law (near_whole (coordinate a.gx c.x w.wx) h.0.c2) i;
        rd = reading_z (reading_at a c);
      } ∷ same_points l h.1 i

  whole_points : (l : List Cell) → All Near (map (cell_point w a) l) → All (λ c. WholeReading (reading_at a c)) l → All WholePoint (map listed_point l)
  whole_points [] h k = tt
  whole_points (c ∷ l) h k = (
    record {
      c0 = is_whole_law (near_whole (coordinate a.gz c.z w.wz) h.0.c0);
      c1 = is_whole_law (near_whole (coordinate a.gy c.y w.wy) h.0.c1);
      c2 = is_whole_law (near_whole (coordinate a.gx c.x w.wx) h.0.c2);
      rd = k.0;
    },
    whole_points l h.1 k.1,
  )

-- ---- it meets no number
listing_block : (w : CellWidth) (a : CartesianBlock) → HasCells a → length (cells_of a) ≤ 4096 → All (λ c. WholeReading (reading_at a c)) (cells_of a)
    → All Near (map (cell_point w a) (cells_of a)) → ListedBlock w a (listing w a)
listing_block w a c few x y =
    let l = cells_of a in
    let n = length l in
    let some : 0 < n = some_cells a c in
    let values = three_lengths (λ c. (reading_at a c).v0) (λ c. (reading_at a c).v1) (λ c. (reading_at a c).v2) l in
    let positions = three_lengths (λ c. (listed_point w a c).c0) (λ c. (listed_point w a c).c1) (λ c. (listed_point w a c).c2) l in
    record {
      judged = rw (
        values,
        positions,
        length-map l (λ c. (reading_at a c).w),
        le-ltb 4096 n few,
        le-ltb 8192 n (omega arith),
        ne_eqb n 0 (λ e. omega arith),
        le-ltb n n (le_refl n),
        eq-eqb (3 * n) (3 * n) refl,
        mul-mod_left 3 n,
        mul-div_cancel 3 some,
        eq-eqb n n refl,
      );
      whole = rw (listing_points w a) (whole_points w a l y x);
      cells = ap (map point_z) (listing_points w a) ∙ same_points w a l y;
    }

listing_sets : (s : Sets) → SetsOk s → SmallGrid s → (0 < pairs (cloud s) → Reads s) → (0 < pairs (cloud s) → All Near (listed (cloud s))) → ListedSets s (list_sets s)
unfolding cloud
listing_sets (one_points s) o m x y = absurd m
listing_sets (two_points s t) o m x y = absurd m
listing_sets (one_block w a) o m x y = one_listed (listing_block w a o.1 m (x o.2).1 (y o.2))
listing_sets (two_blocks w a b) o m x y =
    let n = append_get Near (map (cell_point w a) (cells_of a)) (map (cell_point w b) (cells_of b)) (y o.3) in
    two_listed (listing_block w a o.1 m.0 (x o.3).1 n.0) (listing_block w b o.2 m.1 (x o.3).2 n.1)

pub listing_replaces : (n : ℕ) (r : Run) → (T (accepted r n) → SurveyRun r) → T (accepted r n) → SmallGrid r.sets → Replaced n r (with_sets r (list_sets r.sets))
listing_replaces n r v o m = grid o (listing_sets r.sets (accepted_sets r n o) m (v o).reads (v o).near)

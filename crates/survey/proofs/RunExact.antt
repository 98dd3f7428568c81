-- One accepted whole-number survey: each total of its scratch pack is what the book adds there, as `of_int`, and that is at most the run's cost in size. Assumes nothing.
use mathlib.Core.Path.{◌≡◌, refl, sym, ap, ◌∙◌}
use Rattle.std.specs.Prelude.{Option, None, Some}
use mathlib.Core.List.{List, [], ◌∷◌, map}
use mathlib.Core.Bool.{Bool, true, false, cond}
use Prim.Native.Nat.{ℕ, ◌*◌, ◌≤◌, ◌<◌, zero-le}
use native.Mathlib.Nat.{le_trans, mul_comm, le-mul_of_pos_right}
use native.Mathlib.Omega.{arith}
use lib.Dec.{eqb}
use lib.ListN.{length, length-map}
use lib.IntN.{ℤ, pos, nat_abs}
use lib.Ieee.{Float, binary64, of_int}
use Rattle.definitions.specs.Lists.{All, later_pairs, all_pairs, fold_at, sum_by}
use Rattle.definitions.specs.Floats.{zero_f}
use Rattle.definitions.specs.Bins.{bins, bin_of}
use Rattle.definitions.specs.Points.{Point, points, squared_diff_norm}
use Rattle.definitions.specs.Blocks.{CartesianBlock, CellWidth, Cell, Idx3DOffset, reading_at, cells_of, offsets_of, is_after, cell_pairs, distance_squared}
use Rattle.definitions.specs.Reducer.{PairOperation, Kind, datum_of, datum_term}
use Rattle.definitions.specs.Run.{Sets, one_points, two_points, one_block, two_blocks, Run, pair_at, cells_at, offset_at, scratch_of, scratch, state_at, number_at}
use Rattle.definitions.specs.Survey.{PointZ, reading_z, point_z, cell_point, Cloud, one, two, cloud, cloud_sum, distance_z, when_z, in_bin_z, readings_z, pair_z, added, WholeReading, WholePoint, WholeWidths, Reads, Near, listed, NoZeroKind, pairs, SurveyRun, value_size, big_v, big_w, unit, cost}
use Rattle.laws.proofs.WholeFloats.{limit, of_int_plain}
use Rattle.laws.proofs.Sums.{size_by, nat_sum, sum_by_size, nat_sum_le, nat_sum_most, nat_sum_pos, nat_sum_map, sum_by_map, sum_by_all, sum_by_congr, sum_by_zero, later_sum, cross_sum_law}
use Rattle.laws.proofs.Lists.{on, both, Both, all_imp, all_and, all_if, append_get, map_get, largest_all, later_length, later_all, later_map, cross_length, cross_all, cross_map}
use Rattle.laws.proofs.Folds.{Gives, fold_zero}
use Rattle.survey.proofs.Pairs.{Within, Sizes, sizes, term_le, in_bin_gives, in_bin_le, datum_gives, pair_term_law, distance_is}
use Rattle.survey.proofs.Blocks.{HasCells, WideWidths, Covers, cross_covers, auto_covers, at_offset, block_distance}

-- ---- the pairs of a cloud
abbrev pub cloud_pairs : Cloud → List (PointZ × PointZ)
cloud_pairs (one l) = later_pairs l
cloud_pairs (two l m) = all_pairs l m

cloud_sum_law : (f : PointZ → PointZ → ℤ) (c : Cloud) → sum_by (on f) (cloud_pairs c) ≡ cloud_sum f c
cloud_sum_law f (one l) = later_sum f l
cloud_sum_law f (two l m) = cross_sum_law f l m

cloud_length : (c : Cloud) → length (cloud_pairs c) ≡ pairs c
cloud_length (one l) = later_length l
cloud_length (two l m) = cross_length l m

cloud_all : (P : PointZ → Type 0) (c : Cloud) → All P (listed c) → All (Both P P) (cloud_pairs c)
cloud_all P (one l) h = later_all P l h
cloud_all P (two l m) h = let k = append_get P l m h in cross_all P P l m k.0 k.1

within_all : (c : Cloud) → All (Within (big_v c) (big_w c)) (listed c)
within_all c =
    all_and (λ a. value_size a ≤ big_v c) (λ a. nat_abs a.rd.w ≤ big_w c) (listed c) (largest_all value_size (big_v c) (listed c) (omega arith))
    (largest_all (λ a. nat_abs a.rd.w) (big_w c) (listed c) (omega arith))

-- what is known of each point that a run reads
abbrev Good : Cloud → PointZ → Type 0
Good c z = Near z × Within (big_v c) (big_w c) z

good_all : (c : Cloud) → All Near (listed c) → All (Good c) (listed c)
good_all c h = all_and Near (Within (big_v c) (big_w c)) (listed c) h (within_all c)

with_good : {A : Type 0} (c : Cloud) (P : A → Type 0) (g : A → PointZ) (l : List A) → All P l → All (Good c) (map g l) → All (λ a. P a × Good c (g a)) l
with_good c P g l x y = all_and P (λ a. Good c (g a)) l x (map_get (Good c) g l y)

pair_sizes : (k : Kind) (op : PairOperation) (c : Cloud) (a b : PointZ) → Within (big_v c) (big_w c) a → Within (big_v c) (big_w c) b → Sizes (unit c) k op a.rd b.rd
pair_sizes k op c a b p q = sizes k op (big_v c) (big_w c) (omega arith) (omega arith) a b p q

in_bin_z_sum : {A : Type 0} (o : Option ℕ) (s : ℕ) (f : A → ℤ) (l : List A) → in_bin_z o s (sum_by f l) ≡ sum_by (λ x. in_bin_z o s (f x)) l
in_bin_z_sum None s f l = sym (sum_by_zero l)
in_bin_z_sum (Some i) s f l = go (eqb i s)
  where
    go : (t : Bool) → cond t (sum_by f l) (pos 0) ≡ sum_by (λ x. cond t (f x) (pos 0)) l
    go true = refl
    go false = sym (sum_by_zero l)

when_pos : {A : Type 0} (t : Bool) (f : A → ℤ) (l : List A) → pos (cond t (size_by f l) 0) ≡ when_z t (sum_by (λ x. pos (nat_abs (f x))) l)
when_pos true f l = sym (nat_sum_pos (λ x. nat_abs (f x)) l)
when_pos false f l = refl

-- what the pairs of a run add is at most its cost, with a bin or not
module _ (r : Run) (p : ℕ) (c : Cloud) where
  abbrev load : PointZ × PointZ → ℤ
  load q = readings_z r p q.0.rd q.1.rd

  load_le : size_by load (cloud_pairs c) ≤ unit c * pairs c
  load_le =
      let W = Within (big_v c) (big_w c) in
      let e = number_at (bins r.edges) p in
      rw (mul_comm (unit c) (pairs c), ← cloud_length c)
      (nat_sum_most (λ q. nat_abs (load q)) (unit c) (cloud_pairs c) (all_imp (Both W W) (λ q. nat_abs (load q) ≤ unit c)
      (λ q h. term_le (unit c) r.op r.kind e q.0.rd q.1.rd (pair_sizes r.kind r.op c q.0 q.1 h.0 h.1)) (cloud_pairs c) (cloud_all W c (within_all c))))

  binned_le : (a b : PointZ) → nat_abs (pair_z r p a b) ≤ nat_abs (load (a, b))
  binned_le a b = in_bin_le (bin_of r.edges (of_int binary64 (distance_z a b))) (state_at (bins r.edges) p) (load (a, b))

  pair_le : size_by (on (pair_z r p)) (cloud_pairs c) ≤ unit c * pairs c
  pair_le = le_trans (nat_sum_le (λ q. nat_abs (on (pair_z r p) q)) (λ q. nat_abs (load q)) (λ q. binned_le q.0 q.1) (cloud_pairs c)) load_le

  sum_le : nat_abs (cloud_sum (pair_z r p) c) ≤ unit c * pairs c
  sum_le = rw (← cloud_sum_law (pair_z r p) c) (le_trans (sum_by_size (on (pair_z r p)) (cloud_pairs c)) pair_le)

  module _ (h : unit c * pairs c ≤ limit) (nz : NoZeroKind r.kind) where
    few : 0 < pairs c → unit c ≤ limit
    few k = le_trans (le-mul_of_pos_right (unit c) k) h

    -- ---- runs over points
    abbrev OkPoint : Point → Type 0
    OkPoint a = WholePoint a × Good c (point_z a)

    point_gives : unit c ≤ limit → (q : Point × Point) → Both OkPoint OkPoint q → Gives (pair_at r p q) (on (pair_z r p) (both point_z point_z q))
    point_gives m q o =
        let s = state_at (bins r.edges) p in
        let e = number_at (bins r.edges) p in
        let d = datum_of r.op q.0.rd q.1.rd in
        rw (pair_term_law r.kind s e (bin_of r.edges (squared_diff_norm q.0 q.1)) d, distance_is q.0 q.1 o.0.0 o.1.0 o.0.1.0 o.1.1.0)
        (in_bin_gives (bin_of r.edges (of_int binary64 (distance_z (point_z q.0) (point_z q.1)))) s (datum_term r.kind e d) (load (both point_z point_z q))
        (datum_gives (unit c) m r.op q.0.rd q.1.rd o.0.0.rd o.1.0.rd r.kind nz
        (pair_sizes r.kind r.op c (point_z q.0) (point_z q.1) o.0.1.1 o.1.1.1) e))

    points_exact : (l : List (Point × Point)) → cloud_pairs c ≡ map (both point_z point_z) l → (0 < pairs c → All (Both OkPoint OkPoint) l)
        → fold_at (pair_at r p) (zero_f false) l ≡ of_int binary64 (cloud_sum (pair_z r p) c)
    points_exact l e o =
        let f : Point × Point → ℤ = λ q. on (pair_z r p) (both point_z point_z q) in
        let n : length l ≡ pairs c = sym (length-map l (both point_z point_z)) ∙ ap length (sym e) ∙ cloud_length c in
        let b : size_by f l ≤ unit c * pairs c = rw (← nat_sum_map (both point_z point_z) (λ q. nat_abs (on (pair_z r p) q)) l, ← e) pair_le in
        fold_zero (pair_at r p) f l (all_if (λ q. Gives (pair_at r p q) (f q)) l (λ k.
        let k' = rw n at k in
        all_imp (Both OkPoint OkPoint) (λ q. Gives (pair_at r p q) (f q)) (point_gives (few k')) l (o k'))) (le_trans b h)
        ∙ ap (of_int binary64) (sym (sum_by_map (both point_z point_z) (on (pair_z r p)) l) ∙ ap (sum_by (on (pair_z r p))) (sym e) ∙ cloud_sum_law (pair_z r p) c)

    -- ---- runs over blocks: the offsets that are taken have the pairs `ps` of cells
    module _ (m : unit c ≤ limit) (w : CellWidth) (ww : WholeWidths w) (wide : WideWidths w) (a b : CartesianBlock) where
      abbrev OkCell : CartesianBlock → Cell → Type 0
      OkCell x e = WholeReading (reading_at x e) × Good c (cell_point w x e)

      abbrev read : Cell → Cell → ℤ
      read d e = readings_z r p (reading_z (reading_at a d)) (reading_z (reading_at b e))

      abbrev pair_q : Cell → Cell → ℤ
      pair_q d e = pair_z r p (cell_point w a d) (cell_point w b e)

      abbrev Fit : Idx3DOffset → Cell × Cell → Type 0
      Fit d q = OkCell a q.0 × OkCell b q.1 × (distance_squared w a b d ≡ of_int binary64 (distance_z (cell_point w a q.0) (cell_point w b q.1)))

      cells_give : (d : Idx3DOffset) (q : Cell × Cell) → Fit d q → Gives (cells_at r p a b q) (on read q)
      cells_give d q o =
          datum_gives (unit c) m r.op (reading_at a q.0) (reading_at b q.1) o.0.0 o.1.0 r.kind nz
          (pair_sizes r.kind r.op c (cell_point w a q.0) (cell_point w b q.1) o.0.1.1 o.1.1.1) (number_at (bins r.edges) p)

      module _ (oa : All (OkCell a) (cells_of a)) (ob : All (OkCell b) (cells_of b)) where
        -- one offset: its bin is that of each of its pairs
        offset_gives : (d : Idx3DOffset) → size_by (on read) (cell_pairs a b d) ≤ limit → Gives (offset_at r p w a b d) (sum_by (on pair_q) (cell_pairs a b d))
        offset_gives d k =
            let l = cell_pairs a b d in
            let bin = bin_of r.edges (distance_squared w a b d) in
            let s = state_at (bins r.edges) p in
            let fit : All (Fit d) l = at_offset (OkCell a) (OkCell b) (Fit d) a b d oa ob (λ i j n x y. (x, y, block_distance w a b d ww wide i j n x.1.0 y.1.0)) in
            let total = fold_zero (cells_at r p a b) (on read) l (all_imp (Fit d) (λ q. Gives (cells_at r p a b q) (on read q)) (cells_give d) l fit) k in
            let z = sum_by (on read) l in
            let e : in_bin_z bin s z ≡ sum_by (on pair_q) l =
            in_bin_z_sum bin s (on read) l ∙ sum_by_all (λ q. in_bin_z bin s (on read q)) (on pair_q) l
            (all_imp (Fit d) (λ q. in_bin_z bin s (on read q) ≡ on pair_q q) (λ q o. ap (λ (x : Float). in_bin_z (bin_of r.edges x) s (on read q)) o.2) l fit) in
            rw (← e, total) (in_bin_gives bin s (Some (of_int binary64 z)) z (of_int_plain z (le_trans (sum_by_size (on read) l) k)).whole)

        module _ (take : Idx3DOffset → Bool) (ps : List (Cell × Cell)) (e : cloud_pairs c ≡ map (both (cell_point w a) (cell_point w b)) ps) (covers : Covers a b take ps) where
          abbrev part : Idx3DOffset → ℤ
          part d = when_z (take d) (sum_by (on pair_q) (cell_pairs a b d))

          abbrev weigh : Idx3DOffset → ℕ
          weigh d = cond (take d) (size_by (on read) (cell_pairs a b d)) 0

          -- all offsets together add as much as all pairs of cells do
          weigh_le : nat_sum weigh (offsets_of a b) ≤ limit
          weigh_le =
              let g : Cell → Cell → ℤ = λ d e. pos (nat_abs (read d e)) in
              let all : pos (nat_sum weigh (offsets_of a b)) ≡ pos (size_by (on read) ps) =
              sym (nat_sum_pos weigh (offsets_of a b))
              ∙ sum_by_congr (λ d. pos (weigh d)) (λ d. when_z (take d) (sum_by (on g) (cell_pairs a b d))) (λ d. when_pos (take d) (on read) (cell_pairs a b d)) (offsets_of a b)
              ∙ covers g ∙ nat_sum_pos (λ q. nat_abs (on read q)) ps in
              rw (ap nat_abs all, ← nat_sum_map (both (cell_point w a) (cell_point w b)) (λ q. nat_abs (load q)) ps, ← e) (le_trans load_le h)

          part_le : (d : Idx3DOffset) → nat_abs (part d) ≤ weigh d
          part_le d = go (take d)
            where
              go : (t : Bool) → nat_abs (when_z t (sum_by (on pair_q) (cell_pairs a b d))) ≤ cond t (size_by (on read) (cell_pairs a b d)) 0
              go true = le_trans (sum_by_size (on pair_q) (cell_pairs a b d))
                  (nat_sum_le (λ q. nat_abs (on pair_q q)) (λ q. nat_abs (on read q)) (λ q. binned_le (cell_point w a q.0) (cell_point w b q.1)) (cell_pairs a b d))
              go false = zero-le

          part_gives : (ds : List Idx3DOffset) → nat_sum weigh ds ≤ limit → All (λ d. Gives (cond (take d) (offset_at r p w a b d) None) (part d)) ds
          part_gives [] k = tt
          part_gives (d ∷ ds) k = (go (take d) (omega arith), part_gives ds (omega arith))
            where
              go : (t : Bool) → cond t (size_by (on read) (cell_pairs a b d)) 0 ≤ limit → Gives (cond t (offset_at r p w a b d) None) (when_z t (sum_by (on pair_q) (cell_pairs a b d)))
              go true k = offset_gives d k
              go false k = refl

          blocks_exact : fold_at (λ d. cond (take d) (offset_at r p w a b d) None) (zero_f false) (offsets_of a b) ≡ of_int binary64 (cloud_sum (pair_z r p) c)
          blocks_exact =
              fold_zero (λ d. cond (take d) (offset_at r p w a b d) None) part (offsets_of a b) (part_gives (offsets_of a b) weigh_le)
              (le_trans (nat_sum_le (λ d. nat_abs (part d)) weigh part_le (offsets_of a b)) weigh_le)
              ∙ ap (of_int binary64) (covers pair_q ∙ sym (sum_by_map (both (cell_point w a) (cell_point w b)) (on (pair_z r p)) ps) ∙ ap (sum_by (on (pair_z r p))) (sym e) ∙ cloud_sum_law (pair_z r p) c)

-- ---- every run
-- what acceptance says of the sets: widths above zero, blocks with cells, and a pair (rules 20, 14 and 22)
abbrev pub SetsOk : Sets → Type 0
SetsOk (one_points s) = Unit {0}
SetsOk (two_points s t) = Unit {0}
SetsOk (one_block w a) = WideWidths w × HasCells a × (0 < pairs (cloud (one_block w a)))
SetsOk (two_blocks w a b) = WideWidths w × HasCells a × HasCells b × (0 < pairs (cloud (two_blocks w a b)))

exact_sets : (r : Run) (p : ℕ) (s : Sets) → NoZeroKind r.kind → SetsOk s → (0 < pairs (cloud s) → Reads s) → (0 < pairs (cloud s) → All Near (listed (cloud s)))
    → unit (cloud s) * pairs (cloud s) ≤ limit → scratch_of r p s ≡ of_int binary64 (cloud_sum (pair_z r p) (cloud s))
unfolding cloud scratch_of
exact_sets r p (one_points s) nz o x y h =
    let l = points s in
    let c = one (map point_z l) in
    points_exact r p c h nz (later_pairs l) (later_map point_z l) (λ k. later_all (OkPoint r p c h nz) l (with_good c WholePoint point_z l (x k) (good_all c (y k))))
exact_sets r p (two_points s t) nz o x y h =
    let l = points s in
    let m = points t in
    let c = two (map point_z l) (map point_z m) in
    points_exact r p c h nz (all_pairs l m) (cross_map point_z point_z l m) (λ k.
    let g = append_get (Good c) (map point_z l) (map point_z m) (good_all c (y k)) in
    cross_all (OkPoint r p c h nz) (OkPoint r p c h nz) l m (with_good c WholePoint point_z l (x k).0 g.0) (with_good c WholePoint point_z m (x k).1 g.1))
exact_sets r p (one_block w a) nz o x y h =
    let l = cells_of a in
    let c = one (map (cell_point w a) l) in
    let k = o.2 in
    let oa = with_good c (λ e. WholeReading (reading_at a e)) (cell_point w a) l (x k).1 (good_all c (y k)) in
    blocks_exact r p c h nz (few r p c h nz k) w (x k).0 o.0 a a oa oa is_after (later_pairs l) (later_map (cell_point w a) l) (auto_covers a o.1)
exact_sets r p (two_blocks w a b) nz o x y h =
    let l = cells_of a in
    let m = cells_of b in
    let c = two (map (cell_point w a) l) (map (cell_point w b) m) in
    let k = o.3 in
    let g = append_get (Good c) (map (cell_point w a) l) (map (cell_point w b) m) (good_all c (y k)) in
    let oa = with_good c (λ e. WholeReading (reading_at a e)) (cell_point w a) l (x k).1 g.0 in
    let ob = with_good c (λ e. WholeReading (reading_at b e)) (cell_point w b) m (x k).2 g.1 in
    blocks_exact r p c h nz (few r p c h nz k) w (x k).0 o.0 a b oa ob (λ d. true) (all_pairs l m) (cross_map (cell_point w a) (cell_point w b) l m) (cross_covers a b o.1)

pub run_exact : (r : Run) (p : ℕ) → SetsOk r.sets → SurveyRun r → cost r ≤ limit → (scratch r p ≡ of_int binary64 (added r p)) × (nat_abs (added r p) ≤ cost r)
unfolding scratch
run_exact r p o s h = (exact_sets r p r.sets s.edge o s.reads s.near h, sum_le r p (cloud r.sets))

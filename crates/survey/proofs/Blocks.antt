-- Blocks: summed over the offsets, and at each over its pairs of cells, is summed over the pairs of listed cells; what holds at one offset. Assumes nothing.
use mathlib.Core.Path.{◌≡◌, refl, sym, ap, ◌∙◌}
use mathlib.Core.List.{List, map}
use mathlib.Core.Bool.{Bool, true, false, not}
use Prim.Native.Nat.{ℕ, zero, suc, ◌+◌, ◌*◌, ◌^◌, ◌≤◌, ◌<◌}
use native.Mathlib.Nat.{le-mul_of_pos_right}
use native.Mathlib.Omega.{arith}
use lib.Dec.{T, T_not}
use lib.ListN.{length, length-map}
use lib.IntN.{ℤ, pos, negsuc, neg_ℤ, nat_abs, ◌+ℤ◌, ◌-ℤ◌, ◌*ℤ◌}
use lib.Ieee.{Float, binary64, le, of_int}
use Rattle.definitions.specs.Lists.{upto, flat_map, All, later_pairs, all_pairs, sum_by}
use Rattle.definitions.specs.Floats.{zero_f, int_of}
use Rattle.definitions.specs.Points.{square}
use Rattle.definitions.specs.Blocks.{CartesianBlock, CellWidth, Cell, cell, row, plane, cells, cells_of, offsets, start_a, start_b, count, Idx3DOffset, offsets_of, after, is_after, cell_pairs, displaced, distance_squared}
use Rattle.definitions.specs.Survey.{coordinate, cell_point, square_z, distance_z, when_z, WholeF, WholeWidths, Near}
use Rattle.laws.proofs.Integers.{up, dn, ext, parts, parts_neg, abs_sub, abs_mul, sub_mulℤ}
use Rattle.laws.proofs.WholeFloats.{limit, of_int_plain, mul_whole, whole_int}
use Rattle.laws.proofs.Zeros.{zero_whole, le_same_l}
use Rattle.laws.proofs.Sums.{sum_by_map, sum_by_flat_map, later_sum, cross_sum_law}
use Rattle.laws.proofs.Lists.{on, upto_all, upto_get, map_all, map_get, flat_all, flat_get, range_length, rows_length}
use Rattle.laws.proofs.Grid.{over3, diag3}
use Rattle.laws.proofs.Cells.{six, grid_cross, grid_auto}
use Rattle.survey.proofs.Pairs.{Square, square_of, blocks_sum}

-- ---- sums
offsets_sum : (a b : CartesianBlock) (h : Idx3DOffset → ℤ)
    → sum_by h (offsets_of a b) ≡ over3 a.nz a.ny a.nx b.nz b.ny b.nx (λ dz dy dx. h (record { dz = dz; dy = dy; dx = dx }))
offsets_sum a b h =
    let x = offsets a.nx b.nx in
    let y = offsets a.ny b.ny in
    let z = offsets a.nz b.nz in
    sum_by_flat_map h (λ dz. flat_map (λ dy. map (λ dx. record { dz = dz; dy = dy; dx = dx }) x) y) z
    ∙ (λ i. sum_by (λ dz. (
    sum_by_flat_map h (λ dy. map (λ dx. record { dz = dz; dy = dy; dx = dx }) x) y ∙ (λ j. sum_by (λ dy. sum_by_map (λ dx. record { dz = dz; dy = dy; dx = dx }) h x j) y)) i) z)

-- the k-th, l-th and m-th pair of cells on the three axes
abbrev pair : Idx3DOffset → ℕ → ℕ → ℕ → Cell × Cell
pair d k l m = (cell (start_a d.dz + k) (start_a d.dy + l) (start_a d.dx + m), cell (start_b d.dz + k) (start_b d.dy + l) (start_b d.dx + m))

module _ (a b : CartesianBlock) (d : Idx3DOffset) where
  abbrev cz : ℕ
  cz = count a.nz b.nz d.dz

  abbrev cy : ℕ
  cy = count a.ny b.ny d.dy

  abbrev cx : ℕ
  cx = count a.nx b.nx d.dx

  abbrev line : ℕ → ℕ → List (Cell × Cell)
  line k l = map (pair d k l) (upto cx)

  abbrev sheet : ℕ → List (Cell × Cell)
  sheet k = flat_map (line k) (upto cy)

  cell_sum : (f : Cell → Cell → ℤ) → sum_by (on f) (cell_pairs a b d) ≡ diag3 a.nz a.ny a.nx b.nz b.ny b.nx d.dz d.dy d.dx (six f)
  cell_sum f =
      sum_by_flat_map (on f) sheet (upto cz) ∙ (λ i. sum_by (λ k. (sum_by_flat_map (on f) (line k) (upto cy) ∙ (λ j. sum_by (λ l. sum_by_map (pair d k l) (on f) (upto cx) j) (upto cy))) i) (upto cz))

pub record HasCells (a : CartesianBlock) : Type 0 where
  pub z : 0 < a.nz
  pub y : 0 < a.ny
  pub x : 0 < a.nx

-- the offsets that a run takes have, all together, the pairs `ps` of cells
abbrev pub Covers : CartesianBlock → CartesianBlock → (Idx3DOffset → Bool) → List (Cell × Cell) → Type 0
Covers a b take ps = (f : Cell → Cell → ℤ) → sum_by (λ d. when_z (take d) (sum_by (on f) (cell_pairs a b d))) (offsets_of a b) ≡ sum_by (on f) ps

pub cross_covers : (a b : CartesianBlock) → HasCells a → Covers a b (λ d. true) (all_pairs (cells_of a) (cells_of b))
cross_covers a b h f =
    offsets_sum a b (λ d. sum_by (on f) (cell_pairs a b d))
    ∙ (λ i. over3 a.nz a.ny a.nx b.nz b.ny b.nx (λ dz dy dx. cell_sum a b (record { dz = dz; dy = dy; dx = dx }) f i))
    ∙ grid_cross a.nz a.ny a.nx b.nz b.ny b.nx f h.z h.y h.x ∙ sym (cross_sum_law f (cells_of a) (cells_of b))

pub auto_covers : (a : CartesianBlock) → HasCells a → Covers a a is_after (later_pairs (cells_of a))
auto_covers a h f =
    offsets_sum a a (λ d. when_z (is_after d) (sum_by (on f) (cell_pairs a a d)))
    ∙ (λ i. over3 a.nz a.ny a.nx a.nz a.ny a.nx (λ dz dy dx. when_z (after dz dy dx) (cell_sum a a (record { dz = dz; dy = dy; dx = dx }) f i)))
    ∙ grid_auto a.nz a.ny a.nx f h.z h.y h.x ∙ sym (later_sum f (cells_of a))

-- ---- the pairs of cells at an offset are cells of the blocks
cells_get : (P : Cell → Type 0) (nz ny nx : ℕ) → All P (cells nz ny nx) → (z y x : ℕ) → z < nz → y < ny → x < nx → P (cell z y x)
cells_get P nz ny nx h z y x hz hy hx =
    let pz = upto_get (λ z. All P (plane ny nx z)) nz (flat_get P (plane ny nx) (upto nz) h) z hz in
    let py = upto_get (λ y. All P (row nx z y)) ny (flat_get P (row nx z) (upto ny) pz) y hy in
    upto_get (λ x. P (cell z y x)) nx (map_get P (cell z y) (upto nx) py) x hx

in_range : (L M : ℕ) (d : ℤ) (k : ℕ) → k < count L M d → (start_a d + k < L) × (start_b d + k < M)
in_range L M (pos n) k h = omega arith
in_range L M (negsuc m) k h = omega arith

pub at_offset : (P Q : Cell → Type 0) (R : Cell × Cell → Type 0) (a b : CartesianBlock) (d : Idx3DOffset) → All P (cells_of a) → All Q (cells_of b)
    → ((k l m : ℕ) → P (pair d k l m).0 → Q (pair d k l m).1 → R (pair d k l m)) → All R (cell_pairs a b d)
at_offset P Q R a b d p q f =
    flat_all R (sheet a b d) (upto (cz a b d)) (upto_all (λ k. All R (sheet a b d k)) (cz a b d) (λ k hk.
    flat_all R (line a b d k) (upto (cy a b d)) (upto_all (λ l. All R (line a b d k l)) (cy a b d) (λ l hl.
    map_all R (pair d k l) (upto (cx a b d)) (upto_all (λ m. R (pair d k l m)) (cx a b d) (λ m hm.
    let z = in_range a.nz b.nz d.dz k hk in
    let y = in_range a.ny b.ny d.dy l hl in
    let x = in_range a.nx b.nx d.dx m hm in
    f k l m
    (cells_get P a.nz a.ny a.nx p (start_a d.dz + k) (start_a d.dy + l) (start_a d.dx + m) z.0 y.0 x.0)
    (cells_get Q b.nz b.ny b.nx q (start_b d.dz + k) (start_b d.dy + l) (start_b d.dx + m) z.1 y.1 x.1)))))))

pub cells_length : (nz ny nx : ℕ) → length (cells nz ny nx) ≡ nz * (ny * nx)
cells_length nz ny nx = rows_length (plane ny nx) (ny * nx) (λ z. rows_length (row nx z) nx (λ y. length-map (upto nx) (cell z y) ∙ range_length 0 nx) 0 ny) 0 nz

-- ---- the squared distance of an offset is that of each of its pairs of cells
start_parts : (d : ℤ) → (start_b d ≡ up d) × (start_a d ≡ dn d)
start_parts (pos n) = (refl, refl)
start_parts (negsuc m) = (refl, refl)

-- the difference of two cells' coordinates is the displacement times the width
gap : (d ga gb : ℤ) (w : Float) (k : ℕ) → (d +ℤ gb -ℤ ga) *ℤ int_of w ≡ coordinate gb (start_b d + k) w -ℤ coordinate ga (start_a d + k) w
gap d ga gb w k =
    let i = pos (start_a d + k) in
    let j = pos (start_b d + k) in
    ap (λ (x : ℤ). x *ℤ int_of w) (ext (d +ℤ gb -ℤ ga) ((gb +ℤ j) -ℤ (ga +ℤ i))
    (omega (arith, parts (gb +ℤ j) (neg_ℤ (ga +ℤ i)), parts_neg (ga +ℤ i), parts gb j, parts ga i, parts (d +ℤ gb) (neg_ℤ ga), parts d gb, parts_neg ga, start_parts d)))
    ∙ sym (sub_mulℤ (gb +ℤ j) (ga +ℤ i) (int_of w))

abbrev pub Wide : Float → Type 0
Wide w = T (not (le w (zero_f false)))

-- a whole width above zero is 1 at least
wide_one : (w : Float) → WholeF w → Wide w → 1 ≤ nat_abs (int_of w)
wide_one w h n = go (int_of w) refl
  where
    le_zero : T (le (zero_f false) (zero_f false))
    le_zero = unfold le in tt

    go : (z : ℤ) → int_of w ≡ z → 1 ≤ nat_abs z
    go (pos zero) e = absurd (T_not (le w (zero_f false)) n (rw (le_same_l (rw e at (whole_int w h)) (zero_whole false) (zero_f false)) le_zero))
    go (pos (suc k)) e = omega arith
    go (negsuc k) e = omega arith

axis : (d ga gb : ℤ) (w : Float) (k : ℕ) → WholeF w → Wide w → nat_abs (coordinate ga (start_a d + k) w) ≤ 2 ^ 24 → nat_abs (coordinate gb (start_b d + k) w) ≤ 2 ^ 24
    → Square (square (displaced d ga gb w)) (square_z (coordinate gb (start_b d + k) w -ℤ coordinate ga (start_a d + k) w))
axis d ga gb w k h n p q =
    let g = d +ℤ gb -ℤ ga in
    let e = gap d ga gb w k in
    let s : nat_abs (g *ℤ int_of w) ≤ 2 ^ 25 = rw e (omega (arith, abs_sub (coordinate gb (start_b d + k) w) (coordinate ga (start_a d + k) w))) in
    let l : nat_abs g ≤ limit = omega (arith, s, abs_mul g (int_of w), le-mul_of_pos_right (nat_abs g) (wide_one w h n)) in
    rw (← e) (square_of (mul_whole (of_int_plain g l).whole (whole_int w h) (omega (arith, s))) s)

pub record WideWidths (w : CellWidth) : Type 0 where
  pub z : Wide w.wz
  pub y : Wide w.wy
  pub x : Wide w.wx

pub block_distance : (w : CellWidth) (a b : CartesianBlock) (d : Idx3DOffset) → WholeWidths w → WideWidths w → (k l m : ℕ)
    → Near (cell_point w a (pair d k l m).0) → Near (cell_point w b (pair d k l m).1)
    → distance_squared w a b d ≡ of_int binary64 (distance_z (cell_point w a (pair d k l m).0) (cell_point w b (pair d k l m).1))
block_distance w a b d h n k l m p q =
    blocks_sum (axis d.dz a.gz b.gz w.wz k h.wz n.z p.c0 q.c0) (axis d.dy a.gy b.gy w.wy l h.wy n.y p.c1 q.c1)
    (axis d.dx a.gx b.gx w.wx m h.wx n.x p.c2 q.c2)

-- The cells of an offset: their places are in the slices, and the loops over them are the definitions' pairs in order. Assumes nothing.
use mathlib.Core.Path.{◌≡◌, refl, ap, ◌∙◌}
use mathlib.Core.List.{List, [], ◌∷◌}
use Prim.Native.Nat.{ℕ, ◌+◌, ◌-◌, ◌*◌, ◌<◌, ◌≤◌}
use native.Mathlib.Nat.{add-mul, mul-one, mul-le-mul, mul-le-mul_right}
use native.Mathlib.Omega.{arith}
use lib.ListN.{length}
use lib.IntN.{ℤ, pos, negsuc}
use lib.Ieee.{Float}
use mir.Syntax.{w64}
use mir.Val.{to_z, of_z}
use Rattle.definitions.specs.Blocks.{CartesianBlock, Cell, cell, cell_index, start_a, start_b, count, cell_pairs}
use Rattle.definitions.specs.Blocks as blocks
use Rattle.laws.specs.Loops.{loop_left, run_on}
use Rattle.laws.proofs.Loops.{loop3}
use Rattle.laws.specs.Loops.{fold_pack}
use Rattle.idx_3d_offset.specs.declared.Axes.{Axes}
use Rattle.idx_3d_offset.specs.declared.Idx3DOffset.{Idx3DOffset}
use Rattle.idx_3d_offset.specs.Offsets.{idx_of, Within, Reach, Walkable}
use Rattle.parallel_serial.specs.declared.Setup.{Setup}
use Rattle.spatial.specs.declared.Block.{Block}
use Rattle.spatial.specs.Readings.{block_of}
use Rattle.twopoint_cartesian.specs.declared.held.Planes.{Planes}
use Rattle.twopoint_cartesian.specs.Held.{Columns, BlockFits, Near, AllNear, Ready, Placed, Reached}
use Rattle.twopoint_cartesian.specs.Cells.{Pairs, pairs_at, planes_of, fields_in, first_a, first_b, overlap_of, cells_added, row_added, plane_added, block_added, pair_step, offset_cells}
use Rattle.twopoint_cartesian.proofs.Distance.{back}

-- ---- a cell's place
module _ (sz sy sx : ℕ) (c : Cell) (p : Placed sz sy sx c) where
  pub z_product : c.z * sz ≤ 4_194_304
  z_product = let h : c.z ≤ 64 = omega arith in omega (arith, mul-le-mul h p.z_stride)

  pub y_product : c.y * sy ≤ 4_194_304
  y_product = let h : c.y ≤ 64 = omega arith in omega (arith, mul-le-mul h p.y_stride)

  pub x_product : c.x * sx ≤ 4_194_304
  x_product = let h : c.x ≤ 64 = omega arith in omega (arith, mul-le-mul h p.x_stride)

-- ---- starts and counts of an offset, by what the calls answered: their contracts speak of numbers that are read back
module _ (f : ℤ → ℕ) (o : Idx3DOffset) (n : AllNear o.0 o.1 o.2) (z y x : ℕ)
    (ez : z ≡ f (to_z w64 (of_z w64 o.0))) (ey : y ≡ f (to_z w64 (of_z w64 o.1))) (ex : x ≡ f (to_z w64 (of_z w64 o.2))) where
  started : cell z y x ≡ cell (f o.0) (f o.1) (f o.2)
  started = λ t. cell ((ez ∙ ap f (back o.0 n.z_near)) t) ((ey ∙ ap f (back o.1 n.y_near)) t) ((ex ∙ ap f (back o.2 n.x_near)) t)

  pub start_placed : (sz sy sx : ℕ) → Placed sz sy sx (cell (f o.0) (f o.1) (f o.2)) → Placed sz sy sx (cell z y x)
  start_placed sz sy sx p = rw started p

  pub start_index : (b : CartesianBlock) (r : ℕ) → r ≡ cell_index b (cell z y x) → r ≡ cell_index b (cell (f o.0) (f o.1) (f o.2))
  start_index b r e = e ∙ ap (cell_index b) started

pub overlap_is : (a b : CartesianBlock) (o : Idx3DOffset) → AllNear o.0 o.1 o.2 → (z y x : ℕ) → z ≡ count a.nz b.nz (to_z w64 (of_z w64 o.0)) → y ≡ count a.ny b.ny (to_z w64 (of_z w64 o.1))
    → x ≡ count a.nx b.nx (to_z w64 (of_z w64 o.2)) → ◌≡◌ {A = Axes} (record { z = z; y = y; x = x }) (overlap_of a b (idx_of o))
overlap_is a b o n z y x ez ey ex =
    λ t. record {
      z = (ez ∙ ap (count a.nz b.nz) (back o.0 n.z_near)) t;
      y = (ey ∙ ap (count a.ny b.ny) (back o.1 n.y_near)) t;
      x = (ex ∙ ap (count a.nx b.nx) (back o.2 n.x_near)) t;
    }

-- ---- an offset within reach
axis_near : (L M : ℕ) (d : ℤ) → Within L M d → L ≤ 64 → M ≤ 64 → Near d
axis_near L M (pos n) w h k = record { near = omega arith }
axis_near L M (negsuc m) w h k = record { near = omega arith }

pub axes_near : (a b : Axes) → Walkable a → Walkable b → (d : blocks.Idx3DOffset) → Reach a b d → AllNear d.dz d.dy d.dx
axes_near a b ha hb d r =
    record {
      z_near = axis_near a.z b.z d.dz r.z_axis ha.z_axis.most hb.z_axis.most;
      y_near = axis_near a.y b.y d.dy r.y_axis ha.y_axis.most hb.y_axis.most;
      x_near = axis_near a.x b.x d.dx r.x_axis ha.x_axis.most hb.x_axis.most;
    }

pub count_a : (L M : ℕ) (d : ℤ) → Within L M d → start_a d + count L M d ≤ L
count_a L M (pos n) w = omega arith
count_a L M (negsuc m) w = omega arith

count_b : (L M : ℕ) (d : ℤ) → Within L M d → start_b d + count L M d ≤ M
count_b L M (pos n) w = omega arith
count_b L M (negsuc m) w = omega arith

pub count_least : (L M : ℕ) (d : ℤ) → Within L M d → 1 ≤ count L M d
count_least L M (pos n) w = omega arith
count_least L M (negsuc m) w = omega arith

-- the cells from s on, n on each axis, are in the slices
module _ (b : CartesianBlock) (h : Ready b) (s : Cell) (n : Axes) (hz : s.z + n.z ≤ b.nz) (hy : s.y + n.y ≤ b.ny) (hx : s.x + n.x ≤ b.nx) (ky : s.y < b.ny) where
  first_x : s.x * b.sx ≡ s.x
  first_x = ap (λ (k : ℕ). s.x * k) h.x_stride ∙ mul-one s.x

  row_within : (z y : ℕ) → z < n.z → s.y + y < b.ny → cell_index b s + z * b.sz + y * b.sy + n.x ≤ length b.weights
  row_within z y lz ly =
      let p : s.z + z ≤ b.nz - 1 = omega arith in
      let q : s.y + y ≤ b.ny - 1 = omega arith in
      omega (arith, h.room, first_x, add-mul s.z z b.sz, add-mul s.y y b.sy, mul-le-mul_right b.sz p, mul-le-mul_right b.sy q)

  pub block_fits : BlockFits (fields_in b) (cell_index b s) b.sy b.sz n.x n.y n.z
  block_fits =
      record {
        plane = λ z lz. record {
          start = omega (arith, row_within z 0 lz (omega arith));
          row = λ y ly. let e = row_within z y lz (omega arith) in record { in0 = omega (arith, h.in0); in1 = omega (arith, h.in1); in2 = omega (arith, h.in2); in_w = e };
        };
      }

module _ (a b : CartesianBlock) (ha : Ready a) (hb : Ready b) (d : blocks.Idx3DOffset)
    (r : Reach (record { z = a.nz; y = a.ny; x = a.nx }) (record { z = b.nz; y = b.ny; x = b.nx }) d) where
  pub reach_near : AllNear d.dz d.dy d.dx
  reach_near = axes_near (record { z = a.nz; y = a.ny; x = a.nx }) (record { z = b.nz; y = b.ny; x = b.nx }) ha.axes hb.axes d r

  pub placed_a : Placed a.sz a.sy a.sx (first_a d)
  placed_a =
      record {
        z_stride = ha.z_stride;
        y_stride = ha.y_stride;
        x_stride = omega (arith, ha.x_stride);
        z_index = omega (arith, r.z_axis.first, ha.axes.z_axis.most);
        y_index = omega (arith, r.y_axis.first, ha.axes.y_axis.most);
        x_index = omega (arith, r.x_axis.first, ha.axes.x_axis.most);
      }

  pub placed_b : Placed b.sz b.sy b.sx (first_b d)
  placed_b =
      record {
        z_stride = hb.z_stride;
        y_stride = hb.y_stride;
        x_stride = omega (arith, hb.x_stride);
        z_index = omega (arith, r.z_axis.second, hb.axes.z_axis.most);
        y_index = omega (arith, r.y_axis.second, hb.axes.y_axis.most);
        x_index = omega (arith, r.x_axis.second, hb.axes.x_axis.most);
      }

  pub fits_a : BlockFits (fields_in a) (cell_index a (first_a d)) a.sy a.sz (count a.nx b.nx d.dx) (count a.ny b.ny d.dy) (count a.nz b.nz d.dz)
  fits_a =
      block_fits a ha (first_a d) (overlap_of a b d) (count_a a.nz b.nz d.dz r.z_axis) (count_a a.ny b.ny d.dy r.y_axis) (count_a a.nx b.nx d.dx r.x_axis) r.y_axis.first

  pub fits_b : BlockFits (fields_in b) (cell_index b (first_b d)) b.sy b.sz (count a.nx b.nx d.dx) (count a.ny b.ny d.dy) (count a.nz b.nz d.dz)
  fits_b =
      block_fits b hb (first_b d) (overlap_of a b d) (count_b a.nz b.nz d.dz r.z_axis) (count_b a.ny b.ny d.dy r.y_axis) (count_b a.nx b.nx d.dx r.x_axis) r.y_axis.second

-- ---- the same by an offset of the machine's numbers
module _ (a b : Block) (o : Idx3DOffset) (h : Reached a b o) where
  pub near_offset : AllNear o.0 o.1 o.2
  near_offset = reach_near (block_of a) (block_of b) h.first h.second (idx_of o) h.reach

  -- what the calls answered
  pub planes_is : (i j : ℕ) (n : Axes) → i ≡ cell_index (block_of a) (first_a (idx_of o)) → j ≡ cell_index (block_of b) (first_b (idx_of o)) → n ≡ overlap_of (block_of a) (block_of b) (idx_of o)
      → ◌≡◌ {A = Planes} (record { rows = record { i = i; j = j; sa = a.sy; sb = b.sy; n = n.x; m = n.y }; ta = a.sz; tb = b.sz; l = n.z }) (planes_of (block_of a) (block_of b) (idx_of o))
  planes_is i j n ei ej en = λ t. record { rows = record { i = ei t; j = ej t; sa = a.sy; sb = b.sy; n = (en t).x; m = (en t).y }; ta = a.sz; tb = b.sz; l = (en t).z }

  pub first_placed : Placed a.sz a.sy a.sx (first_a (idx_of o))
  first_placed = placed_a (block_of a) (block_of b) h.first h.second (idx_of o) h.reach

  pub second_placed : Placed b.sz b.sy b.sx (first_b (idx_of o))
  second_placed = placed_b (block_of a) (block_of b) h.first h.second (idx_of o) h.reach

  module _ (p : Planes) (e : p ≡ planes_of (block_of a) (block_of b) (idx_of o)) (f : Columns) where
    pub first_fits : f ≡ fields_in (block_of a) → BlockFits f p.rows.i p.rows.sa p.ta p.rows.n p.rows.m p.l
    first_fits q = rw (q, e) (fits_a (block_of a) (block_of b) h.first h.second (idx_of o) h.reach)

    pub second_fits : f ≡ fields_in (block_of b) → BlockFits f p.rows.j p.rows.sb p.tb p.rows.n p.rows.m p.l
    second_fits q = rw (q, e) (fits_b (block_of a) (block_of b) h.first h.second (idx_of o) h.reach)

-- ---- the loops are a fold over the pairs
fold_run : {A : Type 0} (upd : A → List Float → List Float) (l : List A) (s : List Float) → run_on upd l s ≡ fold_pack upd l s
fold_run upd [] s = refl
fold_run upd (x ∷ l) s = fold_run upd l (upd x s)

-- the place of the cell k, l, m on from s
moved : (b : CartesianBlock) → b.sx ≡ 1 → (s : Cell) (k l m : ℕ) → cell_index b s + k * b.sz + l * b.sy + m ≡ cell_index b (cell (s.z + k) (s.y + l) (s.x + m))
moved b e s k l m =
    let f : s.x * b.sx ≡ s.x = ap (λ (i : ℕ). s.x * i) e ∙ mul-one s.x in
    let g : (s.x + m) * b.sx ≡ s.x + m = ap (λ (i : ℕ). (s.x + m) * i) e ∙ mul-one (s.x + m) in
    omega (arith, f, g, add-mul s.z k b.sz, add-mul s.y l b.sy)

pub offset_cells_law : (setup : Setup) (a b : CartesianBlock) → a.sx ≡ 1 → b.sx ≡ 1 → (d : blocks.Idx3DOffset) (s : List Float) → block_added setup (pairs_at a b d) 0 (count a.nz b.nz d.dz) s ≡ offset_cells setup a b d s
unfolding block_added plane_added row_added pair_step offset_cells
offset_cells_law setup a b ea eb d s =
    (λ t. loop_left (λ k s. loop_left (λ l s. loop_left (λ m s. cells_added setup (fields_in a) (fields_in b) (moved a ea (first_a d) k l m t) (moved b eb (first_b d) k l m t) s)
    0 (count a.nx b.nx d.dx) s) 0 (count a.ny b.ny d.dy) s) 0 (count a.nz b.nz d.dz) s)
    ∙ loop3 (pair_step setup a b) (λ k l m. (cell (start_a d.dz + k) (start_a d.dy + l) (start_a d.dx + m), cell (start_b d.dz + k) (start_b d.dy + l) (start_b d.dx + m)))
    (count a.nz b.nz d.dz) (count a.ny b.ny d.dy) (count a.nx b.nx d.dx) s
    ∙ fold_run (pair_step setup a b) (cell_pairs a b d) s

-- z is what the state held before
pub cells_done : (setup : Setup) (a b : Block) (o : Idx3DOffset) → Reached a b o → (s z q : List Float) (u : Pairs) → u ≡ pairs_at (block_of a) (block_of b) (idx_of o) → s ≡ z → q ≡ block_added setup u 0 u.planes.l s
    → q ≡ offset_cells setup (block_of a) (block_of b) (idx_of o) z
cells_done setup a b o h s z q u eu es e = e ∙ (λ t. block_added setup (eu t) 0 (eu t).planes.l (es t)) ∙ offset_cells_law setup (block_of a) (block_of b) h.first.x_stride h.second.x_stride (idx_of o) z

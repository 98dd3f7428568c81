-- Demand 3 at numbers: K10 by itself; a list of a point run, a grid with NaN padding, a refused run and a lone point, of three shapes over the same places,
-- from a start with -0.0; and cross runs. They show that the claim's conditions can be met. Assumes nothing.
use mathlib.Core.Path.{◌≡◌, refl, sym, ◌∙◌}
use Rattle.std.specs.Prelude.{None}
use mathlib.Core.List.Permᴰ
use mathlib.Core.List.{List, [], ◌∷◌, map}
use mathlib.Core.Bool.{true, false}
use Prim.Native.Nat.{ℕ, zero, suc, ◌<◌}
use native.Mathlib.Omega.{arith}
use lib.Dec.{T, lit≤}
use lib.ListN.{length}
use lib.IntN.{pos, negsuc}
use lib.Ieee.{Float, nan, of_int, lt, le, eq, add, sub, mul, div, to_bits, to_unsigned, is_nan, fits}
use Rattle.definitions.specs.Lists.{at, All}
use Rattle.definitions.specs.Floats.{zero_f, total_key, int_of, is_whole}
use Rattle.definitions.specs.Bins.{regular, irregular, bins, last_edge, regular_index, irregular_index, find, bin_of}
use Rattle.definitions.specs.Points.{UnstructuredPoints, points}
use Rattle.definitions.specs.Blocks.{CartesianBlock, CellWidth, reading_at, cells_of}
use Rattle.definitions.specs.Reducer.{elementwise_multiply, elementwise_sub, component_sum_mean, component_sum_histogram}
use Rattle.definitions.specs.Run.{one_points, two_points, one_block, two_blocks, Run, scratch_of, scratch}
use Rattle.definitions.specs.Rules.{refusal, run_rules, accepted, step}
use Rattle.definitions.specs.Readings.{int, box, one_bin, unit_widths, lone}
use Rattle.definitions.specs.Survey.{steps, point_z, cell_point, cloud, covered, written, WholeF, WholeReading, WholePoint, WholeWidths, Near, NoZeroKind, Survey, SurveyRun}
use Rattle.laws.proofs.Lists.{append_all}
use Rattle.survey.specs.Demand3.{with_sets, list_sets, SmallGrid, one_relisted, Replaced, relisted, same, also, ends, Demand3}
use Rattle.survey.proofs.Demand3.{demand3}

-- ---- K10
probes : UnstructuredPoints
probes = record {
  count = 2;
  stated = None;
  positions = int (pos 0) ∷ int (pos 3) ∷ int (pos 0) ∷ int (pos 4) ∷ int (pos 0) ∷ int (pos 0) ∷ [];
  values = int (pos 1) ∷ int (pos 1) ∷ int (pos 2) ∷ int (pos 1) ∷ int (pos 3) ∷ int (pos 1) ∷ [];
  weights = int (pos 1) ∷ int (pos 2) ∷ [];
}

k10 : Run
k10 = record {
  sets = one_points probes;
  op = elementwise_multiply;
  kind = component_sum_mean;
  edges = irregular (int (pos 0) ∷ int (pos 25) ∷ int (pos 26) ∷ []);
  states = 2;
  size = 2;
  members = 1;
  teams = 1;
}

zeros : List Float
zeros = int (pos 0) ∷ int (pos 0) ∷ int (pos 0) ∷ int (pos 0) ∷ []

-- totals of bins 0 and 1, then weights of bins 0 and 1
k10_run : steps (k10 ∷ []) zeros ≡ int (pos 0) ∷ int (pos 12) ∷ int (pos 0) ∷ int (pos 2) ∷ []
unfolding steps step accepted k10 probes int zeros bins of_int lt le add sub mul to_bits is_nan scratch scratch_of find irregular_index last_edge total_key bin_of
k10_run = refl

k10_book : written zeros (k10 ∷ []) ≡ int (pos 0) ∷ int (pos 12) ∷ int (pos 0) ∷ int (pos 2) ∷ []
unfolding written accepted k10 probes int zeros bins of_int lt le to_bits is_nan find irregular_index last_edge total_key bin_of cloud int_of
k10_book = refl

probes_whole : All WholePoint (points probes)
unfolding probes int of_int is_whole fits
probes_whole = (
  record { c0 = (tt, tt); c1 = (tt, tt); c2 = (tt, tt); rd = record { v0 = (tt, tt); v1 = (tt, tt); v2 = (tt, tt); w = (tt, tt) } },
  (record { c0 = (tt, tt); c1 = (tt, tt); c2 = (tt, tt); rd = record { v0 = (tt, tt); v1 = (tt, tt); v2 = (tt, tt); w = (tt, tt) } }, tt),
)

probes_near : All Near (map point_z (points probes))
unfolding probes int of_int int_of
probes_near = (record { c0 = lit≤ tt; c1 = lit≤ tt; c2 = lit≤ tt }, (record { c0 = lit≤ tt; c1 = lit≤ tt; c2 = lit≤ tt }, tt))

k10_whole : SurveyRun k10
unfolding k10 cloud
k10_whole = record { reads = λ h. probes_whole; near = λ h. probes_near; edge = tt }

k10_start : (p : ℕ) → p < length zeros → WholeF (at zeros p)
unfolding zeros int of_int is_whole fits
k10_start zero h = (tt, tt)
k10_start (suc zero) h = (tt, tt)
k10_start (suc (suc zero)) h = (tt, tt)
k10_start (suc (suc (suc zero))) h = (tt, tt)
k10_start (suc (suc (suc (suc p)))) h = absurd (omega arith)

-- 6 * 3² * 2² * 1 + 0 is at most 2 ^ 53
k10_survey : Survey zeros (k10 ∷ [])
unfolding accepted k10 probes int zeros bins of_int lt cloud int_of
k10_survey = record { runs = ((λ o. k10_whole), tt); starts = λ p h c. k10_start p h; bound = lit≤ tt }

k10_demand : Demand3 zeros (k10 ∷ [])
k10_demand = demand3 zeros (k10 ∷ []) k10_survey

-- ---- a grid of 1 · 2 · 2 cells whose padding is NaN, into a histogram of 3 distance bins and 2 value bins
sheet : CartesianBlock
sheet = record {
  nz = 1;
  ny = 2;
  nx = 2;
  sz = 6;
  sy = 3;
  sx = 1;
  gz = pos 0;
  gy = negsuc 0;
  gx = pos 5;
  comp0 = int (pos 1) ∷ int (pos 2) ∷ nan ∷ int (pos 3) ∷ int (negsuc 3) ∷ [];
  comp1 = int (pos 0) ∷ int (pos 1) ∷ nan ∷ int (pos 0) ∷ int (pos 1) ∷ [];
  comp2 = int (pos 7) ∷ int (pos 0) ∷ nan ∷ int (pos 0) ∷ int (pos 2) ∷ [];
  weights = int (pos 1) ∷ int (pos 2) ∷ nan ∷ int (pos 1) ∷ int (pos 3) ∷ [];
}

widths : CellWidth
widths = record { wz = int (pos 1); wy = int (pos 2); wx = int (pos 3) }

grid : Run
grid = record {
  sets = one_block widths sheet;
  op = elementwise_sub;
  kind = component_sum_histogram (irregular (int (negsuc 9) ∷ int (negsuc 4) ∷ int (pos 1) ∷ []));
  edges = regular (int (pos 0)) (int (pos 15)) 3;
  states = 3;
  size = 2;
  members = 1;
  teams = 1;
}

widths_whole : WholeWidths widths
unfolding widths int of_int is_whole fits
widths_whole = record { wz = (tt, tt); wy = (tt, tt); wx = (tt, tt) }

sheet_whole : All (λ c. WholeReading (reading_at sheet c)) (cells_of sheet)
unfolding sheet int of_int is_whole fits
sheet_whole = (
  record { v0 = (tt, tt); v1 = (tt, tt); v2 = (tt, tt); w = (tt, tt) },
  (
    record { v0 = (tt, tt); v1 = (tt, tt); v2 = (tt, tt); w = (tt, tt) },
    (record { v0 = (tt, tt); v1 = (tt, tt); v2 = (tt, tt); w = (tt, tt) }, (record { v0 = (tt, tt); v1 = (tt, tt); v2 = (tt, tt); w = (tt, tt) }, tt)),
  ),
)

sheet_near : All Near (map (cell_point widths sheet) (cells_of sheet))
unfolding widths sheet int of_int int_of
sheet_near = (
  record { c0 = lit≤ tt; c1 = lit≤ tt; c2 = lit≤ tt },
  (record { c0 = lit≤ tt; c1 = lit≤ tt; c2 = lit≤ tt }, (record { c0 = lit≤ tt; c1 = lit≤ tt; c2 = lit≤ tt }, (record { c0 = lit≤ tt; c1 = lit≤ tt; c2 = lit≤ tt }, tt))),
)

grid_edge : NoZeroKind grid.kind
unfolding grid int of_int fits eq
grid_edge = ((tt, tt), ((tt, tt), ((tt, tt), tt)))

grid_whole : SurveyRun grid
unfolding grid cloud
grid_whole = record { reads = λ h. (widths_whole, sheet_whole); near = λ h. sheet_near; edge = grid_edge }

-- K6: one cell by itself has no pair and is refused
single : Run
single = one_bin 1 (one_block unit_widths (box 1 1 1))

single_refused : refusal (run_rules single 7) ≡ 22
unfolding single one_bin unit_widths box int bins of_int le eq sub div
single_refused = refl

-- K12: one point by itself is accepted and adds nothing
alone : Run
alone = one_bin 1 (one_points lone)

alone_whole : SurveyRun alone
unfolding alone one_bin lone cloud
alone_whole = record { reads = λ h. absurd (omega arith); near = λ h. absurd (omega arith); edge = tt }

-- ---- the list: 4 places, then 6 and 2 over them; the last place is covered by none and keeps its NaN
runs : List Run
runs = k10 ∷ grid ∷ single ∷ alone ∷ []

start : List Float
start = zero_f true ∷ int (pos 5) ∷ int (pos 0) ∷ int (negsuc 2) ∷ zero_f true ∷ int (pos 7) ∷ nan ∷ []

after : List Float
after = zero_f false ∷ int (pos 17) ∷ int (pos 3) ∷ int (pos 6) ∷ int (pos 5) ∷ int (pos 9) ∷ nan ∷ []

list_run : steps runs start ≡ after
unfolding steps step accepted runs start after k10 probes grid sheet widths single alone one_bin box unit_widths lone int bins of_int lt le eq add sub mul div to_unsigned to_bits is_nan scratch scratch_of find regular_index irregular_index last_edge total_key bin_of
list_run = refl

list_book : written start runs ≡ after
unfolding written accepted runs start after k10 probes grid sheet widths single alone one_bin box unit_widths lone int bins of_int lt le eq sub div to_unsigned to_bits is_nan find regular_index irregular_index last_edge total_key bin_of cloud int_of
list_book = refl

starts : (l : List Run) → (T (covered (length start) l 6) → ⊥) → (p : ℕ) → p < length start → T (covered (length start) l p) → WholeF (at start p)
unfolding start int of_int is_whole fits
starts l f zero h c = (tt, tt)
starts l f (suc zero) h c = (tt, tt)
starts l f (suc (suc zero)) h c = (tt, tt)
starts l f (suc (suc (suc zero))) h c = (tt, tt)
starts l f (suc (suc (suc (suc zero)))) h c = (tt, tt)
starts l f (suc (suc (suc (suc (suc zero))))) h c = (tt, tt)
starts l f (suc (suc (suc (suc (suc (suc zero)))))) h c = absurd (f c)
starts l f (suc (suc (suc (suc (suc (suc (suc p))))))) h c = absurd (omega arith)

list_survey : Survey start runs
unfolding accepted runs start k10 probes grid sheet widths single alone one_bin box unit_widths lone int bins of_int lt le eq sub div cloud int_of
list_survey = record { runs = ((λ o. k10_whole), ((λ o. grid_whole), ((λ o. absurd o), ((λ o. alone_whole), tt)))); starts = starts runs (λ c. c); bound = lit≤ tt }

list_demand : Demand3 start runs
list_demand = demand3 start runs list_survey

-- in another order
turned : steps (grid ∷ single ∷ k10 ∷ alone ∷ []) start ≡ steps runs start
unfolding runs
turned = list_demand.order (grid ∷ single ∷ k10 ∷ alone ∷ []) (Permᴰ.trans (Permᴰ.swap refl refl) (Permᴰ.cons refl (Permᴰ.swap refl refl)))

-- the grid by its listing, and the multiplied points the other way round
probes_turned : UnstructuredPoints
probes_turned = record {
  count = 2;
  stated = None;
  positions = int (pos 3) ∷ int (pos 0) ∷ int (pos 4) ∷ int (pos 0) ∷ int (pos 0) ∷ int (pos 0) ∷ [];
  values = int (pos 1) ∷ int (pos 1) ∷ int (pos 1) ∷ int (pos 2) ∷ int (pos 1) ∷ int (pos 3) ∷ [];
  weights = int (pos 2) ∷ int (pos 1) ∷ [];
}

k10_turned : Replaced (length start) k10 (with_sets k10 (one_points probes_turned))
unfolding k10 probes probes_turned
k10_turned = relisted refl (one_relisted (record { judged = refl; order = Permᴰ.swap refl refl }))

grid_accepted : T (accepted grid (length start))
unfolding accepted grid sheet widths start int bins of_int lt le eq sub div
grid_accepted = tt

grid_small : SmallGrid grid.sets
unfolding grid sheet
grid_small = lit≤ tt

replaced : steps (with_sets k10 (one_points probes_turned) ∷ with_sets grid (list_sets grid.sets) ∷ single ∷ alone ∷ []) start ≡ steps runs start
unfolding runs
replaced = list_demand.replaced (with_sets k10 (one_points probes_turned) ∷ with_sets grid (list_sets grid.sets) ∷ single ∷ alone ∷ [])
    (also k10_turned (also (list_demand.listings.1.0 grid_accepted grid_small) (also same (also same ends))))

-- ---- the same sets crossed with themselves
crossed : List Run
crossed = with_sets k10 (two_points probes probes) ∷ with_sets grid (two_blocks widths sheet sheet) ∷ []

crossed_after : List Float
crossed_after = int (pos 26) ∷ int (pos 29) ∷ int (pos 8) ∷ int (pos 23) ∷ int (pos 5) ∷ int (pos 11) ∷ nan ∷ []

crossed_run : steps crossed start ≡ crossed_after
unfolding steps step accepted crossed start crossed_after k10 probes grid sheet widths int bins of_int lt le eq add sub mul div to_unsigned to_bits is_nan scratch scratch_of find regular_index irregular_index last_edge total_key bin_of
crossed_run = refl

crossed_survey : Survey start crossed
unfolding accepted crossed start k10 probes grid sheet widths int bins of_int lt le eq sub div cloud int_of
crossed_survey = record {
  runs = (
    (λ o. record { reads = λ h. (probes_whole, probes_whole); near = λ h. append_all Near (map point_z (points probes)) (map point_z (points probes)) probes_near probes_near; edge = tt }),
    (
      (λ o. record {
        reads = λ h. (widths_whole, sheet_whole, sheet_whole);
        near = λ h. append_all Near (map (cell_point widths sheet) (cells_of sheet)) (map (cell_point widths sheet) (cells_of sheet)) sheet_near sheet_near;
        edge = grid_edge;
      }),
      tt,
    ),
  );
  starts = starts crossed (λ c. c);
  bound = lit≤ tt;
}

crossed_demand : Demand3 start crossed
crossed_demand = demand3 start crossed crossed_survey

-- so the book's too
crossed_book : written start crossed ≡ crossed_after
crossed_book = sym crossed_demand.book ∙ crossed_run

-- What acceptance gives: none of a run's tables has a broken rule. No rule has the number 0, which is what `refusal` says for none; that is computed from the tables. Assumes nothing.
use mathlib.Core.Path.{◌≡◌, refl}
use mathlib.Core.List.{List, [], ◌∷◌, ◌++◌, map}
use mathlib.Core.Bool.{Bool, true, false, true≢false, not, cond, ◌&&◌, ◌||◌}
use Prim.Native.Nat.{ℕ, ◌*◌, ◌≤◌, ◌<◌}
use native.Mathlib.Nat.{mul-pos, pos_of_ne-zero}
use native.Mathlib.Omega.{arith}
use lib.Dec.{T, ltb, leb, eqb, leb→le, eqb→eq}
use lib.ListN.{length, length-map}
use lib.Ieee.{le}
use lib.Ieee.Fits.{and_r, eq→eqb}
use borrow.Author.Tests.{eqb-false, ltb-false, not-false}
use Rattle.definitions.specs.Lists.{later_count}
use Rattle.definitions.specs.Floats.{zero_f}
use Rattle.definitions.specs.Bins.{Edges, regular, irregular, bins}
use Rattle.definitions.specs.Blocks.{CartesianBlock, CellWidth, cells_of}
use Rattle.definitions.specs.Reducer.{Kind, comp0_mean, component_sum_mean, component_sum_histogram, kind_size}
use Rattle.definitions.specs.Run.{Sets, one_points, two_points, one_block, two_blocks, Run, used}
use Rattle.definitions.specs.Rules.{Rule, rule, refusal, zero_axis, over_run, edge_rules, block_rules, width_rules, set_rules, kind_rules, pair_rules, pack_fits, run_rules, accepted}
use Rattle.definitions.specs.Survey.{cell_point, cloud}
use Rattle.laws.proofs.Refusals.{numbered, rule_passed, refusal_split, refusal_join}
use Rattle.survey.proofs.Blocks.{HasCells, WideWidths, cells_length}
use Rattle.survey.proofs.RunExact.{SetsOk}

-- ---- no number is 0
numbered_sets : (s : Sets) → T (numbered (set_rules s))
numbered_sets (one_points s) = tt
numbered_sets (two_points s t) = tt
numbered_sets (one_block w a) = tt
numbered_sets (two_blocks w a b) = tt

numbered_edges : (e : Edges) → T (numbered (edge_rules e))
numbered_edges (regular min max n) = tt
numbered_edges (irregular es) = tt

numbered_kind : (k : Kind) → T (numbered (kind_rules k))
numbered_kind comp0_mean = tt
numbered_kind component_sum_mean = tt
numbered_kind (component_sum_histogram e) = numbered_edges e

numbered_pair_law : (s : Sets) → T (numbered (pair_rules s))
numbered_pair_law (one_points s) = tt
numbered_pair_law (two_points s t) = tt
numbered_pair_law (one_block w a) = tt
numbered_pair_law (two_blocks w a b) = tt

-- ---- a run's tables
abbrev last_rules : Run → ℕ → List Rule
last_rules r n = rule 23 (not (eqb r.members 1 && eqb r.teams 1)) ∷ rule 24 (not (pack_fits r n)) ∷ []

pub record Passed (r : Run) (n : ℕ) : Type 0 where
  pub limits : over_run r ≡ false
  pub sets : refusal (set_rules r.sets) ≡ 0
  pub edges : refusal (edge_rules r.edges) ≡ 0
  pub kind : refusal (kind_rules r.kind) ≡ 0
  pub pair : refusal (pair_rules r.sets) ≡ 0
  pub last : refusal (last_rules r n) ≡ 0

pub passed : (r : Run) (n : ℕ) → T (accepted r n) → Passed r n
unfolding accepted
passed r n h =
    let a = pair_rules r.sets ++ last_rules r n in
    let b = kind_rules r.kind ++ a in
    let c = edge_rules r.edges ++ b in
    let p = rule_passed 7 (over_run r) (refusal (set_rules r.sets ++ c)) tt (eqb→eq (refusal (run_rules r n)) 0 h) in
    let s = refusal_split (set_rules r.sets) c (numbered_sets r.sets) p.1 in
    let e = refusal_split (edge_rules r.edges) b (numbered_edges r.edges) s.1 in
    let k = refusal_split (kind_rules r.kind) a (numbered_kind r.kind) e.1 in
    let q = refusal_split (pair_rules r.sets) (last_rules r n) (numbered_pair_law r.sets) k.1 in
    record { limits = p.0; sets = s.0; edges = e.0; kind = k.0; pair = q.0; last = q.1 }

pub accept : (r : Run) (n : ℕ) → Passed r n → T (accepted r n)
unfolding accepted
accept r n h =
    let a = pair_rules r.sets ++ last_rules r n in
    let b = kind_rules r.kind ++ a in
    let c = edge_rules r.edges ++ b in
    let p = refusal_join (pair_rules r.sets) (last_rules r n) (numbered_pair_law r.sets) h.pair h.last in
    let e = refusal_join (edge_rules r.edges) b (numbered_edges r.edges) h.edges (refusal_join (kind_rules r.kind) a (numbered_kind r.kind) h.kind p) in
    let s = refusal_join (set_rules r.sets) c (numbered_sets r.sets) h.sets e in
    eq→eqb {a = refusal (run_rules r n)} {b = 0} (rw h.limits s)

-- ---- the pack is in the slice
pub accepted_used : (r : Run) (n : ℕ) → T (accepted r n) → used r ≤ n
accepted_used r n h =
    let p = rule_passed 24 (not (pack_fits r n)) 0 tt (rule_passed 23 (not (eqb r.members 1 && eqb r.teams 1)) (cond (not (pack_fits r n)) 24 0) tt (passed r n h).last).1 in
    leb→le (used r) n (and_r (eqb r.states (bins r.edges) && eqb r.size (kind_size r.kind)) (leb (used r) n) (rw (not-false (pack_fits r n) p.0) tt))

-- ---- the sets
pub or-false : (a b : Bool) → (a || b) ≡ false → (a ≡ false) × (b ≡ false)
or-false true b e = absurd (true≢false e)
or-false false b e = (refl, e)

positive : (n : ℕ) → eqb n 0 ≡ false → 0 < n
positive n e = pos_of_ne-zero (eqb-false n 0 e)

block_cells : (b : CartesianBlock) (k : ℕ) → cond (zero_axis b) 14 k ≡ 0 → HasCells b
block_cells b k h =
    let p = or-false (eqb b.nz 0 || eqb b.ny 0) (eqb b.nx 0) (rule_passed 14 (zero_axis b) k tt h).0 in
    let q = or-false (eqb b.nz 0) (eqb b.ny 0) p.0 in
    record { z = positive b.nz q.0; y = positive b.ny q.1; x = positive b.nx p.1 }

widths : (w : CellWidth) → refusal (width_rules w) ≡ 0 → WideWidths w
widths w h =
    let z = le w.wz (zero_f false) in
    let y = le w.wy (zero_f false) in
    let p = or-false (z || y) (le w.wx (zero_f false)) (rule_passed 20 (z || y || le w.wx (zero_f false)) 0 tt h).0 in
    let q = or-false z y p.0 in
    record { z = rw q.0 tt; y = rw q.1 tt; x = rw p.1 tt }

pub some_cells : (a : CartesianBlock) → HasCells a → 0 < length (cells_of a)
some_cells a c = rw (cells_length a.nz a.ny a.nx) (mul-pos c.z (mul-pos c.y c.x))

some_later : {A : Type 0} (l : List A) → 2 ≤ length l → 0 < later_count l
some_later [] h = absurd (omega arith)
some_later (a ∷ []) h = absurd (omega arith)
some_later (a ∷ b ∷ l) h = omega arith

sets_ok : (s : Sets) → refusal (set_rules s) ≡ 0 → refusal (pair_rules s) ≡ 0 → SetsOk s
unfolding cloud
sets_ok (one_points s) h k = tt
sets_ok (two_points s t) h k = tt
sets_ok (one_block w a) h k =
    let p = refusal_split (block_rules a) (width_rules w) tt h in
    let n = a.nz * (a.ny * a.nx) in
    let two : 2 ≤ n = ltb-false n 2 (rule_passed 22 (ltb n 2) 0 tt k).0 in
    (widths w p.1, block_cells a _ p.0, some_later (map (cell_point w a) (cells_of a)) (rw (length-map (cells_of a) (cell_point w a), cells_length a.nz a.ny a.nx) two))
sets_ok (two_blocks w a b) h k =
    let p = refusal_split (block_rules a) (block_rules b ++ width_rules w) tt h in
    let q = refusal_split (block_rules b) (width_rules w) tt p.1 in
    let ca = block_cells a _ p.0 in
    let cb = block_cells b _ q.0 in
    (widths w q.1, ca, cb, rw (length-map (cells_of a) (cell_point w a), length-map (cells_of b) (cell_point w b)) (mul-pos (some_cells a ca) (some_cells b cb)))

pub accepted_sets : (r : Run) (n : ℕ) → T (accepted r n) → SetsOk r.sets
accepted_sets r n h = let p = passed r n h in sets_ok r.sets p.sets p.pair

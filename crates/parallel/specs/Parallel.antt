-- The Rust's way of a run (parallel.rs, parallel_serial.rs): a binless pair goes to bin 0 as a zero datum, and a team takes its segment of the first points or of the offsets. Definitions only.
use Rattle.std.specs.Prelude.{Option, None, Some}
use Rattle.std.specs.Prelude.{List, [], ◌∷◌, map, Bool, false, cond, ℕ, suc, ◌-◌, ltb, length, take, drop, Float}
use Rattle.std.specs.Float.{binary64}
use Rattle.std.specs.Float.Ieee.{add}
use Rattle.definitions.specs.Lists.{at, range, upto, flat_map, fold_at, overwritten}
use Rattle.definitions.specs.Floats.{zero_f}
use Rattle.definitions.specs.Bins.{bins, find}
use Rattle.definitions.specs.Points.{Point, point_at, squared_diff_norm}
use Rattle.definitions.specs.Blocks.{offsets_of, is_after}
use Rattle.definitions.specs.Reducer.{Datum, datum_of, Pair, kept, dropped, pair_term}
use Rattle.definitions.specs.Run.{Run, Sets, one_points, two_points, one_block, two_blocks, used, state_at, number_at, offset_at}
use Rattle.definitions.specs.Segments.{segment_start, segment_size}

abbrev pub zero_datum : Datum
zero_datum = record { c0 = zero_f false; c1 = zero_f false; c2 = zero_f false; weight = zero_f false }

-- `BinnedDatum`: no bin gives `zeroed`, a bin that is no state's is dropped when it is applied
abbrev pub binned_datum : ℕ → Option ℕ → Datum → Pair
binned_datum states None d = kept 0 zero_datum
binned_datum states (Some b) d = cond (ltb b states) (kept b d) dropped

-- the segment of a list that team t of so many takes
abbrev pub team_part : {A : Type 0} → List A → ℕ → ℕ → List A
team_part l t teams = take (segment_size (length l) teams t) (drop (segment_start (length l) teams t) l)

module _ {A : Type 0} where
  -- the elements that pass the test
  abbrev pub filtered : (A → Bool) → List A → List A
  filtered f [] = []
  filtered f (a ∷ l) = cond (f a) (a ∷ filtered f l) (filtered f l)

module _ (r : Run) (p : ℕ) where
  -- what a binned datum adds at place p
  abbrev pub binned_at : Point × Point → Option Float
  binned_at q =
      pair_term r.kind (state_at (bins r.edges) p) (number_at (bins r.edges) p)
      (binned_datum (bins r.edges) (find r.edges (squared_diff_norm q.0 q.1)) (datum_of r.op q.0.rd q.1.rd))

  -- the scratch pack of the one team, number 0 of 1
  unfoldable pub team_scratch_of : Sets → Float
  team_scratch_of (one_points s) =
      fold_at binned_at (zero_f false) (flat_map (λ i. map (λ j. (point_at s i, point_at s j)) (range (suc i) (s.count - suc i))) (team_part (upto s.count) 0 1))
  team_scratch_of (two_points s t) = fold_at binned_at (zero_f false) (flat_map (λ i. map (λ j. (point_at s i, point_at t j)) (upto t.count)) (team_part (upto s.count) 0 1))
  team_scratch_of (one_block w a) = fold_at (offset_at r p w a a) (zero_f false) (team_part (filtered is_after (offsets_of a a)) 0 1)
  team_scratch_of (two_blocks w a b) = fold_at (offset_at r p w a b) (zero_f false) (team_part (offsets_of a b) 0 1)

-- what the Rust's `drive_reduce` leaves of an accepted run
abbrev pub driven : Run → List Float → List Float
driven r s = overwritten (used r) (λ p. add binary64 (at s p) (team_scratch_of r p r.sets)) s

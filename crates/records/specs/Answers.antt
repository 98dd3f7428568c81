-- Answers in the paper's terms, and the run of the entry by its parts.
use Rattle.std.specs.Prelude.{List, ℕ, Float}
use Rattle.std.specs.Prelude.{Option, None, Some}
use Rattle.std.specs.Borrow.{Bor}
use Rattle.definitions.specs.Bins.{irregular, bins}
use Rattle.definitions.specs.Points.{UnstructuredPoints}
use Rattle.definitions.specs.Reducer.{elementwise_multiply, component_sum_mean}
use Rattle.definitions.specs.Run.{one_points, Run}
use Rattle.definitions.specs.Rules.{step}
use Rattle.definitions.specs.Records.{record_points, curve_numbers}

-- the entry's run: auto, multiplied, irregular edges, `ComponentSum` mean
abbrev pub curve_run : UnstructuredPoints → List Float → Run
curve_run set list = record {
  sets = one_points set;
  op = elementwise_multiply;
  kind = component_sum_mean;
  edges = irregular list;
  states = bins (irregular list);
  size = curve_numbers;
  members = 1;
  teams = 1;
}

-- of n points, listed by columns
unfoldable pub listed_curve : ℕ → List Float → List Float → List Float → List Float → List Float → List Float
listed_curve n positions values weights list pack = step (curve_run (record { count = n; stated = Some n; positions = positions; values = values; weights = weights }) list) pack

-- of points as records
unfoldable pub record_curve : List ℕ → List Float → List Float → List Float
record_curve points list pack = step (curve_run (record_points points) list) pack

-- a file's bytes, if it could be read
abbrev pub file_read : Option (Bor (List ℕ)) → Option (List ℕ)
file_read None = None
file_read (Some bytes) = Some (bytes.now)

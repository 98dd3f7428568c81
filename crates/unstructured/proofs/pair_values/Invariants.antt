use mathlib.Core.Path.{◌≡◌}
use Prim.Native.Nat.{ℕ, ◌<◌}
use lib.ListN.{get_or}
use lib.Ieee.{nan}
use Rattle.definitions.specs.Reducer.{datum_of, component_sum}
use Rattle.reducer.specs.Readings.{op_of, reading_of}
use Rattle.unstructured.specs.Batches.{reading_in}
use Rattle.unstructured.proofs.pair_values.Given as goal

abbrev pub invariant-loop-q : goal.invariant-loop-q
invariant-loop-q l = (x : ℕ) → x < l.q → get_or l.d x nan ≡ component_sum (datum_of (op_of l.op) (reading_of l.first) (reading_in l.readings (get_or l.readings.places.now x 0)))

use mathlib.Core.Path.{◌≡◌}
use Rattle.reducer.specs.Readings.{reading_of}
use Rattle.unstructured.specs.Batches.{reading_in, placed_to}
use Rattle.unstructured.proofs.add_pairs.Given as goal

abbrev pub invariant-loop-q : goal.invariant-loop-q
invariant-loop-q l = l.scratch ≡ placed_to (reading_of l.first) (reading_in l.found.readings) l.setup l.found.readings.places.now l.found.bins.now l.found.values.now l.q l.initial.scratch

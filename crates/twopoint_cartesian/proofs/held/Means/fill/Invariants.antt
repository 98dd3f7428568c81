use mathlib.Core.Path.{◌≡◌}
use Rattle.definitions.specs.Reducer.{mean_size}
use Rattle.spatial.specs.Readings.{width_of}
use Rattle.twopoint_cartesian.specs.Cells.{overlaps_left, overlaps_added}
use Rattle.twopoint_cartesian.proofs.held.Means.fill.Given as goal

abbrev pub invariant-loop-at : goal.invariant-loop-at
invariant-loop-at l =
    overlaps_added l.self.distances.setup (width_of l.self.distances.width) mean_size (overlaps_left l.at-iterator) l.scratch
    ≡ overlaps_added l.self.distances.setup (width_of l.self.distances.width) mean_size (overlaps_left l.fn.all) l.initial.scratch

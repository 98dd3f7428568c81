-- The sets of a run over points.
use Rattle.definitions.specs.Run as run
use Rattle.definitions.specs.Run.{one_points, two_points}
use Rattle.parallel_serial.specs.declared.Sets.{Sets}
use Rattle.parallel_serial.specs.declared.Sets.TheVariants.{Auto, Cross}
use Rattle.unstructured_points.specs.declared.PointSet.{PointSet}
use Rattle.unstructured_points.specs.Readings.{points_of}

abbrev pub sets_of : Sets PointSet → run.Sets
sets_of (Auto a) = one_points (points_of a)
sets_of (Cross a b) = two_points (points_of a) (points_of b)

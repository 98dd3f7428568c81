-- What a set of points and a point stand for in the definitions.
use Rattle.definitions.specs.Points as Points
use Rattle.definitions.specs.Points.{UnstructuredPoints}
use Rattle.reducer.specs.Readings.{reading_of}
use Rattle.unstructured_points.specs.declared.PointSet.{PointSet}
use Rattle.unstructured_points.specs.declared.Point.{Point}

abbrev pub points_of : PointSet → UnstructuredPoints
points_of set = record { count = set.n_points; stated = set.stride; positions = set.positions.now; values = set.values.now; weights = set.weights.now }

abbrev pub the_point : Point → Points.Point
the_point a = record { c0 = a.c0; c1 = a.c1; c2 = a.c2; rd = reading_of a.rd }

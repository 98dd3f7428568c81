-- What the parameters of a run over points stand for in the definitions.
use Rattle.definitions.specs.Points.{UnstructuredPoints}
use Rattle.definitions.specs.Run.{one_points, two_points, Run}
use Rattle.parallel_serial.specs.declared.RunSpec.{RunSpec}
use Rattle.parallel_serial.specs.Drive.{run_of}

abbrev pub auto_run : UnstructuredPoints → RunSpec → Run
auto_run a spec = run_of (one_points a) spec

abbrev pub cross_run : UnstructuredPoints → UnstructuredPoints → RunSpec → Run
cross_run a b spec = run_of (two_points a b) spec

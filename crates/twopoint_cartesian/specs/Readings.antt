-- What the parameters of a run over blocks stand for in the definitions.
use Rattle.definitions.specs.Blocks.{CartesianBlock}
use Rattle.definitions.specs.Run.{one_block, two_blocks, Run}
use Rattle.parallel_serial.specs.declared.RunSpec.{RunSpec}
use Rattle.parallel_serial.specs.Drive.{run_of}
use Rattle.spatial.specs.declared.CellWidth.{CellWidth}
use Rattle.spatial.specs.Readings.{width_of}

abbrev pub auto_run : CellWidth → CartesianBlock → RunSpec → Run
auto_run width a spec = run_of (one_block (width_of width) a) spec

abbrev pub cross_run : CellWidth → CartesianBlock → CartesianBlock → RunSpec → Run
cross_run width a b spec = run_of (two_blocks (width_of width) a b) spec

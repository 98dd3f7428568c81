-- The blocks of a run that are known to be within the limits.
use Rattle.parallel_serial.specs.declared.Sets.{Sets}
use Rattle.parallel_serial.specs.declared.Sets.TheVariants.{Auto, Cross}
use Rattle.spatial.specs.declared.Block.{Block}
use Rattle.spatial.specs.declared.bounded.Bounded.{Bounded}

abbrev pub blocks_in : Sets Bounded → Sets Block
blocks_in (Auto a) = Auto a.block
blocks_in (Cross a b) = Cross a.block b.block

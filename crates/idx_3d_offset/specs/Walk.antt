-- What an iterator over offsets has left.
use Rattle.std.specs.Prelude.{List}
use Rattle.definitions.specs.Blocks as blocks
use Rattle.idx_3d_offset.specs.declared.Offsets.{Offsets}
use Rattle.idx_3d_offset.specs.Steps.{left}

abbrev pub offsets_left : Offsets → List blocks.Idx3DOffset
offsets_left s = left s.lowest s.end s.next

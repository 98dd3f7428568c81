use Rattle.state.proofs.Results.{place_part, place_bytes}
use Rattle.state.proofs.View.{part_here, part_some}
use Rattle.state.proofs.state_number.Goals as goal

pub offset_bounds-pack-s : goal.offset_bounds-pack-s
offset_bounds-pack-s c = search place_bytes

pub slice_bounds-read_number-count : goal.slice_bounds-read_number-count
slice_bounds-read_number-count c = search place_part

pub slice_bounds-read_number-start : goal.slice_bounds-read_number-start
slice_bounds-read_number-start c = search place_part

pub unwrap-requires : goal.unwrap-requires
unwrap-requires c = search part_some

pub returns : goal.returns
returns c = search part_here

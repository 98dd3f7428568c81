use borrow.Author.Tests.{le-ltb, le-leb, lt-leb}
use Rattle.reducer.specs.Consume.{has_room}
use Rattle.reducer.proofs.Ways.{product_fits}
use Rattle.reducer.proofs.has_room.Goals as goal

pub returns-then-n_states-gt4096 : goal.returns-then-n_states-gt4096
unfolding has_room
returns-then-n_states-gt4096 c = search lt-leb

pub returns-then-state_size-gt4096 : goal.returns-then-state_size-gt4096
unfolding has_room
returns-then-state_size-gt4096 c = search (le-leb, lt-leb)

pub returns-then-s-n_states : goal.returns-then-s-n_states
unfolding has_room
returns-then-s-n_states c = search (le-leb, le-ltb)

pub overflow_mul-result : goal.overflow_mul-result
overflow_mul-result c = search product_fits

pub returns : goal.returns
unfolding has_room
returns c = search le-leb

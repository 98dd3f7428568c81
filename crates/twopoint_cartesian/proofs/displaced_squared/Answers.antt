use Rattle.twopoint_cartesian.proofs.Distance.{sum_fits, difference_fits, difference_exact, squared}
use Rattle.twopoint_cartesian.proofs.displaced_squared.Goals as goal

pub overflow_add-c : goal.overflow_add-c
overflow_add-c c = search sum_fits

pub overflow_sub-c : goal.overflow_sub-c
overflow_sub-c c = search difference_fits

pub int_to_float-c : goal.int_to_float-c
int_to_float-c c = search difference_exact

pub returns : goal.returns
returns c = search squared

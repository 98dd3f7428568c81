use Rattle.state.proofs.Results.{mean_second, numbers}
use Rattle.state.proofs.result_number.Goals as goal

pub state_number-requires : goal.state_number-requires
state_number-requires c = search mean_second

pub returns-then-e-eq0 : goal.returns-then-e-eq0
returns-then-e-eq0 c = search numbers

pub returns-else-e-eq0 : goal.returns-else-e-eq0
returns-else-e-eq0 c = search numbers

pub returns-in-Histogram : goal.returns-in-Histogram
returns-in-Histogram c = search numbers

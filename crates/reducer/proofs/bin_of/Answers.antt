use Rattle.reducer.proofs.Ways.{bin_none, bin_some}
use Rattle.reducer.proofs.bin_of.Goals as goal

pub returns-in_err-i : goal.returns-in_err-i
returns-in_err-i c = search (bin_none, c.in_err-i.was)

pub returns : goal.returns
returns c = search (bin_some, c.in_ok-i.was)

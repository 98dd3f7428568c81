use Rattle.reducer.proofs.Ways.{both_bumped}
use Rattle.reducer.proofs.add_mean.Goals as goal

pub returns : goal.returns
returns c = search both_bumped

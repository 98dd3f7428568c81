use mathlib.Core.Path.{refl}
use Rattle.state.proofs.Results.{result_turn, result_done}
use Rattle.state.proofs.write_result.Goals as goal

pub loop-e-init : goal.loop-e-init
loop-e-init c = refl

pub loop-e-preserved : goal.loop-e-preserved
loop-e-preserved c = (search result_turn)

pub returns : goal.returns
returns c = search result_done

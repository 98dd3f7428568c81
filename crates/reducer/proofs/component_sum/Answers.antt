use mathlib.Core.Path.{refl}
use Rattle.reducer.proofs.component_sum.Goals as goal

pub returns : goal.returns
returns c = refl

-- What the code's kinds stand for in the definitions.
use Rattle.definitions.specs.Reducer as Reducer
use Rattle.definitions.specs.Reducer.{mean, histogram}
use Rattle.state_refusals.specs.declared.StateKind.{StateKind}
use Rattle.state_refusals.specs.declared.StateKind.TheVariants.{Mean, Histogram}

abbrev pub state_kind_of : StateKind → Reducer.StateKind
state_kind_of Mean = mean
state_kind_of (Histogram n) = histogram n

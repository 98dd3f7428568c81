use Rattle.reducer.proofs.Ways.{value_histogram}
use Rattle.reducer.proofs.value_bin.Goals as goal

pub returns-in-ComponentSumHistogram : goal.returns-in-ComponentSumHistogram
returns-in-ComponentSumHistogram c = search value_histogram

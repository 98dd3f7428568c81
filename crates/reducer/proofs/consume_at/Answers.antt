use Rattle.reducer.proofs.Ways.{consumed_none, consumed_state, within, within_comp0, within_sum, consumed_comp0, consumed_sum, consumed_histogram}
use Rattle.reducer.proofs.consume_at.Goals as goal

pub add_mean-requires : goal.add_mean-requires
add_mean-requires c = (search consumed_state, search within_comp0)

pub add_mean-requires-in-ComponentSumMean : goal.add_mean-requires-in-ComponentSumMean
add_mean-requires-in-ComponentSumMean c = (search consumed_state, search within_sum)

pub add_histogram-requires : goal.add_histogram-requires
add_histogram-requires c = (search consumed_state, search within)

pub returns-in-Comp0Mean : goal.returns-in-Comp0Mean
returns-in-Comp0Mean c = search consumed_comp0

pub returns-in-ComponentSumMean : goal.returns-in-ComponentSumMean
returns-in-ComponentSumMean c = search consumed_sum

pub returns-in-ComponentSumHistogram : goal.returns-in-ComponentSumHistogram
returns-in-ComponentSumHistogram c = search consumed_histogram

pub returns-else-has_room : goal.returns-else-has_room
returns-else-has_room c = search consumed_none

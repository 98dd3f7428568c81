use Rattle.reducer.proofs.Ways.{place_within, hist_kept, hist_past, hist_none}
use Rattle.reducer.proofs.add_histogram.Goals as goal

pub add_number-requires : goal.add_number-requires
add_number-requires c = search place_within

pub returns-then-bin-n_bins : goal.returns-then-bin-n_bins
returns-then-bin-n_bins c = search hist_kept

pub returns-else-bin-n_bins : goal.returns-else-bin-n_bins
returns-else-bin-n_bins c = search hist_past

pub returns-in-None : goal.returns-in-None
returns-in-None c = search hist_none

-- What regular edges are made of.
use Rattle.std.specs.Prelude.{ℕ, Float}
use Rattle.definitions.specs.Bins.{bin_size}
use Rattle.bins.specs.declared.RegularBinEdges.{RegularBinEdges}

-- what `new` makes
abbrev pub regular_of : Float → Float → ℕ → RegularBinEdges
regular_of min max n = record { min = min; max = max; bin_size = bin_size min max n; n_bins = n }

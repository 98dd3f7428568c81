-- Answers in the paper's terms.
use Rattle.std.specs.Prelude.{false, List, ℕ, replicate, Float}
use Rattle.definitions.specs.Floats.{zero_f}
use Rattle.definitions.specs.Rules.{refusal}
use Rattle.definitions.specs.Records.{curve_rules}

-- what a curve is refused for, by a name that stays shut
unfoldable pub curve_number : List ℕ → List ℕ → ℕ
curve_number points edges = refusal (curve_rules points edges)

-- as many zeros as a file has edges at most
unfoldable pub zero_edges : List Float
zero_edges = replicate 257 (zero_f false)

-- Numbers of records.
use Rattle.std.specs.Prelude.{cond, ◌&&◌, List, [], ◌++◌, map, ℕ, ◌+◌, ◌*◌, ◌/◌, leb, length, Float}
use Rattle.definitions.specs.Lists.{at, upto, flat_map}
use Rattle.definitions.specs.Run.{place}
use Rattle.definitions.specs.Records.{float_at, float_bytes, curve_numbers, bin_bytes}

-- the number at byte `first` of each of n records of `size` bytes
unfoldable pub numbers : ℕ → ℕ → ℕ → List ℕ → List Float
numbers size first n b = map (λ i. float_at b (i * size + first)) (upto n)

-- the numbers at bytes `first`, `first` + 8 and `first` + 16 of n point records
unfoldable pub three_numbers : ℕ → ℕ → List ℕ → List Float
three_numbers first n b = numbers 56 first n b ++ (numbers 56 (first + 8) n b ++ numbers 56 (first + 16) n b)

-- a number's bytes, by a name that stays shut
unfoldable pub number_bytes : Float → List ℕ
number_bytes x = float_bytes x

-- a bin's record: total, weight
unfoldable pub bin_record : Float → Float → List ℕ
bin_record total weight = float_bytes total ++ float_bytes weight

-- the first i records of a curve of n bins
unfoldable pub curve_records : ℕ → ℕ → List Float → List ℕ
curve_records i n pack = flat_map (λ s. flat_map (λ e. float_bytes (at pack (place n e s))) (upto curve_numbers)) (upto i)

-- ---- what is read of a file and what is written of a curve, for every length: nothing of a file past its limit, and nothing of a curve that does not fit
unfoldable pub edges_read : List ℕ → List Float
edges_read b = cond (leb (length b) 2056) (numbers 8 0 (length b / 8) b) []

unfoldable pub three_read : ℕ → List ℕ → List Float
three_read first b = cond (leb (length b) 57344) (three_numbers first (length b / 56) b) []

unfoldable pub weights_read : List ℕ → List Float
weights_read b = cond (leb (length b) 57344) (numbers 56 48 (length b / 56) b) []

unfoldable pub records_fitting : ℕ → List Float → ℕ → List ℕ
records_fitting n pack room = cond (leb (n * curve_numbers) (length pack) && leb (n * bin_bytes) room) (curve_records n n pack) []

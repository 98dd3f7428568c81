-- Record files, the entry, and the text that `curve` prints. Bytes are numbers below 256. Definitions only.
use Rattle.std.specs.Prelude.{Option, None, Some}
use Rattle.std.specs.Prelude.{List, [], ◌∷◌, ◌++◌, map, false, not, cond, ◌||◌, ℕ, zero, suc, ◌+◌, ◌*◌, ◌/◌, ◌%◌, ltb, eqb, length, get_or, replicate, Float}
use Prim.Native.Char.{code}
use Prim.Native.String.{String}
use Rattle.std.specs.Float.{binary64}
use Rattle.std.specs.Float.Ieee.{of_bits, to_bits}
use Rattle.definitions.specs.Lists.{at, upto, flat_map}
use Rattle.definitions.specs.Floats.{zero_f}
use Rattle.definitions.specs.Bins.{irregular, bins}
use Rattle.definitions.specs.Points.{UnstructuredPoints}
use Rattle.definitions.specs.Reducer.{elementwise_multiply, mean, state_size, component_sum_mean}
use Rattle.definitions.specs.Run.{one_points, Run, place}
use Rattle.definitions.specs.Rules.{Rule, rule, refusal, if_accepted, point_rules, irregular_rules, step}

-- ---- numbers are little-endian f64
-- the number that n bytes from place k on stand for
abbrev pub little_endian : ℕ → List ℕ → ℕ → ℕ
little_endian zero b k = 0
little_endian (suc n) b k = get_or b k 0 + 256 * little_endian n b (suc k)

abbrev pub float_at : List ℕ → ℕ → Float
float_at b k = of_bits binary64 (little_endian 8 b k)

abbrev pub low_bytes : ℕ → ℕ → List ℕ
low_bytes zero x = []
low_bytes (suc n) x = x % 256 ∷ low_bytes n (x / 256)

-- a NaN is written as 7ff8000000000000, which is what `to_bits` has for it
abbrev pub float_bytes : Float → List ℕ
float_bytes x = low_bytes 8 (to_bits binary64 x)

-- ---- records
abbrev pub point_bytes : ℕ
point_bytes = 56

abbrev pub edge_bytes : ℕ
edge_bytes = 8

-- point: z, y, x, three values, weight; number k of each record
abbrev pub column : List ℕ → ℕ → List Float
column b k = map (λ i. float_at b (i * point_bytes + k * 8)) (upto (length b / point_bytes))

abbrev pub record_points : List ℕ → UnstructuredPoints
record_points b = record {
  count = length b / point_bytes;
  stated = Some (length b / point_bytes);
  positions = column b 0 ++ (column b 1 ++ column b 2);
  values = column b 3 ++ (column b 4 ++ column b 5);
  weights = column b 6;
}

abbrev pub record_edges : List ℕ → List Float
record_edges b = map (λ i. float_at b (i * edge_bytes)) (upto (length b / edge_bytes))

-- curve: total, weight per bin
abbrev pub curve_numbers : ℕ
curve_numbers = state_size mean

abbrev pub bin_bytes : ℕ
bin_bytes = curve_numbers * 8

abbrev pub curve_bytes : ℕ → List Float → List ℕ
curve_bytes n pack = flat_map (λ s. flat_map (λ e. float_bytes (at pack (place n e s))) (upto curve_numbers)) (upto n)

-- ---- the entry: auto, multiplied, irregular edges, `ComponentSum` mean
unfoldable pub entry_run : List ℕ → List ℕ → Run
entry_run points edges = record {
  sets = one_points (record_points points);
  op = elementwise_multiply;
  kind = component_sum_mean;
  edges = irregular (record_edges edges);
  states = bins (irregular (record_edges edges));
  size = curve_numbers;
  members = 1;
  teams = 1;
}

abbrev pub curve_bins : List ℕ → ℕ
curve_bins edges = bins (irregular (record_edges edges))

-- the curve starts from zeros
unfoldable pub curve_pack : List ℕ → List ℕ → List Float
curve_pack points edges = step (entry_run points edges) (replicate (curve_bins edges * curve_numbers) (zero_f false))

-- what a curve is refused for: 7, then 27, points first; points; edges
abbrev pub curve_rules : List ℕ → List ℕ → List Rule
curve_rules points edges =
    rule 7 (ltb 57344 (length points) || ltb 2056 (length edges))
    ∷ rule 27 (not (eqb (length points % point_bytes) 0))
    ∷ rule 27 (not (eqb (length edges % edge_bytes) 0))
    ∷ (point_rules (record_points points) ++ irregular_rules (record_edges edges))

-- then 24, output bytes not the curve's length
abbrev pub entry_rules : List ℕ → List ℕ → ℕ → List Rule
entry_rules points edges n = curve_rules points edges ++ (rule 24 (not (eqb n (curve_bins edges * bin_bytes))) ∷ [])

-- what the output bytes are after the call
unfoldable pub entry_output : List ℕ → List ℕ → List ℕ → List ℕ
entry_output points edges output = if_accepted (entry_rules points edges (length output)) (curve_bytes (curve_bins edges) (curve_pack points edges)) output

-- ---- the text, in ASCII
abbrev pub ascii : String → List ℕ
ascii String.[] = []
ascii (String.◌∷◌ c s) = code c ∷ ascii s

abbrev pub hex_digit : ℕ → ℕ
hex_digit d = cond (ltb d 10) (48 + d) (87 + d)

-- n lowercase digits
abbrev pub hexadecimal : ℕ → ℕ → List ℕ
hexadecimal zero x = []
hexadecimal (suc n) x = hexadecimal n (x / 16) ++ (hex_digit (x % 16) ∷ [])

-- at most n digits, without leading zeros
abbrev pub digits : ℕ → ℕ → List ℕ
digits zero x = []
digits (suc n) x = cond (ltb x 10) ((48 + x) ∷ []) (digits n (x / 10) ++ ((48 + x % 10) ∷ []))

-- 20 digits are enough for 64 bits
abbrev pub decimal : ℕ → List ℕ
decimal x = digits 20 x

abbrev pub bits_text : Float → List ℕ
bits_text x = hexadecimal 16 (to_bits binary64 x)

-- bin, total bits, weight bits
abbrev pub curve_line : ℕ → List Float → ℕ → List ℕ
curve_line n pack s = decimal s ++ ascii " " ++ bits_text (at pack (place n 0 s)) ++ ascii " " ++ bits_text (at pack (place n 1 s)) ++ ascii "\n"

abbrev pub curve_lines : ℕ → List Float → List ℕ
curve_lines n pack = flat_map (curve_line n pack) (upto n)

-- `refused ` and the number
abbrev pub refused_line : ℕ → List ℕ
refused_line n = ascii "refused " ++ decimal n ++ ascii "\n"

abbrev pub printed : ℕ → List ℕ → List ℕ
printed n text = cond (eqb n 0) text (refused_line n)

-- the two files' bytes to what is printed
unfoldable pub curve_text : List ℕ → List ℕ → List ℕ
curve_text points edges = printed (refusal (curve_rules points edges)) (curve_lines (curve_bins edges) (curve_pack points edges))

-- 28 for a file that can't be read, and then as the entry does
abbrev pub program_text : Option (List ℕ) → Option (List ℕ) → List ℕ
program_text None edges = refused_line 28
program_text (Some points) None = refused_line 28
program_text (Some points) (Some edges) = curve_text points edges

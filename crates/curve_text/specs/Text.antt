-- A text in a slice, and pieces of the text by names that stay shut.
use Rattle.std.specs.Prelude.{cond, ◌&&◌, List, [], ◌∷◌, ◌++◌, ℕ, ◌*◌, ltb, leb, length, drop, Float}
use Rattle.definitions.specs.Lists.{upto, flat_map}
use Rattle.definitions.specs.Records.{ascii, decimal, hexadecimal, bits_text, curve_line, refused_line, curve_numbers}

-- the largest length of a line, and of a text: the lines of 256 bins
abbrev pub line_bytes : ℕ
line_bytes = 38

abbrev pub text_bytes : ℕ
text_bytes = 256 * line_bytes

unfoldable pub decimal_text : ℕ → List ℕ
decimal_text n = decimal n

-- a number, and one byte more
unfoldable pub decimal_then : ℕ → ℕ → List ℕ
decimal_then n c = decimal n ++ (c ∷ [])

unfoldable pub hex_text : ℕ → ℕ → List ℕ
hex_text k n = hexadecimal k n

-- a float's bits, and one byte more
unfoldable pub bits_then : Float → ℕ → List ℕ
bits_then x c = bits_text x ++ (c ∷ [])

unfoldable pub line_text : ℕ → Float → Float → List ℕ
line_text s total weight = decimal s ++ ascii " " ++ bits_text total ++ ascii " " ++ bits_text weight ++ ascii "\n"

-- the first i lines of a curve of n bins
unfoldable pub lines_text : ℕ → ℕ → List Float → List ℕ
lines_text i n pack = flat_map (curve_line n pack) (upto i)

unfoldable pub refused_text : ℕ → List ℕ
refused_text n = refused_line n

-- the lines of n bins and the line of a refusal, or nothing: a number takes three digits at most, a refusal's line 12 bytes
unfoldable pub lines_fitting : ℕ → List Float → ℕ → List ℕ
lines_fitting n pack room = cond (ltb n 1000 && (leb (n * curve_numbers) (length pack) && leb (n * line_bytes) room)) (lines_text n n pack) []

unfoldable pub refused_fitting : ℕ → ℕ → List ℕ
refused_fitting n room = cond (ltb n 1000 && leb 12 room) (refused_text n) []

-- what a lent slice s holds after a text was written to it: the text at its front and its tail as it was; a slice that is too short is left as it was
unfoldable pub fitted : List ℕ → List ℕ → List ℕ
fitted text s = cond (leb (length text) (length s)) (text ++ drop (length text) s) s

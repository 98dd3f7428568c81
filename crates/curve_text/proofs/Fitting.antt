-- What is put of a text, by the room: all of it, or nothing.
use mathlib.Core.Path.{◌≡◌}
use mathlib.Core.List.{List, [], ◌++◌}
use Prim.Native.Nat.{ℕ, ◌*◌, ◌≤◌, ◌<◌}
use lib.ListN.{length, drop}
use lib.Ieee.{Float}
use borrow.Author.Tests.{lt-ltb, le-ltb, le-leb, lt-leb}
use Rattle.definitions.specs.Records.{curve_numbers}
use Rattle.curve_text.specs.Text.{line_bytes, lines_text, refused_text, lines_fitting, refused_fitting, fitted}

-- ---- the lines
module _ (n : ℕ) (pack : List Float) (room : ℕ) where
  pub lines_fit : n < 1000 → n * curve_numbers ≤ length pack → n * line_bytes ≤ room → lines_text n n pack ≡ lines_fitting n pack room
  unfolding lines_fitting
  lines_fit h g k = rw (lt-ltb n 1000 h, le-leb (n * curve_numbers) (length pack) g, le-leb (n * line_bytes) room k)

  pub many_lines : 1000 ≤ n → [] ≡ lines_fitting n pack room
  unfolding lines_fitting
  many_lines h = rw (le-ltb n 1000 h)

  pub lines_pack : n < 1000 → length pack < n * curve_numbers → [] ≡ lines_fitting n pack room
  unfolding lines_fitting
  lines_pack h g = rw (lt-ltb n 1000 h, lt-leb (n * curve_numbers) (length pack) g)

  pub lines_room : n < 1000 → n * curve_numbers ≤ length pack → room < n * line_bytes → [] ≡ lines_fitting n pack room
  unfolding lines_fitting
  lines_room h g k = rw (lt-ltb n 1000 h, le-leb (n * curve_numbers) (length pack) g, lt-leb (n * line_bytes) room k)

-- ---- the line of a refusal
pub refused_fit : (n room : ℕ) → n < 1000 → 12 ≤ room → refused_text n ≡ refused_fitting n room
unfolding refused_fitting
refused_fit n room h g = rw (lt-ltb n 1000 h, le-leb 12 room g)

-- ---- a text in a lent slice
pub fits : (t s r : List ℕ) → length t ≤ length s → r ≡ t → r ++ drop (length t) s ≡ fitted t s
unfolding fitted
fits t s r h e = rw (le-leb (length t) (length s) h, e)

pub too_short : (t s : List ℕ) → length s < length t → s ≡ fitted t s
unfolding fitted
too_short t s h = rw (lt-leb (length t) (length s) h)

-- What is left of a record as lists, and what reading it gives.
use Rattle.std.specs.Prelude.{◌≡◌, List, [], ◌∷◌, map, ℕ, ◌/◌, length, take, drop, unwrap_or, slice_get, slice_index, Float}
use Rattle.std.specs.Float.{binary64}
use Rattle.std.specs.Float.Ieee.{of_bits, to_bits}
use Rattle.std.specs.Int.{w64, from_le_bytes}
use Rattle.std.specs.Simd.{first_chunks}
use Rattle.replay.specs.declared.words.Record.{Record}

-- the words, and the floats of the same bits
pub record Left : Type 0 where
  pub words : List ℕ
  pub floats : List Float

abbrev pub left : Record → Left
left r = record { words = r.words.now; floats = r.floats.now }

-- after n more; none, where there are fewer
abbrev pub after : ℕ → Left → Left
after n l = record { words = drop n l.words; floats = drop n l.floats }

-- the next word: 0 past the end
abbrev pub next_word : Left → ℕ
next_word l = slice_index l.words 0

-- the next three
abbrev pub next_three : Left → List ℕ
next_three l = next_word l ∷ next_word (after 1 l) ∷ next_word (after 1 (after 1 l)) ∷ []

-- the next float: a NaN past the end
abbrev pub next_float : Left → Float
next_float l = unwrap_or (slice_get l.floats 0) (of_bits binary64 0x7ff8_0000_0000_0000)

-- the next n floats, or as many as there are
abbrev pub next_floats : ℕ → Left → List Float
next_floats n l = take n l.floats

abbrev pub bits_of : List Float → List ℕ
bits_of xs = map (to_bits binary64) xs

abbrev pub floats_of : List ℕ → List Float
floats_of ws = map (of_bits binary64) ws

-- the words of these bytes, eight each; fewer than eight at the end are none
abbrev pub words_of : List ℕ → List ℕ
words_of b = map (from_le_bytes w64) (first_chunks 8 (length b / 8) b)

-- a call's number and the slice after are all that stands there
abbrev pub HasAnswer : ℕ → List Float → Left → Type 0
HasAnswer number slice l = l.words ≡ number ∷ bits_of slice

-- a list over the front of another, as far as that goes
abbrev pub overlaid : {A : Type 0} → List A → List A → List A
overlaid [] s = s
overlaid (x ∷ l) [] = []
overlaid (x ∷ l) (y ∷ s) = x ∷ overlaid l s

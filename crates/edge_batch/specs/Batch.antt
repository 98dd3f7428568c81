-- Lookups of a batch of values: what the functions leave for any hints and table, also ones of other edges.
use Rattle.std.specs.Prelude.{Option, unwrap_or}
use Rattle.std.specs.Prelude.{List, [], ◌∷◌, map, Bool, cond, not, ◌&&◌, ◌||◌, ℕ, ◌-◌, ◌/◌, ◌%◌, ◌^◌, ◌<◌, ◌≤◌, ltb, eqb, length, get_or, pos, Float}
use Rattle.std.specs.Float.{binary64}
use Rattle.std.specs.Float.Ieee.{add, sub, div, lt, le, of_int, of_bits, to_bits}
use Rattle.definitions.specs.Floats.{as_usize}
use Rattle.bins.specs.declared.RegularBinEdges.{RegularBinEdges}
use Rattle.reducer.specs.declared.BinEdges.TheVariants.{Regular, Irregular}
use Rattle.reducer.specs.Readings.{BuiltEdges}
use Rattle.reducer.specs.Consume.{built_bin}
use Rattle.edge_table.specs.declared.Ends.{Ends}
use Rattle.edge_table.specs.declared.Table.{Table}
use Rattle.edge_table.specs.Table.{past_end, located_bin, place_of, sure_at}
use Rattle.edge_table.specs.declared.Lookup.{Lookup}

-- the bin, or a number past every bin
abbrev pub number_or : Option ℕ → ℕ
number_or o = unwrap_or o 4096

-- ---- regular edges: the quotient's whole number
abbrev pub quotient : RegularBinEdges → Float → Float
quotient e x = div binary64 (sub binary64 x e.min) e.bin_size

-- past an end, unless no value is
unfoldable pub is_past : Bool → RegularBinEdges → Float → Bool
is_past inside e x = not inside && (lt x e.min || le e.max x)

-- the quotient without its fraction; a number past every bin where the value is past an end
unfoldable pub number_for : Bool → RegularBinEdges → Float → ℕ
number_for inside e x = cond (is_past inside e x) 4096 (as_usize (quotient e x))

-- a guess of the whole number of q: 2^31 added leaves 21 bits of the fraction, and the bits above them hold the whole number
unfoldable pub guess_of : Float → ℕ
guess_of q = to_bits binary64 (add binary64 q (of_bits binary64 0x41e0_0000_0000_0000)) / 2097152 % 4096

-- h is the whole number of q
unfoldable pub is_sure : Float → ℕ → Bool
is_sure q h = le (of_int binary64 (pos h)) q && lt q (add binary64 (of_int binary64 (pos h)) (of_bits binary64 0x3ff0_0000_0000_0000))

-- the guess where it is right, else a mark past every number
unfoldable pub sure_cut : Float → ℕ
sure_cut q = cond (is_sure q (guess_of q)) (guess_of q) (2 ^ 64 - 1)

unfoldable pub sure_number : Bool → RegularBinEdges → Float → ℕ
sure_number inside e x = cond (is_past inside e x) 4096 (sure_cut (quotient e x))

-- m is at least each of the first n
abbrev pub AtMost : ℕ → ℕ → List ℕ → Type 0
AtMost m n l = (i : ℕ) → i < n → i < length l → get_or l i 0 ≤ m

-- ---- a batch
-- each number is made anew of its value and itself, as far as there are both
unfoldable pub each : (Float → ℕ → ℕ) → List Float → List ℕ → List ℕ
each f [] l = l
each f (v ∷ x) [] = []
each f (v ∷ x) (n ∷ l) = f v n ∷ each f x l

abbrev pub sure_in : Bool → BuiltEdges → Table → List ℕ → Float → ℕ
sure_in inside (Regular e) table hints x = sure_number inside e x
sure_in inside (Irregular list) table hints x = sure_at list.now hints x (place_of inside table x)

-- a value's number where a guess or a hint is shown right, else a mark past every number
abbrev pub sure : Bool → Lookup → Float → ℕ
sure inside look x = sure_in inside look.edges look.table look.hints.now x

-- a value's number by the edges alone; of regular edges it may also be an index past the bins
abbrev pub settled : Bool → BuiltEdges → Ends → Float → ℕ
settled inside (Regular e) ends x = number_for inside e x
settled inside (Irregular list) ends x = cond (past_end ends x) 4096 (number_or (located_bin list.now x))

-- n where it is no mark
unfoldable pub settled_or : Bool → Lookup → Float → ℕ → ℕ
settled_or inside look x n = cond (ltb n 8192) n (settled inside look.edges look.table.ends x)

abbrev pub batch_number : Bool → Lookup → Float → ℕ
batch_number inside look x = settled_or inside look x (sure inside look x)

-- a value's number by itself: of irregular edges by its hint, if that is shown right
abbrev pub number_by_in : Bool → BuiltEdges → Lookup → Float → ℕ
number_by_in inside (Regular e) look x = number_for inside e x
number_by_in inside (Irregular list) look x = settled_or inside look x (sure_at list.now look.hints.now x (place_of inside look.table x))

abbrev pub number_by : Bool → Lookup → Float → ℕ
number_by inside look x = number_by_in inside look.edges look x

-- a value's number by the edges' own lookup
abbrev pub number_in : Bool → BuiltEdges → Float → ℕ
number_in inside (Regular e) x = number_for inside e x
number_in inside (Irregular list) x = number_or (built_bin (Irregular list) x)

-- each value's number; as they were where the lengths differ
unfoldable pub numbers_of : Bool → BuiltEdges → List Float → List ℕ → List ℕ
numbers_of inside edges x found = cond (eqb (length found) (length x)) (map (number_in inside edges) x) found

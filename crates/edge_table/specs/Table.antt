-- Lookups in edges by a table: what the functions return for any hints and table, also ones of other edges.
use Rattle.std.specs.Prelude.{Option, None, Some}
use Rattle.std.specs.Prelude.{List, ◌++◌, Bool, true, false, cond, not, ◌&&◌, ◌||◌, ℕ, zero, suc, ◌+◌, ◌-◌, ◌*◌, ◌/◌, ◌%◌, ◌^◌, min, leb, ltb, eqb, length, get_or, take, drop, replicate, Float}
use Rattle.std.specs.Float.{binary64}
use Rattle.std.specs.Float.Ieee.{add, sub, mul, div, lt, le, eq, ne, is_nan, of_bits, to_bits}
use Rattle.definitions.specs.Lists.{at}
use Rattle.definitions.specs.Bins.{irregular_index, below}
use Rattle.floats.specs.Order.{order_key}
use Rattle.reducer.specs.declared.BinEdges.TheVariants.{Regular, Irregular}
use Rattle.reducer.specs.Readings.{BuiltEdges}
use Rattle.reducer.specs.Consume.{built_bin}
use Rattle.edge_table.specs.declared.Ends.{Ends}
use Rattle.edge_table.specs.declared.Table.{Table}

-- ---- ends
abbrev pub ends_of : BuiltEdges → Ends
ends_of (Regular e) = record { first = e.min; last = e.max }
ends_of (Irregular list) = record { first = at list.now 0; last = at list.now (length list.now - 1) }

-- below the first or not below the last
abbrev pub past_end : Ends → Float → Bool
past_end ends x = lt x ends.first || le ends.last x

-- the same, unless no value is
abbrev pub is_past : Bool → Ends → Float → Bool
is_past inside ends x = not inside && past_end ends x

unfoldable pub outside_of : Ends → Float → Bool
outside_of ends x = is_nan x || lt x ends.first || le ends.last x

-- ---- tables
-- irregular edges take 4,093 places of hints, the first value's after 2^52
abbrev pub table_of : BuiltEdges → Table
table_of (Regular e) = record { ends = ends_of (Regular e); scale = of_bits binary64 0; offset = of_bits binary64 0 }
table_of (Irregular list) =
    let ends = ends_of (Irregular list) in
    let scale = div binary64 (of_bits binary64 0x40af_fa00_0000_0000) (sub binary64 ends.last ends.first) in record { ends = ends; scale = scale; offset = sub binary64 (of_bits binary64 0x4330_0000_0000_0001) (mul binary64 ends.first scale) }

-- ---- hints
-- a place of hints: with 2^52 in the offset the sum is rounded to a whole number, which the low bits then hold
unfoldable pub hint_place : Table → Float → ℕ
hint_place table x = to_bits binary64 (add binary64 (mul binary64 x table.scale) table.offset) % 4096

-- b at the places from p up to the end
unfoldable pub spread : ℕ → ℕ → ℕ → List ℕ → List ℕ
spread p b end hints = take p hints ++ replicate (end - p) b ++ drop (p + (end - p)) hints

-- bin b at the places from its lower edge's to its upper edge's, which the next bin then takes: an edge's place has the bin above it
unfoldable pub bin_hinted : Table → List Float → ℕ → List ℕ → List ℕ
bin_hinted table list b hints =
    spread (hint_place table (at list b)) (b % 256) (min (hint_place table (at list (b + 1)) + 1) (length hints)) hints

-- the first n bins
unfoldable pub hints_of : Table → List Float → ℕ → List ℕ → List ℕ
hints_of table list zero hints = hints
hints_of table list (suc b) hints = bin_hinted table list b (hints_of table list b hints)

-- regular edges are found without hints
abbrev pub hints_for : BuiltEdges → Table → List ℕ → List ℕ
hints_for (Regular e) table hints = hints
hints_for (Irregular list) table hints = hints_of table list.now (length list.now - 1) hints

-- ---- lookups
abbrev pub bit : Bool → ℕ
bit true = 1
bit false = 0

-- not below the lower edge of bin h, and below its upper one
unfoldable pub enclosed : List Float → Float → ℕ → Bool
enclosed list x h = ltb h (length list - 1) && (le (at list h) x && lt x (at list (h + 1)))

-- no zero: two zeros that compare equal may stand on two sides of an edge
abbrev pub nonzero : Float → Bool
nonzero x = ne x (of_bits binary64 0)

unfoldable pub shown : List Float → Float → ℕ → Bool
shown list x h = nonzero x && enclosed list x h

-- x is a number, and the keys of bin h's edges enclose its own
unfoldable pub holds : List Float → Float → ℕ → Bool
holds list x h = not (is_nan x) && ltb h (length list - 1) && leb (order_key (at list h)) (order_key x) && ltb (order_key x) (order_key (at list (h + 1)))

-- w where edge i is not above x
unfoldable pub step_up : List Float → Float → ℕ → ℕ → ℕ
step_up list x i w = w * bit (le (at list i) x)

-- one of four parts of w bins each from b on
unfoldable pub climb : List Float → Float → ℕ → ℕ → ℕ
climb list x w b = b + (step_up list x (b + w) w + step_up list x (b + 2 * w) w + step_up list x (b + 3 * w) w)

-- the search by quarters in at most 256 bins
unfoldable pub located : List Float → Float → ℕ
located list x =
    cond (leb (length list) 33) (climb list x 2 (climb list x 8 0) + step_up list x (climb list x 2 (climb list x 8 0) + 1) 1) (climb list x 1 (climb list x 4 (climb list x 16 (climb list x 64 0))))

-- the plain lookup
abbrev pub irregular_bin : List Float → Float → Option ℕ
irregular_bin list x = below (length list - 1) (irregular_index list x)

-- what the search by quarters finds, tested by the edges, then by the keys; else the plain lookup
unfoldable pub located_bin : List Float → Float → Option ℕ
located_bin list x = cond (shown list x (located list x)) (Some (located list x)) (cond (holds list x (located list x)) (Some (located list x)) (irregular_bin list x))

unfoldable pub edge_bin : List Float → Ends → Float → Option ℕ
edge_bin list ends x = cond (outside_of ends x) None (located_bin list x)

abbrev pub ends_bin : BuiltEdges → Ends → Float → Option ℕ
ends_bin (Regular e) ends x = built_bin (Regular e) x
ends_bin (Irregular list) ends x = edge_bin list.now ends x

-- ---- hints tried
-- a value's place of hints, 4,096 more past the ends, and 8,192 more for a zero
unfoldable pub place_of : Bool → Table → Float → ℕ
place_of inside table x =
    hint_place table x + (4096 * bit (is_past inside table.ends x) + 8192 * bit (eq x (of_bits binary64 0)))

-- h, or the bin beside it to which the value points
unfoldable pub near_hint : List Float → Float → ℕ → ℕ
near_hint list x h = cond (lt x (at list h)) (h - 1) (h + step_up list x (h + 1) 1)

-- the hint at place p or the bin beside it, where the edges enclose the value; 4096 for one past an end, and all else is a mark past every bin
unfoldable pub sure_at : List Float → List ℕ → Float → ℕ → ℕ
sure_at list hints x p =
    let g = near_hint list x (get_or hints p 0) in
    cond (ltb p (min (length hints) 4096)) (cond (enclosed list x g) g (2 ^ 64 - 1)) (cond (eqb (p / 4096) 1) 4096 (2 ^ 64 - 1))

-- What a view of one state reads.
use Rattle.std.specs.Prelude.{Option, None, Some}
use Rattle.std.specs.Prelude.{List, cond, ◌&&◌, ℕ, ◌*◌, ltb, length, Float}
use Rattle.definitions.specs.Lists.{at}

-- number e of a state of len numbers that lie a stride apart, if the state and the slice have it
unfoldable pub seen : List Float → ℕ → ℕ → ℕ → Option Float
seen s len stride e = cond (ltb e len && ltb (e * stride) (length s)) (Some (at s (e * stride))) None

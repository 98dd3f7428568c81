-- What is added to a pack, as stores: number e of state s of n states is at e * n + s. Definitions only.
use Rattle.std.specs.Prelude.{List, ℕ, ◌+◌, ◌*◌, set, Float}
use Rattle.std.specs.Float.{binary64}
use Rattle.std.specs.Float.Ieee.{add, mul}
use Rattle.definitions.specs.Lists.{at}

-- x is added to the number at place i
abbrev pub bump : ℕ → Float → List Float → List Float
bump i x s = set s i (add binary64 (at s i) x)

-- w to number b of state s
abbrev pub add_hist : ℕ → ℕ → ℕ → Float → List Float → List Float
add_hist n s b w pack = bump (b * n + s) w pack

-- v times w to the total of state s, w to its weight
abbrev pub add_mean : ℕ → ℕ → Float → Float → List Float → List Float
add_mean n s v w pack = bump (1 * n + s) w (bump (0 * n + s) (mul binary64 v w) pack)

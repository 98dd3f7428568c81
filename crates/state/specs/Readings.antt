-- What the code's types stand for in the definitions.
use Rattle.std.specs.Prelude.{ℕ, ◌*◌, ◌≤◌, ◌<◌}
pub use Rattle.state_refusals.specs.Readings.{state_kind_of}

-- number e of state s is in a pack whose slice has n numbers, and the pack is within its limit
pub record InPack (states size s e n : ℕ) : Type 0 where
  pub state : s < states
  pub number : e < size
  pub within : states * size ≤ n
  pub limit : states * size ≤ 4096

use mathlib.Core.Path.{◌≡◌}
use Prim.Native.Nat.{◌-◌}
use Rattle.twopoint_cartesian.specs.Cells.{pairs_of, block_in_mean}
use Rattle.twopoint_cartesian.proofs.held.PairBlock.block_in_mean.Given as goal

abbrev pub invariant-loop-z : goal.invariant-loop-z
invariant-loop-z l = block_in_mean l.setup (pairs_of l.self) l.z (l.self.planes.l - l.z) l.m ≡ block_in_mean l.setup (pairs_of l.self) 0 l.self.planes.l l.initial.m

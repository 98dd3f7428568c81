use mathlib.Core.Path.{◌≡◌}
use Prim.Native.Nat.{◌-◌}
use Rattle.twopoint_cartesian.specs.Cells.{plane_of, plane_in_mean}
use Rattle.twopoint_cartesian.proofs.held.PairPlane.plane_in_mean.Given as goal

abbrev pub invariant-loop-y : goal.invariant-loop-y
invariant-loop-y l = plane_in_mean l.setup (plane_of l.self) l.y (l.self.rows.m - l.y) l.m ≡ plane_in_mean l.setup (plane_of l.self) 0 l.self.rows.m l.initial.m

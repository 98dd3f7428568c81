use mathlib.Core.Path.{ap}
use native.Mathlib.Omega.{arith}
use Rattle.twopoint_cartesian.specs.Cells.{plane_of}
use Rattle.twopoint_cartesian.proofs.Loops.{plane_turn, plane_done}
use Rattle.twopoint_cartesian.proofs.Histograms.{same_room}
use Rattle.twopoint_cartesian.proofs.held.Histograms.add_plane.Goals as goal

pub add_row-requires-clause-room : goal.add_row-requires-clause-room
add_row-requires-clause-room c = same_room _ _ _ _ _ _ (ap (λ r. r.n) c.row.ensures) c.loop-y.auto.values c.loop-y.auto.found c.requires.room

pub loop-y-preserved : goal.loop-y-preserved
loop-y-preserved c = plane_turn c.args.self.distances.setup (plane_of c.args.pairs) _ _ _ _ _ _ c.loop-y-test.true c.row.ensures c.add_row.ensures c.loop-y.invariant

pub returns : goal.returns
returns c = plane_done c.args.self.distances.setup (plane_of c.args.pairs) c.args.pairs.rows.m _ c.loop-y.y _ (omega arith) c.loop-y.invariant

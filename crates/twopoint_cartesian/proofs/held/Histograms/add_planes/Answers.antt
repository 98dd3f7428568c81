use mathlib.Core.Path.{ap}
use native.Mathlib.Omega.{arith}
use Rattle.twopoint_cartesian.specs.Cells.{pairs_of}
use Rattle.twopoint_cartesian.proofs.Loops.{block_turn, block_done}
use Rattle.twopoint_cartesian.proofs.Histograms.{same_room}
use Rattle.twopoint_cartesian.proofs.held.Histograms.add_planes.Goals as goal

pub add_plane-requires-clause-room : goal.add_plane-requires-clause-room
add_plane-requires-clause-room c = same_room _ _ _ _ _ _ (ap (λ p. p.rows.n) c.plane.ensures) c.loop-z.auto.values c.loop-z.auto.found c.requires.room

pub loop-z-preserved : goal.loop-z-preserved
loop-z-preserved c = block_turn c.args.self.distances.setup (pairs_of c.args.pairs) _ _ _ _ _ _ c.loop-z-test.true c.plane.ensures c.add_plane.ensures c.loop-z.invariant

pub returns : goal.returns
returns c = block_done c.args.self.distances.setup (pairs_of c.args.pairs) c.args.pairs.planes.l _ c.loop-z.z _ (omega arith) c.loop-z.invariant

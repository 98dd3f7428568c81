use native.Mathlib.Omega.{arith}
use Rattle.twopoint_cartesian.specs.Cells.{row_of}
use Rattle.twopoint_cartesian.proofs.Loops.{row_turn, row_end}
use Rattle.twopoint_cartesian.proofs.held.Histograms.add_pairs.Goals as goal

pub loop-x-preserved : goal.loop-x-preserved
loop-x-preserved c = row_turn c.args.self.distances.setup (row_of c.args.pairs) _ _ _ _ _ c.loop-x-test.true c.add_pair.ensures c.loop-x.invariant

pub returns : goal.returns
returns c = row_end c.args.self.distances.setup (row_of c.args.pairs) c.args.pairs.n _ c.loop-x.x _ (omega arith) c.loop-x.invariant

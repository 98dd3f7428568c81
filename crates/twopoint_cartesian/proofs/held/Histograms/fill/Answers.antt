use Rattle.twopoint_cartesian.proofs.Walk.{walk_turn, walk_done}
use Rattle.twopoint_cartesian.proofs.held.Histograms.fill.Goals as goal

pub loop-at-preserved : goal.loop-at-preserved
loop-at-preserved c = walk_turn c.args.self.distances.setup _ _ _ _ _ _ _ _ c.in-Some.ensures.steps c.add_overlap.ensures c.loop-at.invariant

pub returns : goal.returns
returns c = walk_done c.args.self.distances.setup _ _ _ _ _ c.in-None.ensures.steps.0 c.loop-at.invariant

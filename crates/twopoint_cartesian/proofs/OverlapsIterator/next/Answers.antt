use Rattle.twopoint_cartesian.proofs.Walk.{step_reached, head_reached}
use Rattle.twopoint_cartesian.proofs.OverlapsIterator.next.Goals as goal

pub invariant_of-self : goal.invariant_of-self
invariant_of-self c = record { reached = step_reached _ _ c.args.self.now.offsets c.next.new.self _ c.next.ensures.steps c.args.self.now.reached }

pub invariant_of-result : goal.invariant_of-result
invariant_of-result c = record { reached = head_reached _ _ _ _ c.args.self.now.reached _ c.in_ok-o.ensures.steps }

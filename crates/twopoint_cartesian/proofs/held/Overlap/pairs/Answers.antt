use Rattle.twopoint_cartesian.proofs.Cells.{first_fits, second_fits}
use Rattle.twopoint_cartesian.proofs.held.Overlap.pairs.Goals as goal

pub invariant_of-result : goal.invariant_of-result
invariant_of-result c =
    let h = c.args.self.reached in
    record { a_held = first_fits _ _ _ h _ c.planes.ensures _ c.from.ensures; b_held = second_fits _ _ _ h _ c.planes.ensures _ c.from-2.ensures }

pub returns : goal.returns
returns c = λ t. record { a = c.from.ensures t; b = c.from-2.ensures t; planes = c.planes.ensures t }

use native.Mathlib.Omega.{arith}
use Rattle.twopoint_cartesian.specs.Cells.{row_of}
use Rattle.twopoint_cartesian.proofs.Histograms.{value_turn}
use Rattle.twopoint_cartesian.proofs.held.PairRow.gather.Goals as goal

pub loop-x-preserved : goal.loop-x-preserved
loop-x-preserved c =
    value_turn c.args.setup (row_of c.args.self) c.loop-x.x c.args.values.now _ _ (omega (arith, c.requires, c.loop-x-test.true)) c.datum_at-d.ensures _ c.component_sum.ensures c.loop-x.invariant

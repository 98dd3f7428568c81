use mathlib.Core.Path.{ap, ◌∙◌}
use Rattle.idx_3d_offset.specs.Offsets.{auto_seq, cross_seq}
use Rattle.twopoint_cartesian.proofs.Walk.{auto_reached, cross_reached}
use Rattle.twopoint_cartesian.proofs.overlaps.Goals.{in-Auto, in-Cross}
use Rattle.twopoint_cartesian.proofs.overlaps.Goals as goal

pub invariant_of-result : goal.invariant_of-result
invariant_of-result c =
    record {
      reached = elim c.match-sets.branch [
        | in-Auto w ↦ rw w.result-is (auto_reached _ c.requires _ _ w.in-Auto.is (w.auto.ensures ∙ ap auto_seq w.axes_of.ensures))
        | in-Cross w ↦ rw w.result-is (cross_reached _ c.requires _ _ _ w.in-Cross.is (w.cross.ensures ∙ λ t. cross_seq (w.axes_of-in-Cross.ensures t) (w.axes_of-in-Cross-2.ensures t)))
      ];
    }

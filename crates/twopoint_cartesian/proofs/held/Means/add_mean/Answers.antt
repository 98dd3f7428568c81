use mathlib.Core.Path.{refl}
use native.Mathlib.Omega.{arith}
use Rattle.twopoint_cartesian.proofs.Walk.{found_fits, found_added, none_added}
use Rattle.twopoint_cartesian.proofs.Means.{mean_merged}
use Rattle.twopoint_cartesian.proofs.held.Means.add_mean.Goals as goal

pub merge_state-requires : goal.merge_state-requires
merge_state-requires c = found_fits c.args.self.distances.setup _ _ c.bin_of.ensures _ c.in-Some.is _ _ (omega arith) c.requires

pub returns-in-Some : goal.returns-in-Some
returns-in-Some c =
    let h = c.args.at.reached in
    found_added c.args.self.distances.setup _ _ c.bin_of.ensures _ c.in-Some.is _ _ _ _ _ _ _ refl
    (mean_merged _ c.args.self.mean _ _ h.first h.second _ _ _ _ _ c.mean-m.ensures c.merge_state.ensures)

pub returns-in_default : goal.returns-in_default
returns-in_default c = none_added c.args.self.distances.setup _ _ c.bin_of.ensures c.in_default.is _ _ _ _ _ _ refl

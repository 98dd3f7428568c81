use mathlib.Core.Path.{refl}
use Rattle.twopoint_cartesian.proofs.Walk.{found_fits, found_added, none_added}
use Rattle.twopoint_cartesian.proofs.held.Histograms.add_overlap.Goals as goal

pub add_cells-requires : goal.add_cells-requires
add_cells-requires c = found_fits c.args.self.distances.setup _ _ c.bin_of.ensures _ c.in-Some.is _ _ (rw c.args.self.histogram at c.args.self.distances.setup.usable.small) c.requires

pub returns-in-Some : goal.returns-in-Some
returns-in-Some c = found_added c.args.self.distances.setup _ _ c.bin_of.ensures _ c.in-Some.is _ _ _ _ _ _ _ refl c.add_cells.ensures

pub returns-in_default : goal.returns-in_default
returns-in_default c = none_added c.args.self.distances.setup _ _ c.bin_of.ensures c.in_default.is _ _ _ _ _ _ refl

use Rattle.edge_table.proofs.Lookups.{found_bin}
use mathlib.Core.Path.{◌∙◌, ap}
use Rattle.reducer.specs.Consume.{built_bin}
use Rattle.twopoint_cartesian.proofs.held.Distances.bin_of.Goals as goal

pub returns : goal.returns
returns c = found_bin _ _ _ _ c.bin_of.ensures c.args.self.tabled c.distance_squared-distance.type_inv ∙ ap (built_bin _) c.distance_squared-distance.ensures

use native.Mathlib.Omega.{arith}
use mathlib.Core.Path.{◌≡◌, ap, ◌∙◌}
use Prim.Native.Nat.{◌≤◌}
use lib.ListN.{length}
use lib.Seq.{length-take-le}
use borrow.Author.Rules.{rules}
use lib.Ieee.{of_bits}
use Rattle.reducer.specs.Consume.{built_bins}
use Rattle.twopoint_cartesian.specs.Cells.{fresh}
use Rattle.twopoint_cartesian.proofs.Cells.{cells_done}
use Rattle.twopoint_cartesian.proofs.Histograms.{offset_room}
use Rattle.twopoint_cartesian.proofs.Merge.{room_sized, state_merged_law}
use Rattle.twopoint_cartesian.proofs.held.Histograms.add_cells.Goals as goal

pub add_planes-requires-clause-room : goal.add_planes-requires-clause-room
add_planes-requires-clause-room c =
    let v : length c.args.room.now.values ≡ 64 = search rules in
    let f : length c.args.room.now.found ≡ 64 = search rules in
    offset_room _ _ _ c.args.at.reached _ c.pairs.ensures _ _ (record { values = omega arith; found = omega arith })

pub merge_state-requires : goal.merge_state-requires
merge_state-requires c =
    let s : length c.args.room.now.state ≡ 256 = search rules in
    let t : built_bins c.args.self.values.edges ≤ 256 = rw c.args.self.histogram at c.args.self.distances.setup.usable.small in
    let l = length-take-le c.n_bins.result c.args.room.now.state (omega (arith, c.n_bins.ensures, s, t)) in
    room_sized _ _ _ _ _ (omega (arith, c.add_planes.auto, c.fill.auto, l, c.n_bins.ensures)) c.requires

pub returns : goal.returns
unfolding of_bits fresh
returns c =
    let s : length c.args.room.now.state ≡ 256 = search rules in
    let t : built_bins c.args.self.values.edges ≤ 256 = rw c.args.self.histogram at c.args.self.distances.setup.usable.small in
    let l = length-take-le c.n_bins.result c.args.room.now.state (omega (arith, c.n_bins.ensures, s, t)) in
    let e : c.fill.new.self ≡ fresh (built_bins c.args.self.values.edges) = c.fill.ensures.after (λ y e. e) ∙ ap fresh (l ∙ c.n_bins.ensures) in
    state_merged_law _ _ _ _ _ _ (cells_done _ _ _ _ c.args.at.reached _ _ _ _ c.pairs.ensures e c.add_planes.ensures) c.merge_state.ensures

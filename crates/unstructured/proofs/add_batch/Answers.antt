use mathlib.Core.Path.{◌≡◌, refl, subst}
use lib.ListN.{length, take}
use borrow.Author.Rules.{rules}
use Rattle.reducer.specs.Readings.{BuiltEdges}
use Rattle.edge_table.specs.Tabled.{Tabled}
use Rattle.unstructured_points.specs.Readings.{the_point}
use Rattle.unstructured.specs.Pairs.{point_in}
use Rattle.unstructured.proofs.Batches.{kept_listed, batch_row, parts_held, parts_weights, parts_read}
use Rattle.unstructured.proofs.add_batch.Goals as goal

pub invariant_of-readings : goal.invariant_of-readings
invariant_of-readings c = let x = c.args in
    let i = c.list_inside-c in
    let same : length c.distances.new.d ≡ x.m = search rules in
    record {
      parts = parts_held x.set.now x.j;
      listed = kept_listed x.look.now.edges.table.ends c.distances.new.d x.m _ _ (parts_weights x.set.now x.j x.m c.requires.few) (rw same at i.ensures.1);
    }

pub returns : goal.returns
returns c = let x = c.args in
    let look = x.look.now in
    let i = c.list_inside-c in
    let d = c.distances in
    let look_tabled : Tabled look.setup.edges look.edges.table.ends = subst (λ (e : BuiltEdges). Tabled e look.edges.table.ends) look.edges_are look.edges.tabled in
    let same : length d.new.d ≡ x.m = search rules in
    let lent : length (take x.m x.room.now.d) ≡ x.m = search rules in
    batch_row look.setup (the_point x.a) (point_in x.set.now) look.edges.table.ends look_tabled d.new.d x.m x.j (rw lent at d.ensures) (take i.result x.room.now.values) _ _ _ x.scratch.now _
    (parts_read x.set.now x.j _ refl refl refl refl) (rw same at i.ensures.1) (rw same at i.ensures.2) c.add_places.ensures

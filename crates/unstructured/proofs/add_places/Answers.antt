use mathlib.Core.Path.{sym, ◌∙◌, ap}
use mathlib.Core.Bool.{true, false}
use mathlib.Core.List.{map}
use borrow.Author.Rules.{rules}
use Rattle.edge_batch.specs.Batch.{number_in}
use Rattle.edge_batch.proofs.Batch.{numbers_map}
use Rattle.reducer.specs.Readings.{reading_of}
use Rattle.unstructured.specs.Batches.{reading_in}
use Rattle.unstructured.proofs.Batches.{places_added_law, some_numbers, no_numbers}
use Rattle.unstructured.proofs.add_places.Goals.{in-Some, in_default}
use Rattle.unstructured.proofs.add_places.Goals as goal

pub returns : goal.returns
returns c = let x = c.args in
    let look = x.look.now in
    let r = x.readings.now in
    let k = c.requires in
    places_added_law look.setup look.edges.edges _ (reading_of x.first) (reading_in r) r.places.now x.d.now c.bins_of.new.found x.values.now c.match-look.values x.scratch.now _ look.edges_are look.values_are
    (c.bins_of.ensures ∙ numbers_map true look.edges.edges x.d.now x.bins.now (k.1 ∙ sym k.0))
    (elim c.match-look.branch [
      | in-Some w ↦ some_numbers _ _ _ _ w.in-Some.values_look w.in-Some.is
          (w.values-is ∙ w.bins_of-in-Some.ensures ∙ numbers_map false _ _ _ (search rules) ∙ ap (map (number_in false w.in-Some.values_look.edges)) w.pair_values.ensures)
      | in_default w ↦ no_numbers _ _ _ _ w.in_default.is w.values-is
    ]) c.add_found.ensures

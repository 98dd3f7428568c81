use mathlib.Core.Path.{◌≡◌, ap, ◌∙◌}
use native.Mathlib.Omega.{arith}
use Rattle.std.specs.Prelude.{Some}
use lib.ListN.{length, get_or}
use Rattle.point_pairs.specs.Pairs.{the_pair, pair_added}
use Rattle.reducer.specs.Readings.{reading_of}
use Rattle.unstructured.specs.Batches.{reading_in}
use Rattle.unstructured.proofs.Batches.{placed_next}
use Rattle.unstructured.proofs.add_pairs.Goals as goal

pub loop-q-preserved : goal.loop-q-preserved
loop-q-preserved c = let x = c.args in
    let f = x.found.now in
    let t = c.loop-q in
    placed_next x.setup.now (reading_of x.first) (reading_in f.readings) f.readings.places.now f.bins.now f.values.now t.q _ c.pair_of-pair.result x.scratch.now t.scratch _ t.invariant
    c.reading_at-second.ensures c.pair_of-pair.ensures
    (c.add.ensures ∙ ap (λ r. pair_added r (Some (get_or f.values.now t.q 0)) x.setup.now.n_states (the_pair c.pair_of-pair.result) t.scratch) c.requires)

pub returns : goal.returns
returns c = let t = c.loop-q in
    let e : t.q ≡ length c.args.found.now.readings.places.now = omega arith in
    rw e at t.invariant

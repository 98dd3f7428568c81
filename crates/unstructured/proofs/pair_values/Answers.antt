use mathlib.Core.Path.{◌∙◌, ap}
use Prim.Native.Nat.{ℕ}
use native.Mathlib.Omega.{arith}
use lib.ListN.{get_or}
use lib.Ieee.{nan}
use Rattle.definitions.specs.Points.{Reading}
use Rattle.definitions.specs.Reducer.{datum_of, component_sum}
use Rattle.reducer.specs.Readings.{op_of, reading_of}
use Rattle.unstructured.specs.Batches.{reading_in}
use Rattle.unstructured.proofs.Batches.{stored_next, values_are}
use Rattle.unstructured.proofs.pair_values.Goals as goal

pub loop-q-preserved : goal.loop-q-preserved
loop-q-preserved c = let x = c.args in
    let t = c.loop-q in
    stored_next nan t.d t.q c.component_sum.result (λ (q : ℕ). component_sum (datum_of (op_of x.op) (reading_of x.first) (reading_in x.readings.now (get_or x.readings.now.places.now q 0))))
    (omega arith)
    (c.component_sum.ensures ∙ ap component_sum (c.datum_of.ensures ∙ ap (λ (y : Reading). datum_of (op_of x.op) (reading_of x.first) y) c.reading_at-second.ensures)) t.invariant

pub returns : goal.returns
returns c = let x = c.args in
    let t = c.loop-q in
    values_are (reading_of x.first) (reading_in x.readings.now) x.op x.readings.now.places.now t.d (t.auto.d ∙ c.requires) (λ q p. t.invariant q (omega arith))

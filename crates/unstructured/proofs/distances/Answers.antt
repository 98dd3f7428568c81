use mathlib.Core.Path.{◌∙◌, ap}
use Prim.Native.Nat.{ℕ, ◌+◌}
use native.Mathlib.Omega.{arith}
use lib.Ieee.{nan}
use Rattle.definitions.specs.Points.{squared_diff_norm}
use Rattle.unstructured_points.specs.Readings.{the_point}
use Rattle.unstructured.specs.Pairs.{point_in}
use Rattle.unstructured.proofs.Batches.{stored_next}
use Rattle.unstructured.proofs.distances.Goals as goal

pub loop-e-preserved : goal.loop-e-preserved
loop-e-preserved c = let t = c.loop-e in
    let s = c.args in
    stored_next nan t.d t.e c.squared_diff_norm.result (λ (x : ℕ). squared_diff_norm (the_point s.a) (point_in s.set.now (s.j + x)))
    (omega arith) (c.squared_diff_norm.ensures ∙ ap (squared_diff_norm (the_point s.a)) c.point_at-b.ensures) t.invariant

pub returns : goal.returns
returns c = λ x p. c.loop-e.invariant x (omega arith)

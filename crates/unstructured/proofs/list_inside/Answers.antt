use mathlib.Core.Path.{◌≡◌, refl, sym, ap, ◌∙◌}
use mathlib.Core.Bool.{not}
use Prim.Native.Nat.{◌+◌, zero-le}
use native.Mathlib.Nat.{le_refl}
use native.Mathlib.Omega.{arith}
use Rattle.std.specs.Int.{from_bool}
use lib.ListN.{length, take, get_or, set}
use lib.Ieee.{Float, nan}
use Rattle.edge_table.specs.Table.{past_end}
use Rattle.unstructured.specs.Batches.{kept_below, picked}
use Rattle.unstructured.proofs.Batches.{bit_le, one_more, kept_next, picked_next, above_stored}
use Rattle.unstructured.proofs.list_inside.Goals as goal

pub loop-e-init : goal.loop-e-init
unfolding kept_below picked
loop-e-init c = record { few = zero-le; listed = refl; front = refl; rest = λ x p. refl }

pub loop-e-preserved : goal.loop-e-preserved
loop-e-preserved c = let x = c.args in
    let t = c.loop-e in
    let v = get_or x.d.now t.e nan in
    let same : get_or t.d t.e nan ≡ v = t.invariant.rest t.e (le_refl t.e) in
    let w = not (past_end x.ends v) in
    let f : c.from-c.result ≡ from_bool w = c.from-c.ensures ∙ ap from_bool (c.is_within.ensures ∙ ap (λ (y : Float). not (past_end x.ends y)) same) in
    record {
      few = omega (arith, f, bit_le w, t.invariant.few);
      listed = one_more t.places t.c _ w t.e _ f (omega (arith, t.invariant.few)) t.invariant.listed ∙ sym (kept_next _ _ _);
      front = ap (λ (y : Float). take (t.c + c.from-c.result) (set t.d t.c y)) same ∙ one_more t.d t.c _ w v _ f (omega (arith, t.invariant.few)) t.invariant.front ∙ sym (picked_next _ _ _);
      rest = above_stored t.d t.c t.e _ x.d.now t.invariant.few t.invariant.rest;
    }

pub returns : goal.returns
returns c = let t = c.loop-e in
    let e : t.e ≡ length c.args.d.now = omega arith in
    (omega (arith, t.invariant.few), rw e at t.invariant.listed, rw e at t.invariant.front)

use mathlib.Core.Path.{◌≡◌, ap, ◌∙◌}
use Prim.Native.Nat.{suc}
use native.Mathlib.Omega.{arith}
use lib.ListN.{length}
use lib.Ieee.{Float}
use mathlib.Core.List.{List}
use Rattle.std.specs.Iterator.Adapters.{take_count}
use Rattle.state.proofs.Packs.{made_none, rest_whole, made_more, rest_more, made_all}
use Rattle.state.proofs.add_packs.Goals as goal

pub loop-other-init : goal.loop-other-init
loop-other-init c =
    let e = c.into_iter-other-iterator.ensures.into_iter_gives in
    let f = c.take-other-items.ensures.source in
    let n = ap take_count e in (
      0,
      omega (arith, n),
      rw (e, f) c.chunks_exact.ensures.size,
      made_none c.args.n c.args.n_packs c.args.packs.now _ c.requires.0 c.requires.2 c.split_at_mut-first.ensures.front,
      rest_whole c.args.n c.args.packs.now c.split_at_mut-first.result.1.now _ c.split_at_mut-first.ensures.back (rw (e, f) c.chunks_exact.ensures.rest),
    )

pub loop-other-preserved : goal.loop-other-preserved
loop-other-preserved c =
    let i = c.loop-other.invariant in
    let s = c.in-Some.ensures.steps in
    let d : length c.in-Some.other.now ≡ c.args.n = s.0.1.1 ∙ i.2 in (
      suc i.0,
      omega (arith, s.1, i.1),
      s.0.0 ∙ i.2,
      c.add_all.ensures ∙ made_more c.args.n c.args.n_packs i.0 c.args.packs.now c.requires.2 c.loop-other.first c.in-Some.other.now _ _ i.3 i.4 s.0.1.0 d,
      rest_more c.args.n c.args.n_packs i.0 c.args.packs.now c.requires.2 c.in-Some.other.now _ _ i.4 s.0.1.0 d,
    )

pub returns : goal.returns
returns c =
    let i = c.loop-other.invariant in
    let s = c.in-None.ensures.steps in
    made_all c.args.n c.args.n_packs i.0 c.args.packs.now c.requires.2 _ c.loop-other.first _ i.1 (λ z. omega (arith, (s z).1, i.2, ap (λ (l : List Float). length l) i.4)) i.3 c.split_at_mut-first.ensures.back

-- The scan from the last edge down, by the answer of std's `rposition`.
use mathlib.Core.Path.{◌≡◌, sym, ◌∙◌}
use mathlib.Core.Bool.{Bool, true, false}
use mathlib.Core.List.{List}
use Prim.Native.Nat.{ℕ, suc, ◌+◌, ◌-◌, ◌<◌, zero-le}
use native.Mathlib.Omega.{arith}
use lib.ListN.{length}
use lib.Ieee.{Float, nan}
use denote.Ref.{Bor}
use denote.Param.Members.{Mut}
use Rattle.std.specs.Fn.{Called}
use Rattle.std.specs.Prelude.{Option, None, Some, MatchOption, IsSomeAnd, IfSome}
use Rattle.std.specs.Option.{option_map}
use Rattle.std.specs.Iterator.Runs.{Run, SomeRun, ItemsMapToReversed, AllItemsGive, IsFirstToGive}
use Rattle.std.proofs.lemmas.Option.{same_Some}
use Rattle.definitions.specs.Lists.{at}
use Rattle.definitions.specs.Floats.{not_after}
use Rattle.definitions.specs.Bins.{last_edge}
use Rattle.bins.proofs.Irregular.{past}

-- an item that is there
if_some : (o : Option (Bor Float)) (P : Bor Float → Type 0) → IsSomeAnd o P → IfSome o P
if_some None P h = tt
if_some (Some y) P h = h

-- what a call of the closure says of an edge: whether it is not after x. The calls go from the last edge down.
module _ {S F : Type 0} {steps : S → Option (Bor Float) → S → Type 0} (g : Mut F (Bor Float × Unit {0}) Bool) (f : F) (es : List Float) (x : Float)
    (says : (y : Bor Float) (b : Bool) (q : F) → Called g f (y, tt) b q → (q ≡ f) × ((k : ℕ) → k < length es → y.now ≡ at es k → not_after (at es k) x ≡ b)) where
  module _ (p : Run steps) (m : ItemsMapToReversed p (λ y. y.now) es) (k : ℕ) (h : k < length es) (l : length es - 1 - k < p.len) (b : Bool) where
    here : IfSome (p.at (length es - 1 - k)) (λ y. Called g f (y, tt) b f) → not_after (at es k) x ≡ b
    here = go (p.at (length es - 1 - k)) (m.2 k nan h l)
      where
        go : (o : Option (Bor Float)) → option_map (λ y. y.now) o ≡ Some (at es k) → IfSome o (λ y. Called g f (y, tt) b f) → not_after (at es k) x ≡ b
        go None e q = cc
        go (Some y) e q = (says y b f q).1 k h (same_Some y.now (at es k) e)

    there : IsSomeAnd (p.at (length es - 1 - k)) (λ y. Called g f (y, tt) b f) → not_after (at es k) x ≡ b
    there q = here (if_some (p.at (length es - 1 - k)) (λ y. Called g f (y, tt) b f) q)

  pub last_found : (s : S) (r : Option ℕ) → ((p : Run steps) → p.from ≡ s → ItemsMapToReversed p (λ y. y.now) es) → IfSome r (λ i. i < length es)
      → SomeRun steps s (λ u. MatchOption r ((u.whole ≡ true) × AllItemsGive u g f false) (λ i. (i + u.len ≡ length es) × IsFirstToGive u g f true false (length es - 1 - i)))
      → r ≡ last_edge es x (length es)
  unfolding last_edge
  last_found s None m t a =
      let w = m a.0 a.1 in
      let keeps = λ (y : Bor Float × Unit {0}) (b : Bool) (q : F) (c : Called g f y b q). (says y.0 b q c).0 in
      sym (past es x (length es) 0 zero-le (λ k i l. here a.0 w k l (omega (arith, w.1 a.2.0)) false (a.2.1 keeps (length es - 1 - k))))
  last_found s (Some i) m t a =
      let w = m a.0 a.1 in
      let keeps = λ (y : Bor Float × Unit {0}) (b : Bool) (q : F) (c : Called g f y b q). (says y.0 b q c).0 in
      let k : length es - 1 - i < a.0.len = omega (arith, a.2.0, t) in
      let z = a.2.1 keeps in
      let e : not_after (at es i) x ≡ true = there a.0 w i t k true z.0 in
      sym (past es x (length es) (suc i) t (λ j k l. there a.0 w j l (omega (arith, a.2.0)) false (z.1 (length es - 1 - j) (omega arith))) ∙ rw e)

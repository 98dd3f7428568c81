-- What an answer says of the rules whose number it gives.
use mathlib.Core.Path.{◌≡◌, sym, ◌∙◌, ap}
use native.Mathlib.Omega.{arith}
use mathlib.Core.List.{List}
use Rattle.std.specs.Prelude.{IsErrAnd}
use Rattle.std.proofs.lemmas.Result.{err_from_is_err_and}
use Prim.Native.Nat.{ℕ}
use borrow.Author.Tests.{eq-eqb, ne_eqb}
use Rattle.laws.specs.Refusals.{or_else}
use Rattle.std.specs.declared.result.Result.{Result}
use Rattle.std.specs.declared.result.Result.TheVariants.{Ok, Err}
use Rattle.definitions.specs.Rules.{Rule, refusal, if_accepted}
use Rattle.refusals.specs.declared.Refusal.{Refusal}
use Rattle.refusals.specs.declared.Refusal.TheVariants.{NoPoints, StrideBelowPoints, ValuesLength, PositionsLength, NotThreeComponents, WeightsLength, OverLimit, NoBins, MaxNotAboveMin, NotFinite, NoBinSize, TooFewEdges, NotIncreasing, EmptyAxis, XStride, ZStride, YStride, BlockLength, ComponentsLength, WidthNotPositive, BlockOrder, NoPairs, NotSingle, PackShape, StateIndex, SegmentIndex, RecordLength, FileUnreadable}
use Rattle.refusals.specs.Numbers.{refusal_number, number_of}

-- 0 is no refusal's number
pub number_nonzero : (r : Refusal) → refusal_number r ≡ 0 → ⊥
number_nonzero NoPoints h = omega arith
number_nonzero StrideBelowPoints h = omega arith
number_nonzero ValuesLength h = omega arith
number_nonzero PositionsLength h = omega arith
number_nonzero NotThreeComponents h = omega arith
number_nonzero WeightsLength h = omega arith
number_nonzero OverLimit h = omega arith
number_nonzero NoBins h = omega arith
number_nonzero MaxNotAboveMin h = omega arith
number_nonzero NotFinite h = omega arith
number_nonzero NoBinSize h = omega arith
number_nonzero TooFewEdges h = omega arith
number_nonzero NotIncreasing h = omega arith
number_nonzero EmptyAxis h = omega arith
number_nonzero XStride h = omega arith
number_nonzero ZStride h = omega arith
number_nonzero YStride h = omega arith
number_nonzero BlockLength h = omega arith
number_nonzero ComponentsLength h = omega arith
number_nonzero WidthNotPositive h = omega arith
number_nonzero BlockOrder h = omega arith
number_nonzero NoPairs h = omega arith
number_nonzero NotSingle h = omega arith
number_nonzero PackShape h = omega arith
number_nonzero StateIndex h = omega arith
number_nonzero SegmentIndex h = omega arith
number_nonzero RecordLength h = omega arith
number_nonzero FileUnreadable h = omega arith

-- an error that `?` hands on
pub number_carried : {A : Type 0} (a : Result A Refusal) (r : Refusal) → IsErrAnd a (λ s. s ≡ r) → number_of a ≡ refusal_number r
number_carried a r h =
    let p = err_from_is_err_and a h in
    ap number_of p.1 ∙ ap refusal_number p.2

-- a is what a call answers of the rules l
module _ {A : Type 0} (l : List Rule) (a : Result A Refusal) (q : number_of a ≡ refusal l) where
  pub refused_not : (r : Refusal) → a ≡ Err r → refusal l ≡ 0 → ⊥
  refused_not r e z = number_nonzero r (sym (ap number_of e) ∙ q ∙ z)

  pub accepted_none : (v : A) → a ≡ Ok v → refusal l ≡ 0
  accepted_none v e = sym q ∙ ap number_of e

  -- what is left where the call is refused, and where it is accepted
  module _ {B : Type 0} (x y : B) where
    pub refused_leaves : (r : Refusal) → a ≡ Err r → y ≡ if_accepted l x y
    refused_leaves r e = rw (ne_eqb (refusal l) 0 (refused_not r e))

    pub accepted_leaves : (v : A) → a ≡ Ok v → x ≡ if_accepted l x y
    accepted_leaves v e = rw (eq-eqb (refusal l) 0 (accepted_none v e))

-- ---- one refusal after another; a is what the first call answers, x its number and y that of what follows
module _ {A : Type 0} (a : Result A Refusal) (x y : ℕ) (q : number_of a ≡ x) where
  pub refused_first : (r : Refusal) → a ≡ Err r → {B : Type 0} → (s : Result B Refusal) → IsErrAnd s (λ t. t ≡ r) → number_of s ≡ or_else x y
  refused_first r e s k = number_carried s r k ∙ (rw (← q, e, ne_eqb (refusal_number r) 0 (number_nonzero r)))

  pub accepted_first : (v : A) → a ≡ Ok v → (z : ℕ) → z ≡ y → z ≡ or_else x y
  accepted_first v e z h = rw (← q, e) h

-- A pack's shape that is refused: the operation's number is the shape's.
use mathlib.Core.Path.{◌≡◌, refl, sym, ◌∙◌, ap}
use mathlib.Core.Bool.{Bool, true, false, cond, ◌||◌, or-false, or_assoc}
use mathlib.Core.List.{[], ◌∷◌}
use Prim.Native.Nat.{ℕ}
use Rattle.std.specs.Prelude.{IsErrAnd}
use Rattle.std.specs.declared.result.Result.{Result}
use Rattle.std.specs.declared.result.Result.TheVariants.{Err}
use Rattle.refusals.specs.declared.Refusal.{Refusal}
use Rattle.refusals.specs.Numbers.{number_of}
use Rattle.refusals.proofs.Answers.{number_nonzero, number_carried}
use lib.Dec.{ltb}
use Rattle.definitions.specs.Reducer.{StateKind, mean, histogram, state_size}
use Rattle.definitions.specs.Rules.{rule, refusal, over_state}

-- the kind's limit, by its size
pub kind_over : (K : StateKind) → over_state K ≡ ltb 256 (state_size K)
kind_over mean = refl
kind_over (histogram n) = refl

-- a is what the shape's rules give, p, n and b say whether they are broken, and s is what `?` hands on
module _ {A B : Type 0} (p n b : Bool) (a : Result A Refusal) (h : number_of a ≡ refusal (rule 7 p ∷ rule 8 n ∷ rule 24 b ∷ [])) where
  module _ (r : Refusal) (e : a ≡ Err r) (s : Result B Refusal) (c : IsErrAnd s (λ t. t ≡ r)) where
    number : number_of s ≡ refusal (rule 7 p ∷ rule 8 n ∷ rule 24 b ∷ [])
    number = number_carried s r c ∙ sym (ap number_of e) ∙ h

    -- u is what else has number 24, and k the number of the rules that follow
    pub refused : (u : Bool) (k : ℕ) → number_of s ≡ cond p 7 (cond n 8 (cond (b || u) 24 k))
    refused u k = go p n b number
      where
        go : (p n b : Bool) → number_of s ≡ refusal (rule 7 p ∷ rule 8 n ∷ rule 24 b ∷ []) → number_of s ≡ cond p 7 (cond n 8 (cond (b || u) 24 k))
        go true n b q = q
        go false true b q = q
        go false false true q = q
        go false false false q = absurd (number_nonzero r (sym (number_carried s r c) ∙ q))

    pub refused_two : (u v : Bool) (k : ℕ) → number_of s ≡ cond p 7 (cond n 8 (cond (b || u || v) 24 k))
    refused_two u v k = simp or_assoc (refused (u || v) k)

    -- i says whether the second pack is over its limit
    pub refused_four : (i o u v w x : Bool) → i ≡ o → i ≡ false → number_of s ≡ cond (p || o) 7 (cond n 8 (cond (b || u || v || w || x) 24 0))
    refused_four i o u v w x q z = rw (← q, z, or-false p) (simp or_assoc (refused (u || (v || (w || x))) 0))

-- The number of a call whose words are written, and three words stored.
use mathlib.Core.Path.{refl}
use mathlib.Core.List.{List, [], ◌∷◌}
use native.Mathlib.Omega.{arith}
use lib.ListN.{length}
use borrow.Author.Tests.{le-ltb}
use Rattle.std.specs.Prelude.{◌≡◌, ◌≤◌, ℕ, slice_index_or, slice_set}
use Rattle.std.specs.Result.{result_and}
use Rattle.std.specs.declared.result.Result.{Result}
use Rattle.std.specs.declared.result.Result.TheVariants.{Ok, Err}
use Rattle.std.proofs.lemmas.Bool.{ne_eqb}
use Rattle.refusals.specs.declared.Refusal.{Refusal}
use Rattle.refusals.specs.Numbers.{refusal_number, number_of}
use Rattle.refusals.proofs.Answers.{number_nonzero}
use Rattle.capi_words.specs.Words.{words_number, written}

-- a call's answer, then the writing's
pub number_of_and : {A B : Type 0} (a : Result A Refusal) (w : Result B Refusal) (n : ℕ) → number_of w ≡ words_number 0 n
    → number_of (result_and a w) ≡ words_number (number_of a) n
unfolding words_number
number_of_and (Ok v) w n h = h
number_of_and (Err r) w n h = rw (ne_eqb (refusal_number r) 0 (number_nonzero r))

-- three words, one by one, at the front of a slice that has room for them
pub three_stored : (w out : List ℕ) → length w ≡ 3 → 3 ≤ length out
    → slice_set (slice_set (slice_set out 0 (slice_index_or w 0 0)) 1 (slice_index_or w 1 0)) 2 (slice_index_or w 2 0) ≡ written w out
unfolding written
three_stored (a ∷ b ∷ c ∷ []) (x ∷ y ∷ z ∷ l) e h = rw (le-ltb (length (x ∷ y ∷ z ∷ l)) 3 h)
three_stored (a ∷ b ∷ c ∷ []) [] e h = absurd (omega (arith, h))
three_stored (a ∷ b ∷ c ∷ []) (x ∷ []) e h = absurd (omega (arith, h))
three_stored (a ∷ b ∷ c ∷ []) (x ∷ y ∷ []) e h = absurd (omega (arith, h))
three_stored [] out e h = absurd (omega (arith, e))
three_stored (a ∷ []) out e h = absurd (omega (arith, e))
three_stored (a ∷ b ∷ []) out e h = absurd (omega (arith, e))
three_stored (a ∷ b ∷ c ∷ d ∷ w) out e h = absurd (omega (arith, e))

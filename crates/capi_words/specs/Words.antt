-- A flat call's numbers: each stands for something, so that no call is without a meaning. An answer is a number, or three words.
use Rattle.std.specs.Prelude.{Option, None, Some}
use Rattle.std.specs.Prelude.{List, [], ◌∷◌, ◌++◌, cond, ℕ, eqb, ltb, length, drop, Float}
use Rattle.definitions.specs.Bins.{Edges, regular, irregular}
use Rattle.definitions.specs.Reducer.{Kind, comp0_mean, component_sum_mean, component_sum_histogram}
use Rattle.state_refusals.specs.declared.StateKind.{StateKind}
use Rattle.state_refusals.specs.declared.StateKind.TheVariants.{Mean, Histogram}
use Rattle.reducer.specs.declared.PairOperation.{PairOperation}
use Rattle.reducer.specs.declared.PairOperation.TheVariants.{ElementwiseMultiply, ElementwiseSub}

-- 0: regular
unfoldable pub edges_from : ℕ → Float → Float → ℕ → List Float → Edges
edges_from stated min max n list = cond (eqb stated 0) (regular min max n) (irregular list)

-- 0: mean over the first component; 1: mean over the sum
unfoldable pub kind_from : ℕ → Edges → Kind
kind_from form e = cond (eqb form 0) comp0_mean (cond (eqb form 1) component_sum_mean (component_sum_histogram e))

-- 0: multiplied
unfoldable pub op_from : ℕ → PairOperation
op_from subtract = cond (eqb subtract 0) ElementwiseMultiply ElementwiseSub

-- 0: left out
unfoldable pub stride_from : ℕ → ℕ → Option ℕ
stride_from stated k = cond (eqb stated 0) None (Some k)

-- 0: a mean
unfoldable pub state_kind_from : ℕ → ℕ → StateKind
state_kind_from histogram n = cond (eqb histogram 0) Mean (Histogram n)

-- what a slice holds that words are written to: the words and its own tail, or what it held where it has no room for them
unfoldable pub written : List ℕ → List ℕ → List ℕ
written words out = cond (ltb (length out) (length words)) out (words ++ drop (length words) out)

-- the number of a call that writes three words to a slice of n: its own refusal's, then 24 where there is no room for them
unfoldable pub words_number : ℕ → ℕ → ℕ
words_number number n = cond (eqb number 0) (cond (ltb n 3) 24 0) number

-- the number, whether there is a bin, and the bin
abbrev pub lookup_words : ℕ → Option (Option ℕ) → List ℕ
lookup_words n None = n ∷ 0 ∷ 0 ∷ []
lookup_words n (Some None) = n ∷ 0 ∷ 0 ∷ []
lookup_words n (Some (Some i)) = n ∷ 1 ∷ i ∷ []

-- the number, and the bounds
abbrev pub segment_words : ℕ → Option (ℕ × ℕ) → List ℕ
segment_words n None = n ∷ 0 ∷ 0 ∷ []
segment_words n (Some b) = n ∷ b.0 ∷ b.1 ∷ []

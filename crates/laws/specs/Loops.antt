-- Loops as what is left of them, over any state. Definitions only.
use Rattle.std.specs.Prelude.{List, [], ◌∷◌, ℕ, zero, suc, Float}

-- the index runs from k for n turns
abbrev pub loop_left : {S : Type 0} → (ℕ → S → S) → ℕ → ℕ → S → S
loop_left body k zero s = s
loop_left body k (suc n) s = loop_left body (suc k) n (body k s)

-- one element of the list after another
abbrev pub run_on : {A S : Type 0} → (A → S → S) → List A → S → S
run_on upd [] s = s
run_on upd (a ∷ l) s = run_on upd l (upd a s)

-- the same where the state is a pack
abbrev pub fold_pack : {A : Type 0} → (A → List Float → List Float) → List A → List Float → List Float
fold_pack upd l s = run_on upd l s

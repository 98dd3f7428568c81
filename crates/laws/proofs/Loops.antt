-- Loops as what is left of them, over any state. `loop_left body k n s`: the index runs from k for n turns. Nested loops are a fold over the list that `flat_map` and `map` make of the ranges,
-- so a loop's invariant may say: what is left, run on the state as it is now, gives the result. Assumes nothing.
use mathlib.Core.Path.{◌≡◌, refl, sym, ap, ◌∙◌}
use mathlib.Core.List.{List, [], ◌∷◌, ◌++◌, map}
use Prim.Native.Nat.{ℕ, zero, suc}
use Rattle.definitions.specs.Lists.{flat_map, range}
use Rattle.laws.specs.Loops.{loop_left, run_on}

module _ {A S : Type 0} (upd : A → S → S) where
  pub run_append : (l m : List A) (s : S) → run_on upd (l ++ m) s ≡ run_on upd m (run_on upd l s)
  run_append [] m s = refl
  run_append (a ∷ l) m s = run_append l m (upd a s)

  -- the innermost loop
  pub loop_map : (g : ℕ → A) (k n : ℕ) (s : S) → loop_left (λ i s. upd (g i) s) k n s ≡ run_on upd (map g (range k n)) s
  loop_map g k zero s = refl
  loop_map g k (suc n) s = loop_map g (suc k) n (upd (g k) s)

  -- a loop over loops
  pub loop_flat : (f : ℕ → List A) (body : ℕ → S → S) → ((i : ℕ) (s : S) → body i s ≡ run_on upd (f i) s) → (k n : ℕ) (s : S) → loop_left body k n s ≡ run_on upd (flat_map f (range k n)) s
  loop_flat f body h k zero s = refl
  loop_flat f body h k (suc n) s = loop_flat f body h (suc k) n (body k s) ∙ ap (run_on upd (flat_map f (range (suc k) n))) (h k s) ∙ sym (run_append (f k) (flat_map f (range (suc k) n)) s)

pub flat_map_law : {A B C : Type 0} (g : A → B) (f : B → List C) (l : List A) → flat_map f (map g l) ≡ flat_map (λ a. f (g a)) l
flat_map_law g f [] = refl
flat_map_law g f (a ∷ l) = ap (λ (m : List _). f (g a) ++ m) (flat_map_law g f l)

-- three loops, the last one fastest, as a block's cells and offsets are walked
pub loop3 : {A S : Type 0} (upd : A → S → S) (g : ℕ → ℕ → ℕ → A) (cz cy cx : ℕ) (s : S)
    → loop_left (λ k s. loop_left (λ l s. loop_left (λ m s. upd (g k l m) s) 0 cx s) 0 cy s) 0 cz s
    ≡ run_on upd (flat_map (λ k. flat_map (λ l. map (λ m. g k l m) (range 0 cx)) (range 0 cy)) (range 0 cz)) s
loop3 upd g cz cy cx s =
    loop_flat upd (λ k. flat_map (λ l. map (λ m. g k l m) (range 0 cx)) (range 0 cy)) (λ k s. loop_left (λ l s. loop_left (λ m s. upd (g k l m) s) 0 cx s) 0 cy s)
    (λ k s. loop_flat upd (λ l. map (λ m. g k l m) (range 0 cx)) (λ l s. loop_left (λ m s. upd (g k l m) s) 0 cx s) (λ l s. loop_map upd (λ m. g k l m) 0 cx s) 0 cy s) 0 cz s

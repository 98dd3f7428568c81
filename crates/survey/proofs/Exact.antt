-- The list of runs. `exact`: after it the slice is what the book says, place by place. `alike_steps`: lists that count alike, run by run and in any order, leave the same bytes. Assumes nothing.
use mathlib.Core.Path.{◌≡◌, refl, sym, ap, ◌∙◌, subst}
use mathlib.Core.List.{List, [], ◌∷◌, map}
use mathlib.Core.Bool.{Bool, true, false, true≢false, not, cond, ◌&&◌, ◌||◌}
use Prim.Native.Nat.{ℕ, ◌+◌, ◌^◌, ◌≤◌, ◌<◌}
use native.Mathlib.Nat.{le_refl}
use native.Mathlib.Omega.{arith}
use lib.Dec.{T, ltb, ltb→lt, nltb→le}
use lib.ListN.{length}
use lib.Seq.{ext_get_or}
use lib.IntN.{ℤ, pos, nat_abs, ◌+ℤ◌, +ℤ_idl, +ℤ_idr, +ℤ_assoc}
use lib.Ieee.{Float, nan, binary64, add, of_int}
use lib.Ieee.Fits.{and_l}
use Rattle.definitions.specs.Lists.{at, upto, All, sum_by, largest}
use Rattle.definitions.specs.Floats.{int_of}
use Rattle.definitions.specs.Run.{Run, used, scratch, merged}
use Rattle.definitions.specs.Rules.{accepted, step}
use Rattle.definitions.specs.Survey.{steps, when_z, added, covers, covered, book, written, SurveyRun, cost, costs, big_s, Survey}
use Rattle.laws.proofs.Integers.{abs_add, +ℤ-left-comm}
use Rattle.laws.proofs.WholeFloats.{Whole, limit, of_int_plain, merge_add, whole_int}
use Rattle.laws.proofs.Lists.{upto_get, largest_all}
use Rattle.laws.proofs.Places.{table_length, table_at, overwritten_length, overwritten_at, overwritten_past}
use Rattle.survey.proofs.RunExact.{run_exact}
use Rattle.survey.proofs.Accepted.{accepted_used, accepted_sets}

-- ---- one run, place by place
step_length : (r : Run) (s : List Float) → length (step r s) ≡ length s
unfolding step
step_length r s = go (accepted r (length s)) (accepted_used r (length s))
  where
    go : (t : Bool) → (T t → used r ≤ length s) → length (cond t (merged r s) s) ≡ length s
    go true h = overwritten_length (λ p. add binary64 (at s p) (scratch r p)) (used r) s (h tt)
    go false h = refl

step_at : (n : ℕ) (r : Run) (s : List Float) (p : ℕ) → length s ≡ n → at (step r s) p ≡ cond (covers n r p) (add binary64 (at s p) (scratch r p)) (at s p)
unfolding step
step_at n r s p e = ap (λ (k : ℕ). at (cond (accepted r k) (merged r s) s) p) e ∙ go (accepted r n) (ltb p (used r)) (ltb→lt p (used r)) (nltb→le p (used r))
  where
    go : (t u : Bool) → (T u → p < used r) → (T (not u) → used r ≤ p) → at (cond t (merged r s) s) p ≡ cond (t && u) (add binary64 (at s p) (scratch r p)) (at s p)
    go true true h k = overwritten_at (λ p. add binary64 (at s p) (scratch r p)) (used r) s p (h tt)
    go true false h k = overwritten_past (λ p. add binary64 (at s p) (scratch r p)) (used r) s p (k tt)
    go false u h k = refl

steps_length : (l : List Run) (s : List Float) → length (steps l s) ≡ length s
unfolding steps
steps_length [] s = refl
steps_length (r ∷ l) s = steps_length l (step r s) ∙ step_length r s

pick : (t : Bool) (c : ℕ) → T t → cond t c 0 ≡ c
pick true c t = refl
pick false c t = absurd t

-- a run that covers p: its scratch is exact, and its cost is in the bound
abbrev Here : ℕ → Run → ℕ → Type 0
Here n r p =
    (T (accepted r n) → SurveyRun r) → cond (accepted r n) (cost r) 0 ≤ limit → (scratch r p ≡ of_int binary64 (added r p)) × (nat_abs (added r p) ≤ cond (accepted r n) (cost r) 0)

here : (n : ℕ) (r : Run) (p : ℕ) → T (covers n r p) → Here n r p
here n r p t s h =
    let o = and_l (accepted r n) (ltb p (used r)) t in
    let e = pick (accepted r n) (cost r) o in
    rw e (run_exact r p (accepted_sets r n o) (s o) (rw e at h))

-- ---- the list, place by place: what the accepted runs add
abbrev gain : ℕ → List Run → ℕ → ℤ
gain n l p = sum_by (λ r. when_z (covers n r p) (added r p)) l

no_gain : (n : ℕ) (l : List Run) (p : ℕ) → covered n l p ≡ false → gain n l p ≡ pos 0
no_gain n [] p e = refl
no_gain n (r ∷ l) p e = go (covers n r p) e (no_gain n l p)
  where
    go : (t : Bool) → (t || covered n l p) ≡ false → (covered n l p ≡ false → gain n l p ≡ pos 0) → when_z t (added r p) +ℤ gain n l p ≡ pos 0
    go true e f = absurd (true≢false e)
    go false e f = +ℤ_idl (gain n l p) ∙ f e

-- a whole total, within the bound
abbrev Total : Float → ℤ → ℕ → Type 0
Total x a c = Whole x a × (nat_abs a + c ≤ limit)

list_at : (n : ℕ) (l : List Run) (s : List Float) (p : ℕ) (a : ℤ) → length s ≡ n → All (λ r. T (accepted r n) → SurveyRun r) l → (T (covered n l p) → Total (at s p) a (costs n l))
    → at (steps l s) p ≡ cond (covered n l p) (of_int binary64 (a +ℤ gain n l p)) (at s p)
unfolding steps
list_at n [] s p a e v h = refl
list_at n (r ∷ l) s p a e v h = go (covers n r p) (here n r p) refl h (λ b. list_at n l (step r s) p b (step_length r s ∙ e) v.1)
  where
    go : (t : Bool) → (T t → Here n r p) → covers n r p ≡ t → (T (t || covered n l p) → Total (at s p) a (cond (accepted r n) (cost r) 0 + costs n l))
        → ((b : ℤ) → (T (covered n l p) → Total (at (step r s) p) b (costs n l)) → at (steps l (step r s)) p ≡ cond (covered n l p) (of_int binary64 (b +ℤ gain n l p)) (at (step r s) p))
        → at (steps l (step r s)) p ≡ cond (t || covered n l p) (of_int binary64 (a +ℤ (when_z t (added r p) +ℤ gain n l p))) (at s p)
    go true w c k ih =
        let i = k tt in
        let x = w tt v.0 (omega (arith, i.1)) in
        let z = added r p in
        let m : nat_abs (a +ℤ z) ≤ limit = omega (arith, i.1, x.1, abs_add a z) in
        let now : at (step r s) p ≡ of_int binary64 (a +ℤ z) =
        step_at n r s p e ∙ (λ j. cond (c j) (add binary64 (at s p) (x.0 j)) (at s p)) ∙ merge_add z i.0 (omega (arith, i.1, x.1)) m in
        ih (a +ℤ z) (λ t. (rw now (of_int_plain (a +ℤ z) m).whole, omega (arith, i.1, x.1, abs_add a z))) ∙ ends (covered n l p) refl now
      where
        ends : (u : Bool) → covered n l p ≡ u → at (step r s) p ≡ of_int binary64 (a +ℤ added r p)
            → cond u (of_int binary64 (a +ℤ added r p +ℤ gain n l p)) (at (step r s) p) ≡ of_int binary64 (a +ℤ (added r p +ℤ gain n l p))
        ends true c now = ap (of_int binary64) (+ℤ_assoc a (added r p) (gain n l p))
        ends false c now = now ∙ ap (λ (z : ℤ). of_int binary64 (a +ℤ z)) (sym (ap (λ (g : ℤ). added r p +ℤ g) (no_gain n l p c) ∙ +ℤ_idr (added r p)))
    go false w c k ih =
        let now : at (step r s) p ≡ at s p = step_at n r s p e ∙ (λ j. cond (c j) (add binary64 (at s p) (scratch r p)) (at s p)) in
        ih a (λ t. (rw now (k t).0, omega (arith, (k t).1))) ∙ (λ j. cond (covered n l p) (of_int binary64 (a +ℤ sym (+ℤ_idl (gain n l p)) j)) (now j))

-- ════ the book
start_le : (s : List Float) (l : List Run) (p : ℕ) → p < length s → T (covered (length s) l p) → nat_abs (int_of (at s p)) ≤ big_s s l
start_le s l p h c =
    let f : ℕ → ℕ = λ p. cond (covered (length s) l p) (nat_abs (int_of (at s p))) 0 in
    rw (← pick (covered (length s) l p) (nat_abs (int_of (at s p))) c) (upto_get (λ p. f p ≤ big_s s l) (length s) (largest_all f (big_s s l) (upto (length s)) (le_refl (big_s s l))) p h)

pub exact : (s : List Float) (l : List Run) → Survey s l → steps l s ≡ written s l
unfolding written
exact s l v =
    let g : ℕ → Float = λ p. cond (covered (length s) l p) (of_int binary64 (book s l p)) (at s p) in
    ext_get_or nan (steps l s) (map g (upto (length s))) (steps_length l s ∙ sym (table_length g (length s))) (λ p h.
    let k = rw (steps_length l s) at h in
    list_at (length s) l s p (int_of (at s p)) refl v.runs (λ c. (whole_int (at s p) (v.starts p k c), omega (arith, v.bound, start_le s l p k c)))
    ∙ sym (table_at g (length s) p k))

-- ════ lists that count alike
-- a run that counts like another at a slice of n numbers
pub record Like (n : ℕ) (r q : Run) : Type 0 where
  pub accept : accepted r n ≡ accepted q n
  pub places : used r ≡ used q
  pub survey : T (accepted r n) → SurveyRun r → SurveyRun q
  pub price : cost r ≡ cost q
  pub adds : (p : ℕ) → added r p ≡ added q p

pub like_same : (n : ℕ) {r q : Run} → r ≡ q → Like n r q
like_same n {r} e = subst (Like n r) e (record { accept = refl; places = refl; survey = λ o s. s; price = refl; adds = λ p. refl })

-- run by run, in any order
pub data Alike (n : ℕ) : List Run → List Run → Type 0 where
  none : Alike n [] []
  next : {r q : Run} {l m : List Run} → Like n r q → Alike n l m → Alike n (r ∷ l) (q ∷ m)
  turn : {r q r' q' : Run} {l : List Run} → Like n r r' → Like n q q' → Alike n (r ∷ q ∷ l) (q' ∷ r' ∷ l)
  then : {l m k : List Run} → Alike n l m → Alike n m k → Alike n l k

module _ (n : ℕ) where
  like_covers : {r q : Run} → Like n r q → (p : ℕ) → covers n r p ≡ covers n q p
  like_covers h p = λ i. h.accept i && ltb p (h.places i)

  like_gain : {r q : Run} → Like n r q → (p : ℕ) → when_z (covers n r p) (added r p) ≡ when_z (covers n q p) (added q p)
  like_gain h p = λ i. when_z (like_covers h p i) (h.adds p i)

  like_cost : {r q : Run} → Like n r q → cond (accepted r n) (cost r) 0 ≡ cond (accepted q n) (cost q) 0
  like_cost h = λ i. cond (h.accept i) (h.price i) 0

  like_survey : {r q : Run} → Like n r q → (T (accepted r n) → SurveyRun r) → T (accepted q n) → SurveyRun q
  like_survey h v o = let t = rw (← h.accept) at o in h.survey t (v t)

  or_turn : (a b c : Bool) → (a || (b || c)) ≡ (b || (a || c))
  or_turn true true c = refl
  or_turn true false c = refl
  or_turn false b c = refl

  alike_covered : (p : ℕ) {l m : List Run} → Alike n l m → covered n l p ≡ covered n m p
  alike_covered p none = refl
  alike_covered p (next h t) = λ i. like_covers h p i || alike_covered p t i
  alike_covered p (turn {r' = r} {q' = q} {l = l} h k) = (λ i. like_covers h p i || (like_covers k p i || covered n l p)) ∙ or_turn (covers n r p) (covers n q p) (covered n l p)
  alike_covered p (then h k) = alike_covered p h ∙ alike_covered p k

  alike_gain : (p : ℕ) {l m : List Run} → Alike n l m → gain n l p ≡ gain n m p
  alike_gain p none = refl
  alike_gain p (next h t) = λ i. like_gain h p i +ℤ alike_gain p t i
  alike_gain p (turn {r' = r} {q' = q} {l = l} h k) =
      (λ i. like_gain h p i +ℤ (like_gain k p i +ℤ gain n l p)) ∙ +ℤ-left-comm (when_z (covers n r p) (added r p)) (when_z (covers n q p) (added q p)) (gain n l p)
  alike_gain p (then h k) = alike_gain p h ∙ alike_gain p k

  alike_costs : {l m : List Run} → Alike n l m → costs n l ≡ costs n m
  alike_costs none = refl
  alike_costs (next h t) = λ i. like_cost h i + alike_costs t i
  alike_costs (turn {l = l} h k) = (λ i. like_cost h i + (like_cost k i + costs n l)) ∙ omega arith
  alike_costs (then h k) = alike_costs h ∙ alike_costs k

  alike_runs : {l m : List Run} → Alike n l m → All (λ r. T (accepted r n) → SurveyRun r) l → All (λ r. T (accepted r n) → SurveyRun r) m
  alike_runs none v = tt
  alike_runs (next h t) v = (like_survey h v.0, alike_runs t v.1)
  alike_runs (turn h k) v = (like_survey k v.1.0, (like_survey h v.0, v.1.1))
  alike_runs (then h k) v = alike_runs k (alike_runs h v)

pub alike_survey : (s : List Float) (l m : List Run) → Survey s l → Alike (length s) l m → Survey s m
alike_survey s l m v a = record {
  runs = alike_runs (length s) a v.runs;
  starts = λ p h c. v.starts p h (rw (alike_covered (length s) p a) c);
  bound = subst (λ (k : ℕ). k ≤ 2 ^ 53) (λ i. alike_costs (length s) a i + largest (λ p. cond (alike_covered (length s) p a i) (nat_abs (int_of (at s p))) 0) (upto (length s))) v.bound;
}

pub alike_steps : (s : List Float) (l m : List Run) → Survey s l → Alike (length s) l m → steps m s ≡ steps l s
unfolding written
alike_steps s l m v a =
    exact s m (alike_survey s l m v a)
    ∙ sym (exact s l v ∙ (λ i. map (λ p. cond (alike_covered (length s) p a i) (of_int binary64 (int_of (at s p) +ℤ alike_gain (length s) p a i)) (at s p)) (upto (length s))))

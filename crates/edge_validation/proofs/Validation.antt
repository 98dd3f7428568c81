-- The loops over irregular edges, and each outcome of looking them over.
use mathlib.Core.Path.{◌≡◌, refl, sym, ◌∙◌, subst}
use mathlib.Core.Bool.{Bool, true, false, ◌&&◌}
use mathlib.Core.List.{List, [], ◌∷◌}
use Prim.Native.Nat.{ℕ, suc, ◌-◌, ◌<◌, ◌≤◌}
use native.Mathlib.Omega.{arith}
use lib.Dec.{T}
use lib.ListN.{length}
use lib.Ieee.{Float, nan, inf, fin, lt}
use lib.Ieee.Scale.{finite}
use lib.Ieee.Fits.{and_i, and_l, and_r}
use lib.Ieee.Bits.{is_true}
use Rattle.definitions.specs.Lists.{at}
use Rattle.definitions.specs.Rules.{all_finite, increasing}
use Rattle.std.specs.Bool.{MatchBool}
use Rattle.std.specs.List.{AllWithin, HoldsAt}
use Rattle.std.specs.Float.{float_is_finite}
use Rattle.floats.proofs.Laws.{finite_same}
use Rattle.bins.proofs.Irregular.{finite_at}

same_truth : (a b : Bool) → (T a → T b) → (T b → T a) → a ≡ b
same_truth true true f g = refl
same_truth false false f g = refl
same_truth true false f g = absurd (f tt)
same_truth false true f g = absurd (g tt)

-- ---- all finite, by the answer of std's `all`
all_yes : (es : List Float) → AllWithin (λ x. float_is_finite x ≡ true) es 0 (length es) → T (all_finite es)
all_yes [] h = tt
all_yes (x ∷ es) h = and_i (finite x) (all_finite es) (subst T (sym (finite_same x ∙ h 0 nan (omega arith) (omega arith))) tt) (all_yes es (λ k d l m. h (suc k) d (omega arith) (omega arith)))

pub all_done : (es : List Float) (r : Bool) → MatchBool r (AllWithin (λ x. float_is_finite x ≡ true) es 0 (length es)) ((k : ℕ) × (k < length es) × HoldsAt (λ x. float_is_finite x ≡ false) es k) → r ≡ all_finite es
all_done es true h = same_truth true (all_finite es) (λ t. all_yes es h) (λ t. tt)
all_done es false h = same_truth false (all_finite es) (λ t. absurd t) (λ t. subst T (finite_same (at es h.0) ∙ h.2 nan) (finite_at es h.0 t h.1))

-- ---- increasing: r says whether the edges that were compared rise, and l, those from the last of them on, the rest
pub rising_one : (r : Bool) (l : List Float) → length l < 2 → r ≡ (r && increasing l)
rising_one true [] h = refl
rising_one true (x ∷ []) h = refl
rising_one true (x ∷ y ∷ l) h = absurd (omega arith)
rising_one false l h = refl

-- ---- increasing edges between finite ends
above_finite : (x y : Float) (l : List Float) → T (finite x) → lt x y ≡ true → T (increasing (y ∷ l)) → T (finite (at (y ∷ l) (length l))) → T (finite y)
unfolding lt
above_finite nan y l p h i e = absurd p
above_finite (inf s) y l p h i e = absurd p
above_finite (fin s m e) nan l p h i q = absurd (subst T (sym h) tt)
above_finite (fin s m e) (inf true) l p h i q = absurd (subst T (sym h) tt)
above_finite (fin s m e) (inf false) [] p h i q = absurd q
above_finite (fin s m e) (inf false) (nan ∷ l) p h i q = absurd i
above_finite (fin s m e) (inf false) (inf t ∷ l) p h i q = absurd i
above_finite (fin s m e) (inf false) (fin t n d ∷ l) p h i q = absurd i
above_finite (fin s m e) (fin t n d) l p h i q = tt

between_finite : (x : Float) (l : List Float) → T (finite x) → T (increasing (x ∷ l)) → T (finite (at (x ∷ l) (length l))) → T (all_finite (x ∷ l))
between_finite x [] p i q = and_i (finite x) true p tt
between_finite x (y ∷ l) p i q =
    let h = and_l (lt x y) (increasing (y ∷ l)) i in
    let j = and_r (lt x y) (increasing (y ∷ l)) i in
    and_i (finite x) (all_finite (y ∷ l)) p (between_finite y l (above_finite x y l p (is_true (lt x y) h) j q) j q)

-- r and s are the answers for the first edge and the last
ends_truth : (es : List Float) → 2 ≤ length es → T (increasing es) → (finite (at es 0) && finite (at es (length es - 1))) ≡ all_finite es
ends_truth es h i = same_truth (finite (at es 0) && finite (at es (length es - 1))) (all_finite es)
    (λ t. to es h i (and_l (finite (at es 0)) (finite (at es (length es - 1))) t) (and_r (finite (at es 0)) (finite (at es (length es - 1))) t))
    (λ t. and_i (finite (at es 0)) (finite (at es (length es - 1))) (finite_at es 0 t (omega arith)) (finite_at es (length es - 1) t (omega arith)))
  where
    to : (l : List Float) → 2 ≤ length l → T (increasing l) → T (finite (at l 0)) → T (finite (at l (length l - 1))) → T (all_finite l)
    to [] k j p q = absurd (omega arith)
    to (x ∷ l) k j p q =
        let z : length (x ∷ l) - 1 ≡ length l = omega arith in
        between_finite x l p j (subst (λ (n : ℕ). T (finite (at (x ∷ l) n))) z q)

pub ends_finite : (es : List Float) (x y : Float) (r s : Bool) → 2 ≤ length es → T (increasing es) → x ≡ at es 0 → y ≡ at es (length es - 1) → r ≡ float_is_finite x → s ≡ float_is_finite y → (r && s) ≡ all_finite es
ends_finite es x y r s h i a b p q = rw (p, q, ← finite_same x, ← finite_same y, a, b) (ends_truth es h i)

-- What an accepted call says: that the pack's product fits, and what each slice holds.
use mathlib.Core.Path.{◌≡◌, refl, sym, ◌∙◌}
use mathlib.Core.Bool.{Bool, true, false, not, ◌||◌, true≢false}
use mathlib.Core.List.{List, [], ◌∷◌}
use native.Mathlib.Nat.{mul-le-mul_right}
use Prim.Native.Nat.{ℕ, zero, suc, ◌*◌, ◌<◌, ◌≤◌}
use native.Mathlib.Omega.{arith}
use lib.Dec.{ltb, eqb}
use mir.Syntax.{w64}
use mir.Val.{Fits}
use borrow.Author.Tests.{ltb-true, ltb-false, eqb-true, not-false}
use Rattle.definitions.specs.Reducer.{StateKind, state_size}
use Rattle.definitions.specs.Rules.{Rule, rule, refusal, over_state, over_pack, no_bins, bad_shape, reset_rules, merge_rules, consolidate_rules, result_rules}
use Rattle.laws.proofs.Refusals.{rule_passed}

or_left : (a b : Bool) → (a || b) ≡ false → a ≡ false
or_left true b h = absurd (true≢false h)
or_left false b h = refl

or_right : (a b : Bool) → (a || b) ≡ false → b ≡ false
or_right true b h = absurd (true≢false h)
or_right false b h = h

ruleset ors = (or_left, or_right)

no_rule : (a b c : Bool) (l : List Rule) → refusal (rule 7 a ∷ rule 8 b ∷ rule 24 c ∷ l) ≡ 0 → (a ≡ false) × (c ≡ false) × (refusal l ≡ 0)
no_rule a b c l h =
    let p = rule_passed 7 a (refusal (rule 8 b ∷ rule 24 c ∷ l)) tt h in
    let q = rule_passed 24 c (refusal l) tt (rule_passed 8 b (refusal (rule 24 c ∷ l)) tt p.1).1 in
    (p.0, q.0, q.1)

-- from the answer x of a refusal, which is 0: that the product fits, and what each slice holds
fits_within : (a : ℕ) → ltb 4096 a ≡ false → Fits w64 a
fits_within a h = record { fits = omega (arith, ltb-false 4096 a h) }

positive : (a b : ℕ) → eqb a 0 ≡ false → eqb b 0 ≡ false → 0 < a * b
positive zero b h k = absurd (true≢false h)
positive (suc a) zero h k = absurd (true≢false k)
positive (suc a) (suc b) h k = let e : 1 ≤ suc a = omega arith in omega (arith, mul-le-mul_right (suc b) e)

module _ (K : StateKind) (states size n x : ℕ) (z : x ≡ 0) where
  module _ (q : x ≡ refusal (reset_rules K states size n)) where
    reset_says : (over_pack states size ≡ false) × (ltb n (states * size) ≡ false)
    reset_says =
        let t = no_rule (over_state K || over_pack states size) (no_bins K) (bad_shape K states size || ltb n (states * size)) [] (sym q ∙ z) in
        (search ors, search ors)

    pub reset_fits : Fits w64 (states * size)
    reset_fits = fits_within (states * size) reset_says.0

    pub reset_within : states * size ≤ n
    reset_within = ltb-false n (states * size) reset_says.1

  module _ (states2 size2 m : ℕ) (q : x ≡ refusal (merge_rules K states size states2 size2 n m)) where
    merge_says : (over_pack states size ≡ false) × (ltb n (states * size) ≡ false) × (ltb m (states * size) ≡ false)
    merge_says =
        let t = no_rule (over_state K || over_pack states size || over_pack states2 size2) (no_bins K)
        (bad_shape K states size || ltb n (states * size) || not (eqb states2 states) || not (eqb size2 size) || ltb m (states * size)) [] (sym q ∙ z) in
        (search ors, search ors, search ors)

    pub merge_fits : Fits w64 (states * size)
    merge_fits = fits_within (states * size) merge_says.0

    pub merge_first : states * size ≤ n
    merge_first = ltb-false n (states * size) merge_says.1

    pub merge_second : states * size ≤ m
    merge_second = ltb-false m (states * size) merge_says.2

  module _ (packs : ℕ) (q : x ≡ refusal (consolidate_rules K packs states size n)) where
    packs_say : (over_pack states size ≡ false) × (ltb n (packs * (states * size)) ≡ false)
    packs_say =
        let t = no_rule (over_state K || over_pack states size) (no_bins K) (bad_shape K states size || ltb n (packs * (states * size))) [] (sym q ∙ z) in
        (search ors, search ors)

    pub packs_fit : Fits w64 (states * size)
    packs_fit = fits_within (states * size) packs_say.0

    pub packs_some : 0 < states * size
    packs_some =
        let t = no_rule (over_state K || over_pack states size) (no_bins K) (bad_shape K states size || ltb n (packs * (states * size))) [] (sym q ∙ z) in
        positive states size (search ors) (search ors)

    pub packs_within : packs * (states * size) ≤ n
    packs_within = ltb-false n (packs * (states * size)) packs_say.1

  module _ (i m : ℕ) (q : x ≡ refusal (result_rules K states size i n m)) where
    result_says : (over_pack states size ≡ false) × (not (eqb size (state_size K)) ≡ false) × (ltb n (states * size) ≡ false) × (ltb m size ≡ false) × (not (ltb i states) ≡ false)
    result_says =
        let t = no_rule (over_state K || over_pack states size) (no_bins K) (bad_shape K states size || ltb n (states * size) || ltb m size) (rule 25 (not (ltb i states)) ∷ [])
        (sym q ∙ z) in
        (search ors, search ors, search ors, search ors, (rule_passed 25 (not (ltb i states)) 0 tt t.2).0)

    pub result_own : size ≡ state_size K
    result_own = eqb-true size (state_size K) (not-false (eqb size (state_size K)) result_says.1)

    pub result_state : i < states
    result_state = ltb-true i states (not-false (ltb i states) result_says.4)

    pub result_within : states * size ≤ n
    result_within = ltb-false n (states * size) result_says.2

    pub result_limit : states * size ≤ 4096
    result_limit = ltb-false 4096 (states * size) result_says.0

    pub result_room : size ≤ m
    result_room = ltb-false m size result_says.3

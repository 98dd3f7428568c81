-- Tables of rules: the first broken rule of two tables one after the other, and what follows where none is broken.
use mathlib.Core.Path.{◌≡◌, refl, sym, ap, ◌∙◌}
use mathlib.Core.List.{List, [], ◌∷◌, ◌++◌}
use mathlib.Core.Bool.{Bool, true, false, not, cond, ◌&&◌}
use Prim.Native.Nat.{ℕ}
use lib.Dec.{T, eqb, T_not}
use lib.Ieee.Fits.{and_i, and_l, and_r}
use lib.Ieee.Bits.{is_false}
use Rattle.definitions.specs.Rules.{Rule, refusal}
use Rattle.laws.specs.Refusals.{or_else}

-- no rule has the number 0, which stands for none: of a written table this computes
abbrev pub numbered : List Rule → Bool
numbered [] = true
numbered (r ∷ l) = not (eqb r.number 0) && numbered l

abbrev pub none_broken : List Rule → Bool
none_broken [] = true
none_broken (r ∷ l) = not r.broken && none_broken l

or_else_some : (a b : ℕ) → T (not (eqb a 0)) → or_else a b ≡ a
or_else_some a b h = ap (λ (t : Bool). cond t b a) (is_false (eqb a 0) h)

pub refusal_append : (l m : List Rule) → T (numbered l) → refusal (l ++ m) ≡ or_else (refusal l) (refusal m)
refusal_append [] m h = refl
refusal_append (r ∷ l) m h = go r.broken (refusal_append l m (and_r (not (eqb r.number 0)) (numbered l) h))
  where
    go : (t : Bool) → refusal (l ++ m) ≡ or_else (refusal l) (refusal m) → cond t r.number (refusal (l ++ m)) ≡ or_else (cond t r.number (refusal l)) (refusal m)
    go true e = sym (or_else_some r.number (refusal m) (and_l (not (eqb r.number 0)) (numbered l) h))
    go false e = e

-- no number is met: the rule at the head is not broken, and none of the others
pub rule_passed : (n : ℕ) (b : Bool) (k : ℕ) → T (not (eqb n 0)) → cond b n k ≡ 0 → (b ≡ false) × (k ≡ 0)
rule_passed n true k h e = absurd (rw e at h)
rule_passed n false k h e = (refl, e)

pub refusal_split : (l m : List Rule) → T (numbered l) → refusal (l ++ m) ≡ 0 → (refusal l ≡ 0) × (refusal m ≡ 0)
refusal_split [] m h e = (refl, e)
refusal_split (r ∷ l) m h e =
    let p = rule_passed r.number r.broken (refusal (l ++ m)) (and_l (not (eqb r.number 0)) (numbered l) h) e in
    let q = refusal_split l m (and_r (not (eqb r.number 0)) (numbered l) h) p.1 in
    (rw p.0 q.0, q.1)

pub refusal_join : (l m : List Rule) → T (numbered l) → refusal l ≡ 0 → refusal m ≡ 0 → refusal (l ++ m) ≡ 0
refusal_join l m h e f = refusal_append l m h ∙ rw (e, f)

-- none refused: no rule is broken
pub none_broken_law : (l : List Rule) → T (numbered l) → T (eqb (refusal l) 0) → T (none_broken l)
none_broken_law [] n h = tt
none_broken_law (r ∷ l) n h = go r.broken h (λ k. none_broken_law l (and_r (not (eqb r.number 0)) (numbered l) n) k)
  where
    go : (t : Bool) → T (eqb (cond t r.number (refusal l)) 0) → (T (eqb (refusal l) 0) → T (none_broken l)) → T (not t && none_broken l)
    go true k f = absurd (T_not (eqb r.number 0) (and_l (not (eqb r.number 0)) (numbered l) n) k)
    go false k f = f k

pub none_refused : (l : List Rule) → T (none_broken l) → refusal l ≡ 0
none_refused [] h = refl
none_refused (r ∷ l) h = go r.broken h (none_refused l)
  where
    go : (t : Bool) → T (not t && none_broken l) → (T (none_broken l) → refusal l ≡ 0) → cond t r.number (refusal l) ≡ 0
    go true k f = absurd k
    go false k f = f k

-- a table in two parts
pub broken_left : (l m : List Rule) → T (none_broken (l ++ m)) → T (none_broken l)
broken_left [] m h = tt
broken_left (r ∷ l) m h = and_i (not r.broken) (none_broken l) (and_l (not r.broken) (none_broken (l ++ m)) h) (broken_left l m (and_r (not r.broken) (none_broken (l ++ m)) h))

pub broken_right : (l m : List Rule) → T (none_broken (l ++ m)) → T (none_broken m)
broken_right [] m h = h
broken_right (r ∷ l) m h = broken_right l m (and_r (not r.broken) (none_broken (l ++ m)) h)

pub broken_both : (l m : List Rule) → T (none_broken l) → T (none_broken m) → T (none_broken (l ++ m))
broken_both [] m h k = k
broken_both (r ∷ l) m h k = and_i (not r.broken) (none_broken (l ++ m)) (and_l (not r.broken) (none_broken l) h) (broken_both l m (and_r (not r.broken) (none_broken l) h) k)

-- The refusal of a run by its sets and its own numbers, what follows where there is none, and what a run then answers and leaves.
use mathlib.Core.Path.{◌≡◌, refl, sym, ap, ◌∙◌}
use Rattle.std.specs.Prelude.{IsErrAnd}
use Rattle.std.specs.declared.result.Result.{Result}
use Rattle.std.specs.declared.result.Result.TheVariants.{Ok, Err}
use Rattle.refusals.specs.declared.Refusal.{Refusal}
use Rattle.refusals.specs.Numbers.{refusal_number, number_of}
use Rattle.refusals.proofs.Answers.{number_nonzero, number_carried}
use mathlib.Core.Bool.{Bool, true, false, not, cond, ◌&&◌, ◌||◌, true≢false}
use mathlib.Core.List.{List, ◌∷◌}
use Prim.Native.Nat.{ℕ, ◌*◌, ◌≤◌}
use native.Mathlib.Omega.{arith}
use lib.Dec.{T, leb, ltb, eqb}
use lib.ListN.{length}
use lib.Ieee.{Float}
use borrow.Author.Tests.{ltb-false, leb-true, eqb-true, eqb-false, ne_eqb}
use Rattle.definitions.specs.Bins as definitions
use Rattle.definitions.specs.Bins.{bins}
use Rattle.definitions.specs.Reducer.{state_kind, kind_size}
use Rattle.definitions.specs.Reducer as kinds
use Rattle.definitions.specs.Run.{Sets, one_points, two_points, one_block, two_blocks, Run, merged}
use Rattle.definitions.specs.Rules as rules
use Rattle.definitions.specs.Rules.{rule, refusal, over_sets, over_state, over_pack, edge_rules, edges_call_rules, kind_rules, set_rules, pair_rules, run_rules, step}
use Rattle.laws.specs.Refusals.{or_else}
use Rattle.laws.proofs.Refusals.{numbered, refusal_append}
use Rattle.state_refusals.specs.declared.PackShape.{PackShape}
use Rattle.reducer.specs.Readings.{edges_of, kind_of}
use Rattle.parallel_serial.specs.declared.RunSpec.{RunSpec}
use Rattle.parallel_serial.specs.Drive.{over_numbers, shape_rules, run_number, run_of}

-- ---- limits
either : (a b : Bool) → (a || b) ≡ false → (a ≡ false) × (b ≡ false)
either true b h = absurd (true≢false h)
either false b h = (refl, h)

pub kind_over : (k : kinds.StateKind) → over_state k ≡ ltb 256 (kinds.state_size k)
kind_over kinds.mean = refl
kind_over (kinds.histogram n) = refl

-- no number of a run is over its limit
module _ (n size : ℕ) (pack : PackShape) (h : over_numbers n size pack ≡ false) where
  pub none_over : (ltb 256 n ≡ false) × (ltb 256 size ≡ false) × (over_pack pack.n_states pack.state_size ≡ false)
  unfolding over_numbers
  none_over =
      let c = either (ltb 256 n || ltb 256 size) (over_pack pack.n_states pack.state_size) h in
      let b = either (ltb 256 n) (ltb 256 size) c.0 in
      (b.0, b.1, c.1)

-- ---- it is the definitions' refusal
edges_numbered : (e : definitions.Edges) → T (numbered (edge_rules e))
edges_numbered (definitions.regular min max n) = tt
edges_numbered (definitions.irregular es) = tt

kind_numbered : (k : kinds.Kind) → T (numbered (kind_rules k))
kind_numbered kinds.comp0_mean = tt
kind_numbered kinds.component_sum_mean = tt
kind_numbered (kinds.component_sum_histogram e) = edges_numbered e

sets_numbered : (s : Sets) → T (numbered (set_rules s))
sets_numbered (one_points s) = tt
sets_numbered (two_points s t) = tt
sets_numbered (one_block w a) = tt
sets_numbered (two_blocks w a b) = tt

pairs_numbered : (s : Sets) → T (numbered (pair_rules s))
pairs_numbered (one_points s) = tt
pairs_numbered (two_points s t) = tt
pairs_numbered (one_block w a) = tt
pairs_numbered (two_blocks w a b) = tt

-- the limits of the sets, then the run's own numbers
module _ (s : Sets) (spec : RunSpec) (len : ℕ) where
  abbrev of_sets : ℕ
  of_sets = run_number (refusal (set_rules s)) (refusal (pair_rules s)) spec len

  numbers_law : refusal (run_rules (run_of s spec) len) ≡ cond (over_sets s) 7 of_sets
  unfolding run_number run_of over_numbers
  numbers_law =
      rw (
        kind_over (state_kind (kind_of spec.kind)),
        refusal_append (set_rules s) _ (sets_numbered s),
        refusal_append (edge_rules (edges_of spec.edges)) _ (edges_numbered (edges_of spec.edges)),
        refusal_append (kind_rules (kind_of spec.kind)) _ (kind_numbered (kind_of spec.kind)),
        refusal_append (pair_rules s) _ (pairs_numbered s),
      ) (go (over_sets s) (ltb 256 (bins (edges_of spec.edges))) (ltb 256 (kind_size (kind_of spec.kind))) (over_pack spec.shape.pack.n_states spec.shape.pack.state_size) _)
    where
      go : (o n m p : Bool) (x : ℕ) → cond (o || n || m || p) 7 x ≡ cond o 7 (cond (n || m || p) 7 x)
      go true n m p x = refl
      go false n m p x = refl

  -- r, n, m and x are what calls answered
  module _ (r : Bool) (q : r ≡ over_sets s) where
    pub run_limit : r ≡ true → 7 ≡ refusal (run_rules (run_of s spec) len)
    run_limit t = sym (numbers_law ∙ (rw (← q, t)))

    pub run_within : r ≡ false → (n m x : ℕ) → n ≡ refusal (set_rules s) → m ≡ refusal (pair_rules s) → x ≡ run_number n m spec len → x ≡ refusal (run_rules (run_of s spec) len)
    run_within t n m x e f h = h ∙ (λ i. run_number (e i) (f i) spec len) ∙ sym (numbers_law ∙ (rw (← q, t)))

-- ---- a run that is not refused
zero_both : (a b : ℕ) → or_else a b ≡ 0 → (a ≡ 0) × (b ≡ 0)
zero_both a b h = go (eqb a 0) refl
  where
    go : (t : Bool) → eqb a 0 ≡ t → (a ≡ 0) × (b ≡ 0)
    go true e = (eqb-true a 0 e, sym (rw e) ∙ h)
    go false e = absurd (eqb-false a 0 e (sym (rw e) ∙ h))

two : (a b : Bool) → ◌≡◌ {A = ℕ} (cond (not a) 23 (cond (not b) 24 0)) 0 → b ≡ true
two true true h = refl
two true false h = absurd (omega arith)
two false b h = absurd (omega arith)

both : (a b : Bool) → (a && b) ≡ true → (a ≡ true) × (b ≡ true)
both true true h = (refl, refl)
both true false h = absurd (true≢false (sym h))
both false b h = absurd (true≢false (sym h))

seven : (t : Bool) (x : ℕ) → cond t 7 x ≡ 0 → (t ≡ false) × (x ≡ 0)
seven true x h = absurd (omega arith)
seven false x h = (refl, h)

-- what an accepted run knows of its edges, kind and shape
pub record Drivable (spec : RunSpec) (len : ℕ) : Type 0 where
  pub edges : refusal (edges_call_rules (edges_of spec.edges)) ≡ 0
  pub values : refusal (rule 7 (over_state (state_kind (kind_of spec.kind))) ∷ kind_rules (kind_of spec.kind)) ≡ 0
  pub few : bins (edges_of spec.edges) ≤ 256
  pub small : kind_size (kind_of spec.kind) ≤ 256
  pub states : spec.shape.pack.n_states ≡ bins (edges_of spec.edges)
  pub size : spec.shape.pack.state_size ≡ kind_size (kind_of spec.kind)
  pub limit : bins (edges_of spec.edges) * kind_size (kind_of spec.kind) ≤ 4096
  pub within : bins (edges_of spec.edges) * kind_size (kind_of spec.kind) ≤ len

-- of the numbers n and m of the sets' own rules and of the rules on their pairs
pub own_accepted : (n m : ℕ) (spec : RunSpec) (len : ℕ) → run_number n m spec len ≡ 0 → (n ≡ 0) × (m ≡ 0) × Drivable spec len
unfolding run_number
own_accepted n m spec len h =
    let e = edges_of spec.edges in
    let k = kind_of spec.kind in
    let pack = spec.shape.pack in
    let s = seven (over_numbers (bins e) (kind_size k) pack) _ h in
    let o = none_over (bins e) (kind_size k) pack s.0 in
    let a = zero_both n _ s.1 in
    let b = zero_both (refusal (edge_rules e)) _ a.1 in
    let c = zero_both (refusal (kind_rules k)) _ b.1 in
    let d = zero_both m (refusal (shape_rules spec.shape (bins e) (kind_size k) len)) c.1 in
    let f = both (eqb pack.n_states (bins e) && eqb pack.state_size (kind_size k)) (leb (bins e * kind_size k) len) (two (eqb spec.shape.members 1 && eqb spec.shape.teams 1) _ d.1) in
    let g = both (eqb pack.n_states (bins e)) (eqb pack.state_size (kind_size k)) f.0 in
    let i : pack.n_states ≡ bins e = eqb-true pack.n_states (bins e) g.0 in
    let j : pack.state_size ≡ kind_size k = eqb-true pack.state_size (kind_size k) g.1 in (
      a.0,
      d.0,
      record {
        edges = (rw o.0) ∙ b.0;
        values = (rw (kind_over (state_kind k), o.1)) ∙ c.0;
        few = ltb-false 256 (bins e) o.0;
        small = ltb-false 256 (kind_size k) o.1;
        states = i;
        size = j;
        limit = rw (i, j) at (ltb-false 4096 (pack.n_states * pack.state_size) o.2);
        within = leb-true (bins e * kind_size k) len f.1;
      },
    )

-- what follows for the sets of an accepted run, and for its shape
pub record Accepted (sets : Sets) (spec : RunSpec) (len : ℕ) : Type 0 where
  pub limits : over_sets sets ≡ false
  pub own : refusal (set_rules sets) ≡ 0
  pub paired : refusal (pair_rules sets) ≡ 0
  pub drivable : Drivable spec len

pub accepted : (sets : Sets) (spec : RunSpec) (len : ℕ) → refusal (run_rules (run_of sets spec) len) ≡ 0 → Accepted sets spec len
accepted sets spec len h =
    let r = seven (over_sets sets) _ (sym (numbers_law sets spec len) ∙ h) in
    let a = own_accepted (refusal (set_rules sets)) (refusal (pair_rules sets)) spec len r.1 in
    record { limits = r.0; own = a.0; paired = a.1; drivable = a.2 }

-- ---- what a run answers and leaves; a is what judged it
module _ {A : Type 0} (run : Run) (s : List Float) (a : Result A Refusal) (h : number_of a ≡ refusal (run_rules run (length s))) where
  module _ (r : Refusal) (e : a ≡ Err r) where
    refused_number : refusal_number r ≡ refusal (run_rules run (length s))
    refused_number = sym (ap number_of e) ∙ h

    pub refused_answer : {B : Type 0} → (b : Result B Refusal) → IsErrAnd b (λ t. t ≡ r) → number_of b ≡ refusal (run_rules run (length s))
    refused_answer b k = number_carried b r k ∙ refused_number

    pub refused_stays : s ≡ step run s
    unfolding rules.step rules.accepted
    refused_stays = rw (← refused_number, ne_eqb (refusal_number r) 0 (number_nonzero r))

  module _ (v : A) (e : a ≡ Ok v) where
    pub accepted_answer : ◌≡◌ {A = ℕ} 0 (refusal (run_rules run (length s)))
    accepted_answer = sym (ap number_of e) ∙ h

    pub accepted_step : (q : List Float) → q ≡ merged run s → q ≡ step run s
    unfolding rules.step rules.accepted
    accepted_step q m = m ∙ (rw (← accepted_answer))

pub ruleset run_answers = (refused_answer, refused_stays, accepted_answer, accepted_step)

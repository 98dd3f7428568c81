-- What is built of edges and kinds can be looked up, and the refusal of a run for each way through the code.
use mathlib.Core.Path.{◌≡◌, refl, sym, ap, ◌∙◌}
use mathlib.Core.Bool.{Bool, true, false, not, cond}
use mathlib.Core.List.{List, ◌∷◌}
use Prim.Native.Nat.{ℕ, ◌-◌, ◌≤◌}
use native.Mathlib.Omega.{arith}
use lib.Dec.{T, ltb}
use lib.ListN.{length}
use lib.Ieee.{Float, binary64, fits}
use borrow.Author.Tests.{le-ltb, ltb-false}
use Rattle.definitions.specs.Lists.{at}
use Rattle.definitions.specs.Bins as definitions
use Rattle.definitions.specs.Bins.{bins, irregular}
use Rattle.definitions.specs.Reducer.{state_kind, kind_size}
use Rattle.definitions.specs.Rules.{rule, refusal, over_state, kind_rules, edges_call_rules, all_finite, increasing}
use Rattle.laws.specs.Refusals.{or_else}
use Rattle.reducer.specs.declared.RegularEdges.{RegularEdges}
use Rattle.reducer.specs.declared.BinEdges.TheVariants.{Regular, Irregular}
use Rattle.reducer.specs.declared.Reducer.TheVariants.{Comp0Mean, ComponentSumMean, ComponentSumHistogram}
use Rattle.reducer.specs.Readings.{Edges, BuiltEdges, Kind, BuiltReducer, edges_of, kind_of}
use Rattle.reducer.specs.Consume.{bins_in, size_in, made_edges, made, built_bins, reducer_size}
use Rattle.reducer.specs.Usable.{Searchable, Usable, UsableValues}
use Rattle.reducer.proofs.Placewise.{made_bins, made_size}
use Rattle.parallel_serial.specs.declared.RunSpec.{RunSpec}
use Rattle.parallel_serial.specs.Drive.{over_numbers, shape_rules, run_number}
use Rattle.parallel_serial.specs.declared.Setup.{Setup}
use Rattle.parallel_serial.specs.Setups.{SetupOf}
use Rattle.parallel_serial.specs.Usable.{UsableRun}
use Rattle.parallel_serial.proofs.Refusals.{kind_over, none_over, own_accepted}

-- ---- accepted irregular edges
four : (a b f g : Bool) → ◌≡◌ {A = ℕ} (cond a 7 (cond b 12 (cond (not f) 10 (cond (not g) 13 0)))) 0 → (a ≡ false) × (b ≡ false) × T f × T g
four false false true true h = (refl, refl, tt, tt)
four true b f g h = absurd (omega arith)
four false true f g h = absurd (omega arith)
four false false false g h = absurd (omega arith)
four false false true false h = absurd (omega arith)

pub searchable : (es : List Float) → ((i : ℕ) → T (fits binary64 (at es i))) → refusal (edges_call_rules (irregular es)) ≡ 0 → Searchable es
unfolding definitions.bins
searchable es w h =
    let a = four (ltb 256 (length es - 1)) (ltb (length es) 2) (all_finite es) (increasing es) h in
    record { held = w; two = ltb-false _ _ a.1; few = omega (arith, ltb-false 256 (length es - 1) a.0); finite = a.2; increasing = a.3 }

-- ---- the numbers of stated edges and kinds
stated_bins : (e : Edges) → bins_in (λ (r : RegularEdges). r.n_bins) e ≡ bins (edges_of e)
unfolding definitions.bins
stated_bins (Regular e) = refl
stated_bins (Irregular list) = refl

stated_size : (k : Kind) → size_in (bins_in (λ (r : RegularEdges). r.n_bins)) k ≡ kind_size (kind_of k)
stated_size Comp0Mean = refl
stated_size ComponentSumMean = refl
stated_size (ComponentSumHistogram e) = stated_bins e

-- ---- a run; n and size are its bins and its state's size, r what `run_over` answers
module _ (sets pairs : ℕ) (spec : RunSpec) (len n size : ℕ) (p : n ≡ bins_in (λ (r : RegularEdges). r.n_bins) spec.edges) (o : size ≡ size_in (bins_in (λ (r : RegularEdges). r.n_bins)) spec.kind) where
  own_bins : n ≡ bins (edges_of spec.edges)
  own_bins = p ∙ stated_bins spec.edges

  own_size : size ≡ kind_size (kind_of spec.kind)
  own_size = o ∙ stated_size spec.kind

  module _ (r : Bool) (q : r ≡ over_numbers n size spec.shape.pack) where
    pub run_over : r ≡ true → 7 ≡ run_number sets pairs spec len
    unfolding run_number
    run_over t = rw (← own_bins, ← own_size, ← q, t)

    module _ (t : r ≡ false) where
      few : n ≤ 256
      few = ltb-false 256 n (none_over n size spec.shape.pack (sym q ∙ t)).0

      small : size ≤ 256
      small = ltb-false 256 size (none_over n size spec.shape.pack (sym q ∙ t)).1

      pub numbers_few : (n ≤ 256) × (size ≤ 256)
      numbers_few = (few, small)

      -- the rules of the edges and of the kind, one after another, with what their calls judge besides
      pub run_next : (z : ℕ)
          → z
          ≡ or_else sets
          (or_else (refusal (edges_call_rules (edges_of spec.edges)))
          (or_else (refusal (rule 7 (over_state (state_kind (kind_of spec.kind))) ∷ kind_rules (kind_of spec.kind))) (or_else pairs (refusal (shape_rules spec.shape n size len))))) → z ≡ run_number sets pairs spec len
      unfolding run_number
      run_next z h = h ∙ (rw (kind_over (state_kind (kind_of spec.kind)), ← own_bins, ← own_size, le-ltb 256 n few, le-ltb 256 size small, ← q, t))

      pub run_accepted : 0 ≡ sets
          → 0 ≡ refusal (edges_call_rules (edges_of spec.edges))
          → 0 ≡ refusal (rule 7 (over_state (state_kind (kind_of spec.kind))) ∷ kind_rules (kind_of spec.kind)) → 0 ≡ pairs → 0 ≡ refusal (shape_rules spec.shape n size len) → 0 ≡ run_number sets pairs spec len
      run_accepted a b c d e = run_next 0 (rw (← a, ← b, ← c, ← d) e)

  -- ---- what is built of an accepted run
  module _ (h : 0 ≡ run_number sets pairs spec len) (be : BuiltEdges) (rd : BuiltReducer) (x : (be ≡ made_edges spec.edges) × Usable be) (y : (rd ≡ made spec.kind) × UsableValues rd) where
    built_size : reducer_size rd ≡ kind_size (kind_of spec.kind)
    built_size = ap reducer_size y.0 ∙ made_size spec.kind

    pub built_usable : UsableRun be rd n
    built_usable =
        let d = (own_accepted sets pairs spec len (sym h)).2 in
        record {
          edges_usable = x.1;
          values_usable = y.1;
          states = own_bins ∙ sym (ap built_bins x.0 ∙ made_bins spec.edges);
          few = omega (arith, own_bins, d.few);
          small = omega (arith, built_size, d.small);
          limit = rw (own_bins, built_size) d.limit;
        }

-- what a setup is that has these numbers
pub setup_of : (spec : RunSpec) (n : ℕ) → n ≡ bins_in (λ (r : RegularEdges). r.n_bins) spec.edges → (s : Setup) → (s.edges ≡ made_edges spec.edges) × Usable s.edges → (s.reducer ≡ made spec.kind) × UsableValues s.reducer → s.op ≡ spec.op → s.n_states ≡ n → SetupOf spec s
setup_of spec n p s x y a e = record { op = a; edges = x.0; reducer = y.0; states = e ∙ p ∙ stated_bins spec.edges }

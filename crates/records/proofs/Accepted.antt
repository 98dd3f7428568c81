-- A curve that meets none of its own numbers is an accepted run into its zeros, so its pack is what the run adds to them.
use mathlib.Core.Path.{◌≡◌, refl, sym, subst}
use mathlib.Core.Bool.{true, false, not, ◌&&◌, ◌||◌}
use mathlib.Core.List.{List, [], ◌∷◌, ◌++◌}
use Prim.Native.Nat.{ℕ, ◌-◌, ◌*◌, ◌/◌, ◌%◌}
use native.Mathlib.Nat.{le_refl}
use native.Mathlib.Omega.{arith}
use lib.Dec.{T, ltb, eqb}
use lib.ListN.{length}
use borrow.Author.Tests.{le-ltb, le-leb, eq-eqb}
use Rattle.definitions.specs.Bins.{bins}
use Rattle.definitions.specs.Rules.{rule, refusal, run_rules, point_rules, irregular_rules, over_run, pack_fits, accepted}
use Rattle.definitions.specs.Records.{record_points, record_edges, curve_numbers, curve_rules, curve_bins, entry_run}
use Rattle.laws.proofs.Refusals.{none_broken, none_broken_law, none_refused, broken_left, broken_right, broken_both}
use Rattle.record_refusals.specs.Answers.{curve_number}
use Rattle.record_refusals.proofs.Rules.{edges_length}
use Rattle.records.proofs.Outcomes.{limits}

module _ (p e : List ℕ) (h : curve_number p e ≡ 0) where
  own_rules : T (none_broken (point_rules (record_points p) ++ irregular_rules (record_edges e)))
  unfolding curve_number
  own_rules =
      broken_right
      (rule 7 (ltb 57344 (length p) || ltb 2056 (length e)) ∷ rule 27 (not (eqb (length p % 56) 0)) ∷ rule 27 (not (eqb (length e % 8) 0)) ∷ [])
      (point_rules (record_points p) ++ irregular_rules (record_edges e))
      (none_broken_law (curve_rules p e) tt (subst (λ (n : ℕ). T (eqb n 0)) (sym h) tt))

  within : over_run (entry_run p e) ≡ false
  unfolding entry_run bins
  within =
      let l = limits p e (sym h) in
      let m = edges_length e in
      rw (le-ltb 4096 (length p / 56) (omega arith), le-ltb 8192 (length p / 56) (omega arith), m, le-ltb 256 (length e / 8 - 1) (omega arith), le-ltb 4096 ((length e / 8 - 1) * curve_numbers) (omega arith))

  fits : pack_fits (entry_run p e) (curve_bins e * curve_numbers) ≡ true
  unfolding entry_run
  fits = rw (eq-eqb (curve_bins e) (curve_bins e) refl, le-leb (curve_bins e * curve_numbers) (curve_bins e * curve_numbers) (le_refl (curve_bins e * curve_numbers)))

  last_rules_law : T (none_broken (rule 23 (not (eqb 1 1 && eqb 1 1)) ∷ rule 24 (not (pack_fits (entry_run p e) (curve_bins e * curve_numbers))) ∷ []))
  last_rules_law = rw fits tt

  none_met : refusal (run_rules (entry_run p e) (curve_bins e * curve_numbers)) ≡ 0
  unfolding entry_run
  none_met =
      let l = point_rules (record_points p) in
      let m = irregular_rules (record_edges e) in
      let n = rule 23 (not (eqb 1 1 && eqb 1 1)) ∷ rule 24 (not (pack_fits (entry_run p e) (curve_bins e * curve_numbers))) ∷ [] in
      rw within (none_refused (l ++ (m ++ n)) (broken_both l (m ++ n) (broken_left l m own_rules) (broken_both m n (broken_right l m own_rules) last_rules_law)))

  pub curve_accepted : accepted (entry_run p e) (curve_bins e * curve_numbers) ≡ true
  unfolding accepted
  curve_accepted = rw none_met

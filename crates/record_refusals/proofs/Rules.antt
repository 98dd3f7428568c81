-- The rules of a curve, one after the other as the code judges them.
use mathlib.Core.Path.{◌≡◌, refl, sym, ap, ◌∙◌}
use mathlib.Core.Bool.{true, false}
use mathlib.Core.List.{List, ◌++◌}
use Prim.Native.Nat.{ℕ, ◌-◌, ◌*◌, ◌/◌, ◌%◌, ◌≤◌}
use native.Mathlib.Nat.{add-zero, le_refl, mul-mod_left, mul-div_cancel}
use native.Mathlib.Omega.{arith}
use lib.Dec.{eqb}
use lib.ListN.{length, take, length-append}
use lib.Ieee.{Float}
use borrow.Author.Tests.{le-ltb, eq-eqb, ne_eqb}
use Rattle.definitions.specs.Bins.{bins, irregular}
use Rattle.definitions.specs.Rules.{Rule, refusal, point_rules, irregular_rules, edges_call_rules}
use Rattle.definitions.specs.Records.{column, record_points, record_edges, curve_bins}
use Rattle.record_bytes.specs.Stores.{stored}
use Rattle.record_bytes.specs.Columns.{numbers, edges_read}
use Rattle.record_refusals.specs.Answers.{curve_number}
use Rattle.record_bytes.proofs.Stores.{same_stored, stored_take}
use Rattle.record_bytes.proofs.Columns.{numbers_length}
use Rattle.record_bytes.proofs.Files.{edges_read_law}

-- ---- edges
pub edges_are : (b : List ℕ) → numbers 8 0 (length b / 8) b ≡ record_edges b
unfolding numbers
edges_are b = simp add-zero

pub edges_length : (b : List ℕ) → length (record_edges b) ≡ length b / 8
edges_length b = sym (ap length (edges_are b)) ∙ numbers_length 8 0 (length b / 8) b

module _ (e : List ℕ) (h : length e ≤ 2056) where
  pub edges_decoded : (z q : List Float) → 257 ≡ length z → q ≡ stored 0 (edges_read e) z → take (length e / 8) q ≡ record_edges e
  edges_decoded z q l f =
      ap (take (length e / 8)) (same_stored (edges_read e) (numbers 8 0 (length e / 8) e) z q f (sym (edges_read_law e h)))
      ∙ stored_take (numbers 8 0 (length e / 8) e) z (length e / 8) (numbers_length 8 0 (length e / 8) e) (omega arith) ∙ edges_are e

  -- 7 is never met
  pub edges_number : (z q : List Float) (r : ℕ) → 257 ≡ length z → q ≡ stored 0 (edges_read e) z → r ≡ refusal (edges_call_rules (irregular (take (length e / 8) q))) → r ≡ refusal (irregular_rules (record_edges e))
  unfolding bins
  edges_number z q r l f g = g ∙ ap (λ (s : List Float). refusal (edges_call_rules (irregular s))) (edges_decoded z q l f) ∙ rw (le-ltb 256 (length (record_edges e) - 1) (omega (arith, edges_length e)))

pub bins_are : (e : List ℕ) → length e / 8 - 1 ≡ curve_bins e
unfolding bins
bins_are e = ap (λ (n : ℕ). n - 1) (sym (edges_length e))

-- ---- points: of records only the first rule can be broken
column_length : (b : List ℕ) (k : ℕ) → length (column b k) ≡ length b / 56
unfolding numbers
column_length b k = numbers_length 56 (k * 8) (length b / 56) b

three_columns : (b : List ℕ) (i j k : ℕ) → length (column b i ++ (column b j ++ column b k)) ≡ 3 * (length b / 56)
three_columns b i j k =
    length-append (column b i) (column b j ++ column b k) ∙ omega (arith, length-append (column b j) (column b k), column_length b i, column_length b j, column_length b k)

pub points_pass : (b : List ℕ) (l : List Rule) → (length b / 56 ≡ 0 → ⊥) → refusal (point_rules (record_points b) ++ l) ≡ refusal l
points_pass b l h =
    rw (
      ne_eqb (length b / 56) 0 h,
      le-ltb (length b / 56) (length b / 56) (le_refl (length b / 56)),
      three_columns b 3 4 5,
      three_columns b 0 1 2,
      eq-eqb (3 * (length b / 56)) (3 * (length b / 56)) refl,
      mul-mod_left 3 (length b / 56),
      mul-div_cancel 3 {n = length b / 56} (omega arith),
      eq-eqb (length (column b 6)) (length b / 56) (column_length b 6),
    )

-- ---- all: what is left where none of the first rules is broken
pub then_edges : (p e : List ℕ) → length p ≤ 57344 → length e ≤ 2056 → length p % 56 ≡ 0 → length e % 8 ≡ 0 → eqb (length p) 0 ≡ false → (r : ℕ) → r ≡ refusal (irregular_rules (record_edges e)) → r ≡ curve_number p e
unfolding curve_number
then_edges p e a b c d h r f =
    let g : length p ≡ 0 → ⊥ = λ z. let t : eqb (length p) 0 ≡ true = eq-eqb (length p) 0 z in cc in
    let k : length p / 56 ≡ 0 → ⊥ = λ z. g (omega arith) in
    f ∙ sym (rw (le-ltb 57344 (length p) a, le-ltb 2056 (length e) b, eq-eqb (length p % 56) 0 c, eq-eqb (length e % 8) 0 d) (points_pass p (irregular_rules (record_edges e)) k))

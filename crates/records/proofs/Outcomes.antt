-- What the entry and the text come to in each case.
use mathlib.Core.Path.{◌≡◌, refl, sym, ap, ◌∙◌, subst}
use mathlib.Core.Bool.{Bool, true, false, not, cond, ◌&&◌, ◌||◌}
use mathlib.Core.List.{List, [], ◌∷◌}
use Prim.Native.Nat.{ℕ, zero, suc, ◌-◌, ◌*◌, ◌/◌, ◌≤◌, ◌<◌}
use native.Mathlib.Omega.{arith}
use lib.Dec.{T, ltb, eqb, ltb→lt}
use lib.ListN.{length, take, replicate, length-replicate}
use lib.Seq.{length-take-le}
use lib.Ieee.{Float}
use lib.Ieee.Fits.{and_l, and_r}
use borrow.Author.Tests.{eq-eqb, ne_eqb, ltb-false}
use Rattle.std.specs.Prelude.{Option, None, Some, IsErrAnd}
use Rattle.std.specs.declared.result.Result.{Result}
use Rattle.refusals.specs.declared.Refusal.{Refusal}
use Rattle.refusals.specs.Numbers.{refusal_number, number_of}
use Rattle.refusals.proofs.Answers.{number_nonzero, number_carried}
use Rattle.std.specs.Borrow.{Bor}
use Rattle.definitions.specs.Floats.{zero_f}
use Rattle.definitions.specs.Rules.{Rule, rule, refusal}
use Rattle.laws.specs.Refusals.{or_else}
use Rattle.laws.proofs.Refusals.{refusal_append}
use Rattle.definitions.specs.Records.{curve_numbers, bin_bytes, curve_bins, curve_bytes, curve_lines, curve_pack, curve_rules, entry_rules, entry_output, refused_line, printed, curve_text, program_text}
use Rattle.record_bytes.specs.Stores.{stored}
use Rattle.record_bytes.specs.Columns.{curve_records, records_fitting}
use Rattle.curve_text.specs.Text.{text_bytes, lines_text, refused_text, lines_fitting, refused_fitting, fitted}
use Rattle.record_refusals.specs.Answers.{curve_number}
use Rattle.records.specs.Answers.{file_read}
use Rattle.record_bytes.proofs.Stores.{same_stored, stored_take, stored_whole}
use Rattle.record_bytes.proofs.Columns.{records_length}
use Rattle.record_bytes.proofs.Files.{records_fit}
use Rattle.curve_text.proofs.Fitting.{lines_fit, refused_fit}

-- the curve's bytes and lines, by names that stay shut
unfoldable output_bytes : List ℕ → List ℕ → List ℕ
output_bytes points edges = curve_bytes (curve_bins edges) (curve_pack points edges)

unfoldable output_lines : List ℕ → List ℕ → List ℕ
output_lines points edges = curve_lines (curve_bins edges) (curve_pack points edges)

-- ---- within the limits, and zeros for the bins
-- the numbers of 256 bins
abbrev pub pack_numbers : ℕ
pack_numbers = 256 * curve_numbers

seven : (a b : Bool) (m : ℕ) → ◌≡◌ {A = ℕ} (cond (a || b) 7 m) 0 → (a ≡ false) × (b ≡ false)
seven true b m h = absurd (omega arith)
seven false true m h = absurd (omega arith)
seven false false m h = (refl, refl)

replicate_take : {A : Type 0} (n m : ℕ) (a : A) → n ≤ m → take n (replicate m a) ≡ replicate n a
replicate_take zero m a h = refl
replicate_take (suc n) zero a h = absurd (omega arith)
replicate_take (suc n) (suc m) a h = ap (λ (l : List _). a ∷ l) (replicate_take n m a (omega arith))

module _ (p e : List ℕ) (f : 0 ≡ curve_number p e) where
  pub limits : (length p ≤ 57344) × (length e ≤ 2056)
  unfolding curve_number
  limits = let s = seven (ltb 57344 (length p)) (ltb 2056 (length e)) _ (sym f) in (ltb-false 57344 (length p) s.0, ltb-false 2056 (length e) s.1)

  module _ (n : ℕ) (d : n ≡ length e / 8 - 1) where
    pub pack_room : n * curve_numbers ≤ pack_numbers
    pack_room = omega (arith, limits.1)

    pub pack_holds : (z : List Float) → z ≡ replicate pack_numbers (zero_f false) → n * curve_numbers ≤ length z
    pack_holds z b = omega (arith, pack_room, ap length b ∙ length-replicate pack_numbers (zero_f false))

    pub pack_part : (z : List Float) → z ≡ replicate pack_numbers (zero_f false) → n * curve_numbers ≡ length (take (n * curve_numbers) z)
    pack_part z b = sym (length-take-le (n * curve_numbers) z (pack_holds z b))

    pub zeros_taken : (z : List Float) → z ≡ replicate pack_numbers (zero_f false) → n ≡ curve_bins e → take (n * curve_numbers) z ≡ replicate (curve_bins e * curve_numbers) (zero_f false)
    zeros_taken z b c = let k : n * curve_numbers ≡ curve_bins e * curve_numbers = omega arith in ap (take (n * curve_numbers)) b ∙ replicate_take (n * curve_numbers) pack_numbers (zero_f false) pack_room ∙ ap (λ (m : ℕ). replicate m (zero_f false)) k

-- ---- the entry; r is the number of what the curve itself is refused for
module _ (p e s : List ℕ) (r : ℕ) (f : r ≡ curve_number p e) where
  entry_is : refusal (entry_rules p e (length s)) ≡ or_else r (cond (not (eqb (length s) (curve_bins e * bin_bytes))) 24 0)
  unfolding curve_number
  entry_is = refusal_append (curve_rules p e) (rule 24 (not (eqb (length s) (curve_bins e * bin_bytes))) ∷ []) tt ∙ sym (ap (λ (k : ℕ). or_else k (cond (not (eqb (length s) (curve_bins e * bin_bytes))) 24 0)) f)

-- what a number, 0 or not, leaves in the output
kept : (p e s : List ℕ) (k : ℕ) → k ≡ refusal (entry_rules p e (length s)) → (k ≡ 0 → ⊥) → s ≡ entry_output p e s
unfolding entry_output output_bytes
kept p e s k q h = sym (ap (λ (b : Bool). cond b (output_bytes p e) s) (ne_eqb k 0 h)) ∙ ap (λ (m : ℕ). cond (eqb m 0) (output_bytes p e) s) q

module _ (p e s : List ℕ) (r : Refusal) (f : refusal_number r ≡ curve_number p e) where
  first : refusal_number r ≡ refusal (entry_rules p e (length s))
  first = sym (entry_is p e s (refusal_number r) f ∙ (rw (ne_eqb (refusal_number r) 0 (number_nonzero r))))

  -- t is what `?` hands on
  pub answer_first : (t : Result (Unit {0}) Refusal) → IsErrAnd t (λ u. u ≡ r) → number_of t ≡ refusal (entry_rules p e (length s))
  answer_first t h = number_carried t r h ∙ first

  pub keeps_first : s ≡ entry_output p e s
  keeps_first = kept p e s (refusal_number r) first (number_nonzero r)

module _ (p e s : List ℕ) (f : 0 ≡ curve_number p e) (n : ℕ) (k : n ≡ curve_bins e) where
  module _ (h : length s ≡ n * bin_bytes → ⊥) where
    pub answer_24 : 24 ≡ refusal (entry_rules p e (length s))
    answer_24 = sym (entry_is p e s 0 f ∙ rw (← k, ne_eqb (length s) (n * bin_bytes) h))

    pub keeps_24 : s ≡ entry_output p e s
    keeps_24 = kept p e s 24 answer_24 (λ z. omega arith)

  module _ (h : length s ≡ n * bin_bytes) where
    pub answer_0 : 0 ≡ refusal (entry_rules p e (length s))
    answer_0 = sym (entry_is p e s 0 f ∙ rw (← k, eq-eqb (length s) (n * bin_bytes) h))

    makes_0 : (t : List ℕ) → t ≡ output_bytes p e → t ≡ entry_output p e s
    unfolding entry_output output_bytes
    makes_0 t q = q ∙ ap (λ (m : ℕ). cond (eqb m 0) (output_bytes p e) s) answer_0

    curve_written : (q : List Float) (r : List ℕ) → n * curve_numbers ≤ length q → q ≡ curve_pack p e → r ≡ stored 0 (records_fitting n q (length s)) s → r ≡ output_bytes p e
    unfolding output_bytes curve_records
    curve_written q r i g u =
        same_stored (records_fitting n q (length s)) (curve_records n n q) s r u (sym (records_fit n q (length s) i (omega arith))) ∙ stored_whole (curve_records n n q) s (records_length n q n ∙ sym h) ∙ (λ j. curve_bytes (k j) (g j))

    pub output_made : (q : List Float) (r : List ℕ) → n * curve_numbers ≤ length q → q ≡ curve_pack p e → r ≡ stored 0 (records_fitting n q (length s)) s → r ≡ entry_output p e s
    output_made q r i g u = makes_0 r (curve_written q r i g u)

-- ---- the text
lines_are : (p e : List ℕ) (n : ℕ) (q : List Float) (m : ℕ) → n ≡ curve_bins e → q ≡ curve_pack p e → n ≤ 256 → n * curve_numbers ≤ length q → text_bytes ≤ m → lines_fitting n q m ≡ output_lines p e
unfolding lines_text output_lines
lines_are p e n q m b f h g k = sym (lines_fit n q m (omega arith) g (omega arith)) ∙ (λ j. curve_lines (b j) (f j))

small_numbers : List Rule → Bool
small_numbers [] = true
small_numbers (r ∷ l) = ltb r.number 1000 && small_numbers l

refusal_small : (l : List Rule) → T (small_numbers l) → refusal l < 1000
unfolding small_numbers
refusal_small [] h = omega arith
refusal_small (r ∷ l) h = go r.broken (ltb→lt r.number 1000 (and_l (ltb r.number 1000) (small_numbers l) h)) (refusal_small l (and_r (ltb r.number 1000) (small_numbers l) h))
  where
    go : (b : Bool) → r.number < 1000 → refusal l < 1000 → cond b r.number (refusal l) < 1000
    go true x y = x
    go false x y = y

module _ (p e : List ℕ) (r : ℕ) (f : r ≡ curve_number p e) where
  number_small : r < 1000
  unfolding curve_number small_numbers
  number_small = subst (λ (k : ℕ). k < 1000) (sym f) (refusal_small (curve_rules p e) tt)

  pub text_refused : (m : ℕ) → text_bytes ≤ m → (r ≡ 0 → ⊥) → refused_fitting r m ≡ curve_text p e
  unfolding refused_text curve_text curve_number
  text_refused m g h =
      sym (refused_fit r m number_small (omega arith))
      ∙ sym (ap (λ (b : Bool). cond b (curve_lines (curve_bins e) (curve_pack p e)) (refused_line r)) (ne_eqb r 0 h)) ∙ ap (λ (m : ℕ). printed m (curve_lines (curve_bins e) (curve_pack p e))) f

-- the line of a refusal, n its number
pub refused_curve : (p e : List ℕ) (r : Refusal) (n m : ℕ) → refusal_number r ≡ curve_number p e → n ≡ refusal_number r → text_bytes ≤ m → refused_fitting n m ≡ curve_text p e
refused_curve p e r n m f g h = ap (λ (k : ℕ). refused_fitting k m) g ∙ text_refused p e (refusal_number r) f m h (number_nonzero r)

text_lines : (p e : List ℕ) → 0 ≡ curve_number p e → output_lines p e ≡ curve_text p e
unfolding output_lines curve_text curve_number
text_lines p e f = ap (λ (m : ℕ). printed m (curve_lines (curve_bins e) (curve_pack p e))) f

pub lines_made : (p e : List ℕ) (n : ℕ) (q : List Float) (m : ℕ) → 0 ≡ curve_number p e → n ≡ curve_bins e → q ≡ curve_pack p e → n ≤ 256 → n * curve_numbers ≤ length q → text_bytes ≤ m → lines_fitting n q m ≡ curve_text p e
lines_made p e n q m f b g h i k = lines_are p e n q m b g h i k ∙ text_lines p e f

-- ---- a text in a lent slice
-- a local array's front, copied
pub front_fitted : (t z q s r : List ℕ) (n m : ℕ) → n ≡ length t → n ≤ m → m ≡ length z → q ≡ stored 0 t z → r ≡ fitted (take n q) s → r ≡ fitted t s
front_fitted t z q s r n m e h k f g = g ∙ ap (λ (l : List ℕ). fitted l s) (ap (take n) f ∙ stored_take t z n (sym e) (omega arith))

-- ---- what the program prints
unread_line : (n m : ℕ) → n ≡ 28 → text_bytes ≤ m → refused_fitting n m ≡ refused_text 28
unread_line n m e h = ap (λ (k : ℕ). refused_fitting k m) e ∙ sym (refused_fit 28 m (omega arith) (omega arith))

module _ (p e : Option (Bor (List ℕ))) (n m : ℕ) (f : n ≡ 28) (g : text_bytes ≤ m) where
  pub no_points : p ≡ None → refused_fitting n m ≡ program_text (file_read p) (file_read e)
  unfolding refused_text
  no_points h = unread_line n m f g ∙ rw h

  pub no_edges : (b : Bor (List ℕ)) → p ≡ Some b → e ≡ None → refused_fitting n m ≡ program_text (file_read p) (file_read e)
  unfolding refused_text
  no_edges b h k = unread_line n m f g ∙ rw (h, k)

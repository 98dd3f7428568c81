-- From the bytes of the two files to the run of the entry.
use mathlib.Core.Path.{◌≡◌, sym, ap, ◌∙◌}
use mathlib.Core.Bool.{false}
use mathlib.Core.List.{List}
use Prim.Native.Nat.{ℕ, ◌-◌, ◌*◌, ◌/◌, ◌≤◌}
use native.Mathlib.Omega.{arith}
use lib.ListN.{length, take, replicate, length-replicate}
use lib.Ieee.{Float}
use Rattle.definitions.specs.Floats.{zero_f}
use Rattle.definitions.specs.Bins.{bins}
use Rattle.definitions.specs.Rules.{step}
use Rattle.definitions.specs.Records.{column, curve_numbers, curve_bins, entry_run, curve_pack}
use Rattle.reducer.specs.declared.PairOperation.TheVariants.{ElementwiseMultiply}
use Rattle.reducer.specs.declared.BinEdges.TheVariants.{Irregular}
use Rattle.reducer.specs.declared.Reducer.TheVariants.{ComponentSumMean}
use Rattle.std.specs.Borrow.{Bor}
use Rattle.std.specs.Prelude.{Some}
use Rattle.parallel_serial.specs.Drive.{run_of}
use Rattle.unstructured.specs.Readings.{auto_run}
use Rattle.record_bytes.specs.Stores.{stored}
use Rattle.record_bytes.specs.Columns.{numbers, three_numbers, edges_read, three_read, weights_read}
use Rattle.records.specs.Answers.{listed_curve, record_curve}
use Rattle.record_bytes.proofs.Stores.{same_stored, stored_take}
use Rattle.record_bytes.proofs.Columns.{numbers_length, three_length}
use Rattle.record_bytes.proofs.Files.{three_read_law, weights_read_law}
use Rattle.record_refusals.proofs.Rules.{edges_decoded}

module _ (p : List ℕ) (h : length p ≤ 57344) where
  three_decoded : (first : ℕ) (z q : List Float) → z ≡ replicate 3072 (zero_f false) → q ≡ stored 0 (three_read first p) z → take (3 * (length p / 56)) q ≡ three_numbers first (length p / 56) p
  three_decoded first z q l e =
      ap (take (3 * (length p / 56))) (same_stored (three_read first p) (three_numbers first (length p / 56) p) z q e (sym (three_read_law p first h)))
      ∙ stored_take (three_numbers first (length p / 56) p) z (3 * (length p / 56)) (three_length first (length p / 56) p) (omega (arith, ap length l ∙ length-replicate 3072 (zero_f false)))

  weights_decoded : (z q : List Float) → z ≡ replicate 1024 (zero_f false) → q ≡ stored 0 (weights_read p) z → take (length p / 56) q ≡ column p 6
  unfolding numbers
  weights_decoded z q l e =
      ap (take (length p / 56)) (same_stored (weights_read p) (numbers 56 48 (length p / 56) p) z q e (sym (weights_read_law p h)))
      ∙ stored_take (numbers 56 48 (length p / 56) p) z (length p / 56) (numbers_length 56 48 (length p / 56) p) (omega (arith, ap length l ∙ length-replicate 1024 (zero_f false)))

  module _ (x y w q r t : List Float) (a : x ≡ replicate 3072 (zero_f false)) (b : y ≡ replicate 3072 (zero_f false)) (c : w ≡ replicate 1024 (zero_f false)) where
    pub records_curve : (list pack s : List Float) → q ≡ stored 0 (three_read 0 p) x → r ≡ stored 0 (three_read 24 p) y → t ≡ stored 0 (weights_read p) w
        → s ≡ listed_curve (length p / 56) (take (3 * (length p / 56)) q) (take (3 * (length p / 56)) r) (take (length p / 56) t) list pack → s ≡ record_curve p list pack
    unfolding numbers three_numbers listed_curve record_curve
    records_curve list pack s d e f g = g ∙ (λ j. listed_curve (length p / 56) (three_decoded 0 x q a d j) (three_decoded 24 y r b e j) (weights_decoded w t c f j) list pack)

pub files_curve : (p e : List ℕ) (z q pack r : List Float) → length e ≤ 2056 → 257 ≡ length z → q ≡ stored 0 (edges_read e) z → pack ≡ replicate (curve_bins e * curve_numbers) (zero_f false)
    → r ≡ record_curve p (take (length e / 8) q) pack → r ≡ curve_pack p e
unfolding record_curve entry_run curve_pack
files_curve p e z q pack r h l f g k = k ∙ (λ j. record_curve p (edges_decoded e h z q l f j) (g j))

-- the run's parameters are the entry's
pub listed_run : (n b : ℕ) (x y w : List Float) (list : Bor (List Float)) (pack r : List Float) → b ≡ length list.now - 1
    → r ≡ step (auto_run (record { count = n; stated = Some n; positions = x; values = y; weights = w })
    (record { edges = Irregular list; kind = ComponentSumMean; op = ElementwiseMultiply; shape = record { pack = record { n_states = b; state_size = curve_numbers }; members = 1; teams = 1 } })) pack
    → r ≡ listed_curve n x y w list.now pack
unfolding run_of bins listed_curve
listed_run n b x y w list pack r e f = f ∙ (rw e)

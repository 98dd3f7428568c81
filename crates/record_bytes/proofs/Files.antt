-- What is read of a file and written of a curve, by its length: inside the limits all of it, past them nothing.
use mathlib.Core.Path.{◌≡◌}
use mathlib.Core.List.{List, [], ◌++◌}
use Prim.Native.Nat.{ℕ, ◌*◌, ◌/◌, ◌≤◌, ◌<◌}
use native.Mathlib.Omega.{arith}
use lib.ListN.{length, take, drop}
use lib.Ieee.{Float}
use borrow.Author.Tests.{le-leb, lt-leb}
use Rattle.definitions.specs.Records.{curve_numbers, bin_bytes}
use Rattle.record_bytes.specs.Columns.{numbers, three_numbers, curve_records, edges_read, three_read, weights_read, records_fitting}
use Rattle.record_bytes.specs.Stores.{stored}
use Rattle.record_bytes.proofs.Stores.{stored_keeps, same_stored}
use Rattle.record_bytes.proofs.Columns.{numbers_part}

module _ (b : List ℕ) where
  pub edges_read_law : length b ≤ 2056 → numbers 8 0 (length b / 8) b ≡ edges_read b
  unfolding edges_read
  edges_read_law h = rw (le-leb (length b) 2056 h)

  -- numbers put into a part of an array, and the array's length
  numbers_put : (size first : ℕ) (s q l : List Float) → length b / size ≤ length s → numbers size first (length b / size) b ≡ l → q ≡ numbers size first (length (take (length b / size) s)) b
      → (q ++ drop (length b / size) s ≡ stored 0 l s) × (length (q ++ drop (length b / size) s) ≡ length s)
  numbers_put size first s q l h e f =
      let g = same_stored (numbers size first (length b / size) b) l s (q ++ drop (length b / size) s) (numbers_part size first b s (length b / size) q h f) e in
      (g, stored_keeps 0 l s _ g)

  pub edges_put : (s q : List Float) → length b ≤ 2056 → length s ≡ 257 → q ≡ numbers 8 0 (length (take (length b / 8) s)) b → (q ++ drop (length b / 8) s ≡ stored 0 (edges_read b) s) × (length (q ++ drop (length b / 8) s) ≡ length s)
  edges_put s q h k f = numbers_put 8 0 s q (edges_read b) (omega arith) (edges_read_law h) f

  pub edges_past : 2056 < length b → [] ≡ edges_read b
  unfolding edges_read
  edges_past h = rw (lt-leb (length b) 2056 h)

  pub three_read_law : (first : ℕ) → length b ≤ 57344 → three_numbers first (length b / 56) b ≡ three_read first b
  unfolding three_read
  three_read_law first h = rw (le-leb (length b) 57344 h)

  pub three_past : (first : ℕ) → 57344 < length b → [] ≡ three_read first b
  unfolding three_read
  three_past first h = rw (lt-leb (length b) 57344 h)

  pub weights_read_law : length b ≤ 57344 → numbers 56 48 (length b / 56) b ≡ weights_read b
  unfolding weights_read
  weights_read_law h = rw (le-leb (length b) 57344 h)

  pub weights_put : (s q : List Float) → length b ≤ 57344 → length s ≡ 1024 → q ≡ numbers 56 48 (length (take (length b / 56) s)) b
      → (q ++ drop (length b / 56) s ≡ stored 0 (weights_read b) s) × (length (q ++ drop (length b / 56) s) ≡ length s)
  weights_put s q h k f = numbers_put 56 48 s q (weights_read b) (omega arith) (weights_read_law h) f

  pub weights_past : 57344 < length b → [] ≡ weights_read b
  unfolding weights_read
  weights_past h = rw (lt-leb (length b) 57344 h)

module _ (n : ℕ) (pack : List Float) (room : ℕ) where
  pub records_fit : n * curve_numbers ≤ length pack → n * bin_bytes ≤ room → curve_records n n pack ≡ records_fitting n pack room
  unfolding records_fitting
  records_fit h g = rw (le-leb (n * curve_numbers) (length pack) h, le-leb (n * bin_bytes) room g)

  pub short_pack : length pack < n * curve_numbers → [] ≡ records_fitting n pack room
  unfolding records_fitting
  short_pack h = rw (lt-leb (n * curve_numbers) (length pack) h)

  pub short_room : n * curve_numbers ≤ length pack → room < n * bin_bytes → [] ≡ records_fitting n pack room
  unfolding records_fitting
  short_room h g = rw (le-leb (n * curve_numbers) (length pack) h, lt-leb (n * bin_bytes) room g)

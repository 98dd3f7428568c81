-- The loops over records: numbers out of them, and a curve into them.
use mathlib.Core.Path.{◌≡◌, refl, sym, ap, ◌∙◌}
use mathlib.Core.List.{List, [], ◌++◌, append_assoc, append-nil}
use Prim.Native.Nat.{ℕ, ◌+◌, ◌-◌, ◌*◌, ◌≤◌}
use native.Mathlib.Omega.{arith}
use lib.ListN.{length, set, take, drop, length-append, length-drop, length-map, drop_of_length-le}
use lib.Seq.{take_at, drop_at, length-take-le}
use borrow.Rule.Slice.PartMut.{mid_of, put_mid}
use lib.Ieee.{Float}
use Rattle.definitions.specs.Lists.{at, upto, flat_map}
use Rattle.definitions.specs.Run.{place}
use Rattle.definitions.specs.Records.{float_at, float_bytes, curve_numbers, bin_bytes}
use Rattle.laws.proofs.Lists.{range_length, rows_length}
use Rattle.record_bytes.specs.Stores.{stored}
use Rattle.record_bytes.specs.Columns.{numbers, three_numbers, number_bytes, bin_record, curve_records}
use Rattle.record_bytes.proofs.Stores.{stored_next, stored_whole, stored_part, stored_middle, stored_keeps, table_turn, rows_turn}

pub numbers_length : (size first n : ℕ) (b : List ℕ) → length (numbers size first n b) ≡ n
unfolding numbers
numbers_length size first n b = length-map (upto n) (λ i. float_at b (i * size + first)) ∙ range_length 0 n

module _ (size first : ℕ) (b : List ℕ) (s : List Float) where
  pub numbers_none : s ≡ stored 0 (numbers size first 0 b) s
  unfolding stored numbers
  numbers_none = refl

  pub numbers_turn : (i : ℕ) (q : List Float) (x : Float) → x ≡ float_at b (i * size + first) → q ≡ stored 0 (numbers size first i b) s → set q i x ≡ stored 0 (numbers size first (i + 1) b) s
  unfolding numbers
  numbers_turn i q x e inv = table_turn (λ j. float_at b (j * size + first)) s i q x e inv

  pub numbers_done : (i : ℕ) (q : List Float) → i ≡ length s → q ≡ stored 0 (numbers size first i b) s → q ≡ numbers size first (length s) b
  numbers_done i q e inv = inv ∙ ap (λ (j : ℕ). stored 0 (numbers size first j b) s) e ∙ stored_whole (numbers size first (length s) b) s (numbers_length size first (length s) b)

  -- ---- into a part of a slice
  pub numbers_part : (n : ℕ) (q : List Float) → n ≤ length s → q ≡ numbers size first (length (take n s)) b → q ++ drop n s ≡ stored 0 (numbers size first n b) s
  numbers_part n q h e =
      let f : length (take n s) ≡ n = length-take-le n s h in
      ap (λ (l : List Float). l ++ drop n s) (e ∙ ap (λ (m : ℕ). numbers size first m b) f) ∙ stored_part n (numbers size first n b) s (numbers_length size first n b) h

  pub numbers_middle : (a k n : ℕ) (q : List Float) → k ≡ n → a + n ≤ length s → q ≡ numbers size first (length (mid_of a k s)) b → put_mid a k s q ≡ stored a (numbers size first n b) s
  numbers_middle a k n q d h e =
      let g : k ≤ length (drop a s) = omega (arith, length-drop a s) in
      let f : length (mid_of a k s) ≡ n = length-take-le k (drop a s) g ∙ d in
      ap (put_mid a k s) (e ∙ ap (λ (m : ℕ). numbers size first m b) f) ∙ stored_middle a k (numbers size first n b) s (numbers_length size first n b ∙ sym d) (omega arith)

three_stored : (first n : ℕ) (b : List ℕ) (s q r t : List Float) → q ≡ stored 0 (numbers 56 first n b) s → r ≡ stored n (numbers 56 (first + 8) n b) q → t ≡ stored (2 * n) (numbers 56 (first + 16) n b) r
    → t ≡ stored 0 (three_numbers first n b) s
unfolding three_numbers
three_stored first n b s q r t e f g =
    let x = numbers 56 first n b in
    let y = numbers 56 (first + 8) n b in
    let z = numbers 56 (first + 16) n b in
    g
    ∙ ap (stored (2 * n) z) (f ∙ ap (stored n y) e ∙ stored_next 0 x y s n (omega (arith, numbers_length 56 first n b)))
    ∙ stored_next 0 (x ++ y) z s (2 * n) (omega (arith, length-append x y, numbers_length 56 first n b, numbers_length 56 (first + 8) n b))
    ∙ ap (λ (l : List Float). stored 0 l s) (append_assoc x y z)

-- each column put into its part
pub three_put : (first n k m : ℕ) (b : List ℕ) (s x y z : List Float) → 3 * n ≤ length s → k ≡ n → m ≡ n → x ≡ numbers 56 first (length (take n s)) b → y ≡ numbers 56 (first + 8) (length (mid_of n k (x ++ drop n s))) b
    → z ≡ numbers 56 (first + 16) (length (mid_of (2 * n) m (put_mid n k (x ++ drop n s) y))) b → put_mid (2 * n) m (put_mid n k (x ++ drop n s) y) z ≡ stored 0 (three_numbers first n b) s
three_put first n k m b s x y z h c d e f g =
    let q = x ++ drop n s in
    let r = put_mid n k q y in
    let u : q ≡ stored 0 (numbers 56 first n b) s = numbers_part 56 first b s n x (omega arith) e in
    let i : length q ≡ length s = stored_keeps 0 (numbers 56 first n b) s q u in
    let v : r ≡ stored n (numbers 56 (first + 8) n b) q = numbers_middle 56 (first + 8) b q n k n y c (omega arith) f in
    let j : length r ≡ length q = stored_keeps n (numbers 56 (first + 8) n b) q r v in
    three_stored first n b s q r (put_mid (2 * n) m r z) u v (numbers_middle 56 (first + 16) b r (2 * n) m n z d (omega arith) g)

pub three_length : (first n : ℕ) (b : List ℕ) → length (three_numbers first n b) ≡ 3 * n
unfolding three_numbers
three_length first n b =
    let x = numbers 56 first n b in
    let y = numbers 56 (first + 8) n b in
    let z = numbers 56 (first + 16) n b in
    length-append x (y ++ z) ∙ omega (arith, length-append y z, numbers_length 56 first n b, numbers_length 56 (first + 8) n b, numbers_length 56 (first + 16) n b)

-- two halves written one after the other
pub bin_stored : (x y : Float) (q r b : List ℕ) → length b ≡ bin_bytes → q ≡ number_bytes x → r ≡ number_bytes y → put_mid 8 (length (q ++ drop 8 b) - 8) (q ++ drop 8 b) r ≡ bin_record x y
unfolding number_bytes bin_record
bin_stored x y q r b h e f =
    let d : length q ≡ 8 = ap length e in
    let k : length (q ++ drop 8 b) ≡ bin_bytes = length-append q (drop 8 b) ∙ omega (arith, length-drop 8 b) in
    let i : length (drop 8 b) ≤ 8 = omega (arith, length-drop 8 b) in
    let g : drop 8 (drop 8 b) ≡ [] = drop_of_length-le (drop 8 b) i in
    (λ j. take_at q (drop 8 b) 8 d j ++ (r ++ drop (k j - 8) (drop_at q (drop 8 b) 8 d j)))
    ∙ (λ j. e j ++ (f j ++ g j))
    ∙ ap (λ (l : List ℕ). float_bytes x ++ l) (append-nil (float_bytes y))

-- ---- the records of a curve
module _ (n : ℕ) (pack : List Float) where
  pub records_length : (i : ℕ) → length (curve_records i n pack) ≡ i * bin_bytes
  unfolding curve_records
  records_length i = rows_length (λ s. flat_map (λ e. float_bytes (at pack (place n e s))) (upto curve_numbers)) bin_bytes (λ s. refl) 0 i

  module _ (b₀ : List ℕ) where
    pub records_none : b₀ ≡ stored 0 (curve_records 0 n pack) b₀
    unfolding stored curve_records
    records_none = refl

    pub records_turn : (i k : ℕ) (q r : List ℕ) → k ≡ bin_bytes → i * bin_bytes + bin_bytes ≤ length b₀ → r ≡ bin_record (at pack i) (at pack (n + i)) → q ≡ stored 0 (curve_records i n pack) b₀ → put_mid (i * bin_bytes) k q r ≡ stored 0 (curve_records (i + 1) n pack) b₀
    unfolding bin_record curve_records
    records_turn i k q r d h e inv =
        let total : i ≡ place n 0 i = omega arith in
        let weight : n + i ≡ place n 1 i = omega arith in
        ap (put_mid (i * bin_bytes) k q) e
        ∙ stored_middle (i * bin_bytes) k (float_bytes (at pack i) ++ float_bytes (at pack (n + i))) q (sym d) (omega (arith, stored_keeps 0 _ b₀ q inv))
        ∙ (λ j. stored (i * bin_bytes) (float_bytes (at pack (total j)) ++ float_bytes (at pack (weight j))) q)
        ∙ rows_turn (λ s. flat_map (λ e. float_bytes (at pack (place n e s))) (upto curve_numbers)) b₀ i (i * bin_bytes) q (sym (records_length i)) inv

    pub records_done : (i : ℕ) (q : List ℕ) → i ≤ n → n ≤ i → q ≡ stored 0 (curve_records i n pack) b₀ → q ≡ stored 0 (curve_records n n pack) b₀
    records_done i q h g inv = let e : i ≡ n = omega arith in inv ∙ ap (λ (j : ℕ). stored 0 (curve_records j n pack) b₀) e

-- Decimal and hexadecimal digits, lines, and the loops that put them into a slice.
use mathlib.Core.Path.{◌≡◌, refl, sym, ap, ◌∙◌}
use mathlib.Core.List.{List, [], ◌∷◌, ◌++◌, append_assoc}
use Prim.Native.Nat.{ℕ, zero, suc, ◌+◌, ◌-◌, ◌/◌, ◌%◌, ◌≤◌, ◌<◌}
use native.Mathlib.Omega.{arith}
use lib.ListN.{length, drop, set, length-append}
use borrow.Rule.Slice.PartMut.{mid_of, put_mid}
use lib.Ieee.{Float, binary64, to_bits}
use borrow.Author.Tests.{lt-ltb, le-ltb}
use Rattle.definitions.specs.Lists.{at}
use Rattle.definitions.specs.Run.{place}
use Rattle.definitions.specs.Records.{ascii, decimal, hex_digit, hexadecimal, bits_text, curve_line}
use Rattle.record_bytes.specs.Stores.{stored}
use Rattle.curve_text.specs.Text.{line_bytes, decimal_text, decimal_then, hex_text, bits_then, line_text, lines_text, refused_text}
use Rattle.record_bytes.proofs.Stores.{stored_keeps, stored_next, stored_last, stored_past, stored_part, stored_inside, rows_turn, rows_place}

-- ---- decimal
one_digit : (n : ℕ) → n < 10 → decimal_text n ≡ (48 + n) ∷ []
unfolding decimal_text
one_digit n h = rw (lt-ltb n 10 h)

two_digits : (n : ℕ) → 10 ≤ n → n < 100 → decimal_text n ≡ (48 + n / 10) ∷ (48 + n % 10) ∷ []
unfolding decimal_text
two_digits n h g = rw (le-ltb n 10 h, lt-ltb (n / 10) 10 (omega arith))

three_digits : (n : ℕ) → 100 ≤ n → n < 1000 → decimal_text n ≡ (48 + n / 10 / 10) ∷ (48 + n / 10 % 10) ∷ (48 + n % 10) ∷ []
unfolding decimal_text
three_digits n h g = rw (le-ltb n 10 (omega arith), le-ltb (n / 10) 10 (omega arith), lt-ltb (n / 10 / 10) 10 (omega arith))

pub digit_low : (d : ℕ) → d < 10 → 48 + d ≡ hex_digit d
digit_low d h = rw (lt-ltb d 10 h)

module _ (n : ℕ) (s : List ℕ) where
  pub put_1 : (d : ℕ) → d ≡ hex_digit n → n < 10 → set s 0 d ≡ stored 0 (decimal_text n) s
  unfolding stored
  put_1 d e h = rw (one_digit n h, e, ← digit_low n h)

  pub put_2 : (d e : ℕ) → d ≡ hex_digit (n / 10) → e ≡ hex_digit (n % 10) → 10 ≤ n → n < 100 → set (set s 0 d) 1 e ≡ stored 0 (decimal_text n) s
  unfolding stored
  put_2 d e p q h g = rw (two_digits n h g, p, q, ← digit_low (n / 10) (omega arith), ← digit_low (n % 10) (omega arith))

  pub put_3 : (d e f : ℕ) → d ≡ hex_digit (n / 10 / 10) → e ≡ hex_digit (n / 10 % 10) → f ≡ hex_digit (n % 10) → 100 ≤ n → n < 1000 → set (set (set s 0 d) 1 e) 2 f ≡ stored 0 (decimal_text n) s
  unfolding stored
  put_3 d e f p q r h g = rw (three_digits n h g, p, q, r, ← digit_low (n / 10 / 10) (omega arith), ← digit_low (n / 10 % 10) (omega arith), ← digit_low (n % 10) (omega arith))

pub past_1 : (n : ℕ) → n < 10 → 1 ≡ length (decimal_text n)
past_1 n h = rw (one_digit n h)

pub past_2 : (n : ℕ) → 10 ≤ n → n < 100 → 2 ≡ length (decimal_text n)
past_2 n h g = rw (two_digits n h g)

pub past_3 : (n : ℕ) → 100 ≤ n → n < 1000 → 3 ≡ length (decimal_text n)
past_3 n h g = rw (three_digits n h g)

-- ---- hexadecimal, the last digit first: what is left, put onto what is there, gives the whole
hex_length : (i n : ℕ) → length (hex_text i n) ≡ i
unfolding hex_text
hex_length zero n = refl
hex_length (suc i) n = length-append (hexadecimal i (n / 16)) (hex_digit (n % 16) ∷ []) ∙ (let e = hex_length i (n / 16) in omega arith)

module _ (n : ℕ) (s : List ℕ) where
  pub hex_turn : (i r d : ℕ) (q : List ℕ) → 0 < i → d ≡ hex_digit (r % 16) → stored 0 (hex_text i r) q ≡ stored 0 (hex_text 16 n) s → stored 0 (hex_text (i - 1) (r / 16)) (set q (i - 1) d) ≡ stored 0 (hex_text 16 n) s
  unfolding hex_text
  hex_turn i r d q h e inv =
      let j = i - 1 in
      let l : length (hex_text j (r / 16)) ≡ j = hex_length j (r / 16) in
      let f : suc j ≡ i = omega arith in
      stored_past 0 (hex_text j (r / 16)) q j d (omega arith)
      ∙ ap (set (stored 0 (hex_text j (r / 16)) q) j) e
      ∙ stored_last 0 (hex_text j (r / 16)) (hex_digit (r % 16)) q j (omega arith)
      ∙ ap (λ (m : ℕ). stored 0 (hex_text m r) q) f
      ∙ inv

  pub hex_done : (i r : ℕ) (q : List ℕ) → i ≤ 0 → stored 0 (hex_text i r) q ≡ stored 0 (hex_text 16 n) s → q ≡ stored 0 (hex_text 16 n) s
  unfolding stored hex_text
  hex_done i r q h inv = let e : i ≡ 0 = omega arith in sym (ap (λ (j : ℕ). stored 0 (hex_text j r) q) e) ∙ inv

-- ---- a float's bits, and a line
pub bits_then_law : (b c : ℕ) (x : Float) (s q : List ℕ) → b ≡ to_bits binary64 x → q ≡ stored 0 (hex_text 16 b) s → set q 16 c ≡ stored 0 (bits_then x c) s
unfolding hex_text bits_then
bits_then_law b c x s q e f = ap (λ (r : List ℕ). set r 16 c) (f ∙ ap (λ (m : ℕ). stored 0 (hex_text 16 m) s) e) ∙ stored_last 0 (hex_text 16 (to_bits binary64 x)) c s 16 (hex_length 16 (to_bits binary64 x))

pub number_then : (n p c : ℕ) (s q : List ℕ) → p ≡ length (decimal_text n) → q ≡ stored 0 (decimal_text n) s → set q p c ≡ stored 0 (decimal_then n c) s
unfolding decimal_text decimal_then
number_then n p c s q e f = ap (λ (r : List ℕ). set r p c) f ∙ stored_last 0 (decimal n) c s p (omega arith)

pub number_past : (n p c : ℕ) → p ≡ length (decimal_text n) → p + 1 ≡ length (decimal_then n c)
unfolding decimal_text decimal_then
number_past n p c e = omega (arith, length-append (decimal n) (c ∷ []))

then_length : (x : Float) (c : ℕ) → length (bits_then x c) ≡ 17
unfolding bits_then
then_length x c = refl

regroup : (a b c d e : List ℕ) → a ++ (b ++ c) ++ (d ++ e) ≡ a ++ b ++ c ++ d ++ e
regroup a b c d e = simp append_assoc

module _ (n : ℕ) (x y : Float) where
  line_is : decimal_then n 32 ++ bits_then x 32 ++ bits_then y 10 ≡ line_text n x y
  unfolding decimal_then bits_then line_text
  line_is = regroup (decimal n ++ (32 ∷ [])) (bits_text x) (32 ∷ []) (bits_text y) (10 ∷ [])

  middle_length : length (decimal_then n 32 ++ bits_then x 32) ≡ length (decimal_then n 32) + 17
  middle_length = length-append (decimal_then n 32) (bits_then x 32) ∙ omega (arith, then_length x 32)

  module _ (p : ℕ) (e : p ≡ length (decimal_then n 32)) where
    line_stored : (s q r t : List ℕ) → q ≡ stored 0 (decimal_then n 32) s → r ≡ stored p (bits_then x 32) q → t ≡ stored (p + 17) (bits_then y 10) r → t ≡ stored 0 (line_text n x y) s
    line_stored s q r t a b c =
        c
        ∙ ap (stored (p + 17) (bits_then y 10)) (b ∙ ap (stored p (bits_then x 32)) a ∙ stored_next 0 (decimal_then n 32) (bits_then x 32) s p (omega arith))
        ∙ stored_next 0 (decimal_then n 32 ++ bits_then x 32) (bits_then y 10) s (p + 17) (omega (arith, middle_length))
        ∙ ap (λ (l : List ℕ). stored 0 l s) line_is

    -- each part put into what is left
    pub line_put : (k m : ℕ) (s q a b : List ℕ) → p ≤ 4 → line_bytes ≤ length s → q ≡ stored 0 (decimal_then n 32) s → k ≡ length q - p → a ≡ stored 0 (bits_then x 32) (mid_of p k q)
        → m ≡ length (put_mid p k q a) - (p + 17) → b ≡ stored 0 (bits_then y 10) (mid_of (p + 17) m (put_mid p k q a)) → put_mid (p + 17) m (put_mid p k q a) b ≡ stored 0 (line_text n x y) s
    line_put k m s q a b h g f c d v w =
        let r = put_mid p k q a in
        let i : length q ≡ length s = stored_keeps 0 (decimal_then n 32) s q f in
        let t : r ≡ stored p (bits_then x 32) q = stored_inside p k (bits_then x 32) q a (omega (arith, then_length x 32)) (omega arith) d in
        let j : length r ≡ length q = stored_keeps p (bits_then x 32) q r t in
        line_stored s q r (put_mid (p + 17) m r b) f t (stored_inside (p + 17) m (bits_then y 10) r b (omega (arith, then_length y 10)) (omega arith) w)

    pub line_past : p + 34 ≡ length (line_text n x y)
    line_past =
        let l : length (line_text n x y) ≡ length (decimal_then n 32 ++ bits_then x 32) + 17 = sym (ap length line_is) ∙ length-append (decimal_then n 32 ++ bits_then x 32) (bits_then y 10) ∙ omega (arith, then_length y 10) in
        omega (arith, middle_length)

-- ---- the lines
pub lines_none : (n : ℕ) (pack : List Float) (s : List ℕ) → s ≡ stored 0 (lines_text 0 n pack) s
unfolding stored lines_text
lines_none n pack s = refl

pub lines_start : (n : ℕ) (pack : List Float) → 0 ≡ length (lines_text 0 n pack)
unfolding lines_text
lines_start n pack = refl

module _ (n : ℕ) (pack : List Float) (i k : ℕ) (e : k ≡ length (lines_text i n pack)) where
  line_of : line_text i (at pack i) (at pack (n + i)) ≡ curve_line n pack i
  unfolding line_text
  line_of =
      let total : i ≡ place n 0 i = omega arith in
      let weight : n + i ≡ place n 1 i = omega arith in
      λ j. line_text i (at pack (total j)) (at pack (weight j))

  pub lines_turn : (m : ℕ) (s q r : List ℕ) → k + length (line_text i (at pack i) (at pack (n + i))) ≤ length s → m ≡ length q - k → r ≡ stored 0 (line_text i (at pack i) (at pack (n + i))) (mid_of k m q) → q ≡ stored 0 (lines_text i n pack) s
      → put_mid k m q r ≡ stored 0 (lines_text (i + 1) n pack) s
  unfolding lines_text
  lines_turn m s q r h d f inv =
      let j : length q ≡ length s = stored_keeps 0 (lines_text i n pack) s q inv in
      stored_inside k m (line_text i (at pack i) (at pack (n + i))) q r (omega arith) (omega arith) f ∙ ap (λ (l : List ℕ). stored k l q) line_of ∙ rows_turn (curve_line n pack) s i k q e inv

  pub lines_place : (p : ℕ) → p ≡ length (line_text i (at pack i) (at pack (n + i))) → k + p ≡ length (lines_text (i + 1) n pack)
  unfolding lines_text
  lines_place p f = ap (λ (j : ℕ). k + j) (f ∙ ap length line_of) ∙ rows_place (curve_line n pack) i k e

  pub lines_length : i ≤ n → n ≤ i → k ≡ length (lines_text n n pack)
  lines_length h g = let f : i ≡ n = omega arith in e ∙ ap (λ (j : ℕ). length (lines_text j n pack)) f

pub lines_done : (n i : ℕ) (pack : List Float) (s q : List ℕ) → i ≤ n → n ≤ i → q ≡ stored 0 (lines_text i n pack) s → q ≡ stored 0 (lines_text n n pack) s
lines_done n i pack s q h g inv = let f : i ≡ n = omega arith in inv ∙ ap (λ (j : ℕ). stored 0 (lines_text j n pack) s) f

-- ---- the line of a refusal
pub refused_put : (n m : ℕ) (s a r : List ℕ) → 12 ≤ length s → a ≡ ascii "refused " → length (decimal_then n 10) ≤ 4 → m ≡ length (a ++ drop 8 s) - 8 → r ≡ stored 0 (decimal_then n 10) (mid_of 8 m (a ++ drop 8 s)) → put_mid 8 m (a ++ drop 8 s) r ≡ stored 0 (refused_text n) s
unfolding decimal_then refused_text
refused_put n m s a r h e g c f =
    let q = a ++ drop 8 s in
    let w = decimal n ++ (10 ∷ []) in
    let d : q ≡ stored 0 (ascii "refused ") s = ap (λ (l : List ℕ). l ++ drop 8 s) e ∙ stored_part 8 (ascii "refused ") s refl (omega arith) in
    let i : length q ≡ length s = stored_keeps 0 (ascii "refused ") s q d in
    stored_inside 8 m w q r (omega arith) (omega arith) f ∙ ap (stored 8 w) d ∙ stored_next 0 (ascii "refused ") w s 8 refl

pub refused_length : (n r : ℕ) → r ≡ length (decimal_then n 10) → 8 + r ≡ length (refused_text n)
unfolding decimal_then refused_text
refused_length n r e = ap (λ (k : ℕ). 8 + k) e ∙ sym (length-append (ascii "refused ") (decimal n ++ (10 ∷ [])))

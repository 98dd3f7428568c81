-- Lists put into a slice: one after the other, and over a whole slice. Assumes nothing.
use mathlib.Core.Path.{◌≡◌, refl, sym, ap, ◌∙◌}
use mathlib.Core.List.{List, [], ◌∷◌, ◌++◌, map, map-append, append_assoc, append-nil}
use Prim.Native.Nat.{ℕ, zero, suc, ◌+◌, ◌≤◌}
use native.Mathlib.Nat.{add-zero, zero-add}
use native.Mathlib.Omega.{arith}
use lib.ListN.{length, set, take, drop, length-map, length-append, length-drop, take-append-drop}
use lib.Seq.{sets, set_comm, length-sets, sets-eq, take_at, drop-length, drop-drop, drop-append-le, length-take-le}
use borrow.Rule.Slice.PartMut.{mid_of, put_mid}
use Rattle.definitions.specs.Lists.{range, upto, flat_map}
use Rattle.laws.proofs.Lists.{range_length}
use Rattle.record_bytes.specs.Stores.{stored}

module _ {A : Type 0} where
  pub stored_length : (k : ℕ) (l s : List A) → length (stored k l s) ≡ length s
  unfolding stored
  stored_length k l s = length-sets s k l

  -- the same, of a slice known by an equation
  pub stored_keeps : (k : ℕ) (l s r : List A) → r ≡ stored k l s → length r ≡ length s
  stored_keeps k l s r e = ap length e ∙ stored_length k l s

  pub stored_append : (k : ℕ) (l m s : List A) → stored (k + length l) m (stored k l s) ≡ stored k (l ++ m) s
  unfolding stored
  stored_append k [] m s = ap (λ (n : ℕ). sets s n m) (add-zero k)
  stored_append k (a ∷ l) m s = let e : k + suc (length l) ≡ suc k + length l = omega arith in ap (λ (n : ℕ). sets (sets (set s k a) (suc k) l) n m) e ∙ stored_append (suc k) l m (set s k a)

  -- the same where the place is known by an equation
  pub stored_next : (k : ℕ) (l m s : List A) (j : ℕ) → j ≡ k + length l → stored j m (stored k l s) ≡ stored k (l ++ m) s
  stored_next k l m s j e = ap (λ (i : ℕ). stored i m (stored k l s)) e ∙ stored_append k l m s

  pub stored_last : (k : ℕ) (l : List A) (a : A) (s : List A) (j : ℕ) → k + length l ≡ j → set (stored k l s) j a ≡ stored k (l ++ (a ∷ [])) s
  unfolding stored
  stored_last k l a s j e = sym (ap (λ (i : ℕ). set (stored k l s) i a) e) ∙ stored_append k l (a ∷ []) s

  -- a store past the list, before it or after it
  pub stored_past : (k : ℕ) (l s : List A) (j : ℕ) (a : A) → k + length l ≤ j → stored k l (set s j a) ≡ set (stored k l s) j a
  unfolding stored
  stored_past k [] s j a h = refl
  stored_past k (v ∷ l) s j a h = ap (λ (m : List A). sets m (suc k) l) (set_comm s j k a v (λ e. omega arith)) ∙ stored_past (suc k) l (set s k v) j a (omega arith)

  -- ---- at the front of a slice
  pub stored_front : (l s : List A) → length l ≤ length s → stored 0 l s ≡ l ++ drop (length l) s
  unfolding stored
  stored_front l s h = let e : 0 + length l ≡ length l = zero-add (length l) in sets-eq l s 0 (omega arith) ∙ ap (λ (n : ℕ). l ++ drop n s) e

  pub stored_take : (l s : List A) (n : ℕ) → length l ≡ n → n ≤ length s → take n (stored 0 l s) ≡ l
  stored_take l s n e h = ap (take n) (stored_front l s (omega arith)) ∙ take_at l (drop (length l) s) n e

  pub stored_whole : (l s : List A) → length l ≡ length s → stored 0 l s ≡ l
  stored_whole l s e = stored_front l s (omega arith) ∙ ap (λ (n : ℕ). l ++ drop n s) e ∙ ap (λ (r : List A). l ++ r) (drop-length s) ∙ append-nil l

  -- ---- into a part of a slice: at its front, from place a on
  pub stored_part : (n : ℕ) (l s : List A) → length l ≡ n → n ≤ length s → l ++ drop n s ≡ stored 0 l s
  stored_part n l s e h = ap (λ (m : ℕ). l ++ drop m s) (sym e) ∙ sym (stored_front l s (omega arith))

  pub stored_middle : (a k : ℕ) (l s : List A) → length l ≡ k → a + k ≤ length s → put_mid a k s l ≡ stored a l s
  unfolding stored
  stored_middle a k l s e h =
      ap (λ (r : List A). take a s ++ (l ++ r)) (drop-drop k a s ∙ ap (λ (m : ℕ). drop m s) (omega arith)) ∙ sym (append_assoc (take a s) l (drop (a + length l) s)) ∙ sym (sets-eq l s a (omega arith))

  -- what was put at the front of a part, of the whole
  pub stored_inside : (a k : ℕ) (l s r : List A) → length l ≤ k → a + k ≤ length s → r ≡ stored 0 l (mid_of a k s) → put_mid a k s r ≡ stored a l s
  unfolding stored
  stored_inside a k l s r f h e =
      let d = drop a s in
      let g : k ≤ length d = omega (arith, length-drop a s) in
      let i : length (take k d) ≡ k = length-take-le k d g in
      let w : drop (length l) (take k d) ++ drop k d ≡ drop (a + length l) s =
      sym (drop-append-le (length l) (take k d) (drop k d) (omega arith)) ∙ ap (drop (length l)) (take-append-drop k d) ∙ drop-drop (length l) a s ∙ ap (λ (m : ℕ). drop m s) (omega arith) in
      ap (λ (q : List A). take a s ++ (q ++ drop k d)) (e ∙ stored_front l (take k d) (omega arith))
      ∙ ap (λ (q : List A). take a s ++ q) (append_assoc l (drop (length l) (take k d)) (drop k d) ∙ ap (λ (q : List A). l ++ q) w)
      ∙ sym (append_assoc (take a s) l (drop (a + length l) s))
      ∙ sym (sets-eq l s a (omega arith))

  -- ---- what is known of one list, of another that equals it; and of a list that is empty
  pub same_count : (l m : List A) (n : ℕ) → n ≡ length l → l ≡ m → n ≡ length m
  same_count l m n f e = f ∙ ap length e

  pub same_stored : (l m s r : List A) → r ≡ stored 0 l s → l ≡ m → r ≡ stored 0 m s
  same_stored l m s r f e = f ∙ ap (λ (q : List A). stored 0 q s) e

  pub none_count : (l : List A) → [] ≡ l → 0 ≡ length l
  none_count l e = ap length e

  pub none_stored : (l s : List A) → [] ≡ l → s ≡ stored 0 l s
  unfolding stored
  none_stored l s e = ap (λ (q : List A). stored 0 q s) e

-- ---- one turn more
range_last : (k n : ℕ) → range k (suc n) ≡ range k n ++ ((k + n) ∷ [])
range_last k zero = ap (λ (i : ℕ). i ∷ []) (sym (add-zero k))
range_last k (suc n) = let e : suc k + n ≡ k + suc n = omega arith in ap (λ (l : List ℕ). k ∷ l) (range_last (suc k) n ∙ ap (λ (i : ℕ). range (suc k) n ++ (i ∷ [])) e)

upto_last : (n : ℕ) → upto (n + 1) ≡ upto n ++ (n ∷ [])
upto_last n = let e : n + 1 ≡ suc n = omega arith in ap upto e ∙ range_last 0 n ∙ ap (λ (i : ℕ). upto n ++ (i ∷ [])) (zero-add n)

module _ {A : Type 0} (f : ℕ → A) (s : List A) where
  -- a table, one entry a turn
  pub table_turn : (i : ℕ) (q : List A) (x : A) → x ≡ f i → q ≡ stored 0 (map f (upto i)) s → set q i x ≡ stored 0 (map f (upto (i + 1))) s
  table_turn i q x e inv =
      let d : 0 + length (map f (upto i)) ≡ i = zero-add (length (map f (upto i))) ∙ length-map (upto i) f ∙ range_length 0 i in
      (λ j. set (inv j) i (e j)) ∙ stored_last 0 (map f (upto i)) (f i) s i d ∙ ap (λ (l : List A). stored 0 l s) (sym (ap (map f) (upto_last i) ∙ map-append f (upto i) (i ∷ [])))

module _ {A : Type 0} (g : ℕ → List A) where
  flat_append : (l m : List ℕ) → flat_map g (l ++ m) ≡ flat_map g l ++ flat_map g m
  flat_append [] m = refl
  flat_append (a ∷ l) m = ap (λ (r : List A). g a ++ r) (flat_append l m) ∙ sym (append_assoc (g a) (flat_map g l) (flat_map g m))

  pub flat_last : (n : ℕ) → flat_map g (upto (n + 1)) ≡ flat_map g (upto n) ++ g n
  flat_last n = ap (flat_map g) (upto_last n) ∙ flat_append (upto n) (n ∷ []) ∙ ap (λ (r : List A). flat_map g (upto n) ++ r) (append-nil (g n))

  -- lists of any length, one a turn
  pub rows_turn : (s : List A) (i k : ℕ) (q : List A) → k ≡ length (flat_map g (upto i)) → q ≡ stored 0 (flat_map g (upto i)) s → stored k (g i) q ≡ stored 0 (flat_map g (upto (i + 1))) s
  rows_turn s i k q e inv = (λ j. stored ((e ∙ sym (zero-add (length (flat_map g (upto i))))) j) (g i) (inv j)) ∙ stored_append 0 (flat_map g (upto i)) (g i) s ∙ ap (λ (l : List A). stored 0 l s) (sym (flat_last i))

  pub rows_place : (i k : ℕ) → k ≡ length (flat_map g (upto i)) → k + length (g i) ≡ length (flat_map g (upto (i + 1)))
  rows_place i k e = ap (λ (j : ℕ). j + length (g i)) e ∙ sym (ap length (flat_last i) ∙ length-append (flat_map g (upto i)) (g i))

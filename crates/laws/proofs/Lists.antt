-- Lists: `All` of a list's parts, of ranges and of pairs; the pairs of a list; a list in another order. Assumes nothing.
use mathlib.Core.Path.{◌≡◌, refl, sym, ap, ◌∙◌, subst}
use mathlib.Core.Logic.{inl, inr}
use mathlib.Core.List.{List, [], ◌∷◌, ◌++◌, map, map-map, map-append, Permᴰ}
use Prim.Native.Nat.{ℕ, zero, suc, ◌+◌, ◌*◌, ◌≤◌, ◌<◌, max}
use native.Mathlib.Nat.{le_refl, eq-or-lt_of_le, zero-lt-suc, zero-mul, suc-mul, add-zero, zero-add, suc-add}
use native.Mathlib.Omega.{arith}
use lib.ListN.{length, length-append, length-map}
use lib.Ieee.{Float}
use Rattle.definitions.specs.Lists.{at, range, upto, flat_map, All, later_pairs, all_pairs, largest, later_count}

-- ---- `All`
module _ {A : Type 0} where
  pub all_imp : (P Q : A → Type 0) → ((x : A) → P x → Q x) → (l : List A) → All P l → All Q l
  all_imp P Q f [] h = tt
  all_imp P Q f (x ∷ l) h = (f x h.0, all_imp P Q f l h.1)

  pub all_and : (P Q : A → Type 0) (l : List A) → All P l → All Q l → All (λ x. P x × Q x) l
  all_and P Q [] h k = tt
  all_and P Q (x ∷ l) h k = ((h.0, k.0), all_and P Q l h.1 k.1)

  pub all_if : (P : A → Type 0) (l : List A) → (0 < length l → All P l) → All P l
  all_if P [] h = tt
  all_if P (x ∷ l) h = h (zero-lt-suc (length l))

  pub append_all : (P : A → Type 0) (l m : List A) → All P l → All P m → All P (l ++ m)
  append_all P [] m h k = k
  append_all P (x ∷ l) m h k = (h.0, append_all P l m h.1 k)

  pub append_get : (P : A → Type 0) (l m : List A) → All P (l ++ m) → All P l × All P m
  append_get P [] m h = (tt, h)
  append_get P (x ∷ l) m h = let k = append_get P l m h.1 in ((h.0, k.0), k.1)

  pub largest_all : (f : A → ℕ) (n : ℕ) (l : List A) → largest f l ≤ n → All (λ x. f x ≤ n) l
  largest_all f n [] h = tt
  largest_all f n (x ∷ l) h = (omega arith, largest_all f n l (omega arith))

pub at_all : (P : Float → Type 0) (l : List Float) → All P l → (i : ℕ) → i < length l → P (at l i)
at_all P [] h i k = absurd (omega arith)
at_all P (x ∷ l) h zero k = h.0
at_all P (x ∷ l) h (suc i) k = at_all P l h.1 i (omega arith)

module _ {A B : Type 0} where
  pub map_all : (P : B → Type 0) (f : A → B) (l : List A) → All (λ a. P (f a)) l → All P (map f l)
  map_all P f [] h = tt
  map_all P f (a ∷ l) h = (h.0, map_all P f l h.1)

  pub map_get : (P : B → Type 0) (f : A → B) (l : List A) → All P (map f l) → All (λ a. P (f a)) l
  map_get P f [] h = tt
  map_get P f (a ∷ l) h = (h.0, map_get P f l h.1)

  pub flat_all : (P : B → Type 0) (f : A → List B) (l : List A) → All (λ a. All P (f a)) l → All P (flat_map f l)
  flat_all P f [] h = tt
  flat_all P f (a ∷ l) h = append_all P (f a) (flat_map f l) h.0 (flat_all P f l h.1)

  pub flat_get : (P : B → Type 0) (f : A → List B) (l : List A) → All P (flat_map f l) → All (λ a. All P (f a)) l
  flat_get P f [] h = tt
  flat_get P f (a ∷ l) h = let k = append_get P (f a) (flat_map f l) h in (k.0, flat_get P f l k.1)

-- ---- ranges
pub range_all : (P : ℕ → Type 0) (k n : ℕ) → ((i : ℕ) → k ≤ i → i < k + n → P i) → All P (range k n)
range_all P k zero h = tt
range_all P k (suc n) h = (h k (le_refl k) (omega arith), range_all P (suc k) n (λ i p q. h i (omega arith) (omega arith)))

pub upto_all : (P : ℕ → Type 0) (n : ℕ) → ((i : ℕ) → i < n → P i) → All P (upto n)
upto_all P n h = range_all P 0 n (λ i p q. h i (omega arith))

range_get : (P : ℕ → Type 0) (k n : ℕ) → All P (range k n) → (i : ℕ) → k ≤ i → i < k + n → P i
range_get P k zero h i p q = absurd (omega arith)
range_get P k (suc n) h i p q = elim (eq-or-lt_of_le p) [ inl e ↦ subst P e h.0 | inr l ↦ range_get P (suc k) n h.1 i l (omega arith) ]

pub upto_get : (P : ℕ → Type 0) (n : ℕ) → All P (upto n) → (i : ℕ) → i < n → P i
upto_get P n h i l = range_get P 0 n h i (omega arith) (omega arith)

pub range_suc : (k n : ℕ) → range (suc k) n ≡ map suc (range k n)
range_suc k zero = refl
range_suc k (suc n) = ap (λ (l : List ℕ). suc k ∷ l) (range_suc (suc k) n)

pub range_add : (k n m : ℕ) → range k (n + m) ≡ range k n ++ range (k + n) m
range_add k zero m = λ i. range (sym (add-zero k) i) (zero-add m i)
range_add k (suc n) m = ap (range k) (suc-add n m) ∙ ap (λ (l : List ℕ). k ∷ l) (range_add (suc k) n m ∙ ap (λ (i : ℕ). range (suc k) n ++ range i m) (omega arith))

pub range_length : (k n : ℕ) → length (range k n) ≡ n
range_length k zero = refl
range_length k (suc n) = ap suc (range_length (suc k) n)

pub rows_length : {A : Type 0} (f : ℕ → List A) (c : ℕ) → ((i : ℕ) → length (f i) ≡ c) → (k n : ℕ) → length (flat_map f (range k n)) ≡ n * c
rows_length f c h k zero = sym (zero-mul c)
rows_length f c h k (suc n) = length-append (f k) (flat_map f (range (suc k) n)) ∙ (λ i. h k i + rows_length f c h (suc k) n i) ∙ omega (arith, suc-mul n c)

-- ---- the pairs of a list: each with a later one, and each of one list with each of another
abbrev pub with : {A : Type 0} → A → A → A × A
with a b = (a, b)

abbrev pub both : {A B : Type 0} → (A → B) → (A → B) → A × A → B × B
both g h q = (g q.0, h q.1)

abbrev pub on : {A C : Type 0} → (A → A → C) → A × A → C
on f q = f q.0 q.1

module _ {A : Type 0} where
  pub later_length : (l : List A) → length (later_pairs l) ≡ later_count l
  later_length [] = refl
  later_length (a ∷ l) = length-append (map (with a) l) (later_pairs l) ∙ (λ i. length-map l (with a) i + later_length l i)

  pub cross_length : (l m : List A) → length (all_pairs l m) ≡ length l * length m
  cross_length [] m = sym (zero-mul (length m))
  cross_length (a ∷ l) m = length-append (map (with a) m) (all_pairs l m) ∙ (λ i. length-map m (with a) i + cross_length l m i) ∙ omega (arith, suc-mul (length l) (length m))

  module _ (P Q : A → Type 0) where
    abbrev pub Both : A × A → Type 0
    Both q = P q.0 × Q q.1

    row_all : (a : A) (l : List A) → P a → All Q l → All Both (map (with a) l)
    row_all a l h k = map_all Both (with a) l (all_imp Q (λ b. P a × Q b) (λ b q. (h, q)) l k)

    pub cross_all : (l m : List A) → All P l → All Q m → All Both (all_pairs l m)
    cross_all l m h k = flat_all Both (λ a. map (with a) m) l (all_imp P (λ a. All Both (map (with a) m)) (λ a p. row_all a m p k) l h)

  pub later_all : (P : A → Type 0) (l : List A) → All P l → All (Both P P) (later_pairs l)
  later_all P [] h = tt
  later_all P (a ∷ l) h = append_all (Both P P) (map (with a) l) (later_pairs l) (row_all P P a l h.0 h.1) (later_all P l h.1)

module _ {A B : Type 0} where
  row_map : (g h : A → B) (a : A) (l : List A) → map (with (g a)) (map h l) ≡ map (both g h) (map (with a) l)
  row_map g h a l = map-map (with (g a)) h l ∙ sym (map-map (both g h) (with a) l)

  pub later_map : (g : A → B) (l : List A) → later_pairs (map g l) ≡ map (both g g) (later_pairs l)
  later_map g [] = refl
  later_map g (a ∷ l) = (λ i. row_map g g a l i ++ later_map g l i) ∙ sym (map-append (both g g) (map (with a) l) (later_pairs l))

  pub cross_map : (g h : A → B) (l m : List A) → all_pairs (map g l) (map h m) ≡ map (both g h) (all_pairs l m)
  cross_map g h [] m = refl
  cross_map g h (a ∷ l) m = (λ i. row_map g h a m i ++ cross_map g h l m i) ∙ sym (map-append (both g h) (map (with a) m) (all_pairs l m))

-- ---- a list in another order
module _ {A : Type 0} where
  pub all_perm : (P : A → Type 0) {l m : List A} → Permᴰ l m → All P l → All P m
  all_perm P Permᴰ.nil h = tt
  all_perm P (Permᴰ.cons e d) h = (subst P e h.0, all_perm P d h.1)
  all_perm P (Permᴰ.swap e f) h = (subst P f h.1.0, (subst P e h.0, h.1.1))
  all_perm P (Permᴰ.trans d e) h = all_perm P e (all_perm P d h)

  pub length_perm : {l m : List A} → Permᴰ l m → length l ≡ length m
  length_perm Permᴰ.nil = refl
  length_perm (Permᴰ.cons e d) = ap suc (length_perm d)
  length_perm (Permᴰ.swap e f) = refl
  length_perm (Permᴰ.trans d e) = length_perm d ∙ length_perm e

  pub later_count_perm : {l m : List A} → Permᴰ l m → later_count l ≡ later_count m
  later_count_perm Permᴰ.nil = refl
  later_count_perm (Permᴰ.cons e d) = λ i. length_perm d i + later_count_perm d i
  later_count_perm (Permᴰ.swap e f) = refl
  later_count_perm (Permᴰ.trans d e) = later_count_perm d ∙ later_count_perm e

  pub largest_perm : (f : A → ℕ) {l m : List A} → Permᴰ l m → largest f l ≡ largest f m
  largest_perm f Permᴰ.nil = refl
  largest_perm f (Permᴰ.cons e d) = λ i. max (f (e i)) (largest_perm f d i)
  largest_perm f (Permᴰ.swap {l = l} e h) = (λ i. max (f (e i)) (max (f (h i)) (largest f l))) ∙ omega arith
  largest_perm f (Permᴰ.trans d e) = largest_perm f d ∙ largest_perm f e

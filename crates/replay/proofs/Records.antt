-- A list laid over the front of another, one place after the other; and the bits of numbers, compared one after the other.
use Rattle.std.proofs.Common.{◌≡◌, ℕ, ◌+◌, ◌<◌, List, [], ◌∷◌, map, length, take, slice_index_or, slice_set, arith}
use Rattle.std.specs.Float.{Float, binary64}
use Rattle.std.specs.Float.Ieee.{to_bits}
use Rattle.std.proofs.Math.Seq.{take-suc}
use mathlib.Core.List.{◌++◌, map-append}
use mathlib.Core.Path.{refl, ap, sym, ◌∙◌}
use Prim.Native.Nat.{zero, suc}
use native.Mathlib.Numerals.{add-one}
use Rattle.replay.specs.Records.{overlaid, bits_of}

module _ {A B : Type 0} (f : A → B) (d : A) where
  overlaid_more : (l : List A) (s : List B) (i : ℕ) → i < length l → i < length s
      → slice_set (overlaid (map f (take i l)) s) i (f (slice_index_or l i d)) ≡ overlaid (map f (take (suc i) l)) s
  overlaid_more [] s i h k = absurd (omega arith)
  overlaid_more (a ∷ l) [] i h k = absurd (omega arith)
  overlaid_more (a ∷ l) (b ∷ s) zero h k = refl
  overlaid_more (a ∷ l) (b ∷ s) (suc i) h k = ap (λ r. f a ∷ r) (overlaid_more l s i (omega arith) (omega arith))

  pub overlaid_turn : (l : List A) (s q : List B) (i : ℕ) (x : B) → x ≡ f (slice_index_or l i d) → i < length l → i < length s
      → q ≡ overlaid (map f (take i l)) s → slice_set q i x ≡ overlaid (map f (take (i + 1) l)) s
  overlaid_turn l s q i x e h k inv = rw (inv, e) (overlaid_more l s i h k ∙ ap (λ n. overlaid (map f (take n l)) s) (sym (add-one i)))

  -- as far as either list goes
  pub overlaid_done : (l : List A) (s : List B) (i : ℕ) → (i < length l → i < length s → ⊥) → overlaid (map f (take i l)) s ≡ overlaid (map f l) s
  overlaid_done [] s zero h = refl
  overlaid_done [] s (suc i) h = refl
  overlaid_done (a ∷ l) [] zero h = refl
  overlaid_done (a ∷ l) [] (suc i) h = refl
  overlaid_done (a ∷ l) (b ∷ s) zero h = absurd (h (omega arith) (omega arith))
  overlaid_done (a ∷ l) (b ∷ s) (suc i) h = ap (λ r. f a ∷ r) (overlaid_done l s i (λ p q. h (omega arith) (omega arith)))

module _ (d : Float) where
  pub bits_turn : (xs : List Float) (ws : List ℕ) (i x : ℕ) → x ≡ to_bits binary64 (slice_index_or xs i d) → x ≡ slice_index_or ws i 0 → i < length xs → i < length ws
      → take i ws ≡ bits_of (take i xs) → take (i + 1) ws ≡ bits_of (take (i + 1) xs)
  bits_turn xs ws i x e g h k inv =
      rw (add-one i)
      (take-suc ws i 0 k ∙ (λ j. inv j ++ ((sym g ∙ e) j ∷ [])) ∙ sym (map-append (to_bits binary64) (take i xs) (slice_index_or xs i d ∷ []))
      ∙ ap bits_of (sym (take-suc xs i d h)))

  pub bits_at : (xs : List Float) (ws : List ℕ) (i : ℕ) → i < length xs → ws ≡ bits_of xs → slice_index_or ws i 0 ≡ to_bits binary64 (slice_index_or xs i d)
  bits_at xs ws i h e = rw e (bits_index xs i h)
    where
      bits_index : (l : List Float) (k : ℕ) → k < length l → slice_index_or (bits_of l) k 0 ≡ to_bits binary64 (slice_index_or l k d)
      bits_index [] k p = absurd (omega arith)
      bits_index (y ∷ l) zero p = refl
      bits_index (y ∷ l) (suc k) p = bits_index l k (omega arith)

-- Scratch: the part of the zeros that is lent, and its addition to the caller's pack.
use mathlib.Core.Path.{◌≡◌, refl, sym, ap, ◌∙◌}
use mathlib.Core.Bool.{false}
use mathlib.Core.List.{List, ◌∷◌, ◌++◌, map}
use Prim.Native.Nat.{ℕ, zero, suc, ◌+◌, ◌<◌, ◌≤◌}
use native.Mathlib.Nat.{not-suc-le-zero, le_of_suc-le-suc}
use native.Mathlib.Omega.{arith}
use lib.ListN.{length, take, drop, replicate, length-replicate}
use lib.Seq.{length-take-le}
use lib.Ieee.{Float, binary64, add, of_bits}
use borrow.Author.Tests.{le-leb, lt-leb}
use Rattle.definitions.specs.Lists.{at, range}
use Rattle.definitions.specs.Floats.{zero_f}
use Rattle.definitions.specs.Run.{Run, used, scratch, merged}
use Rattle.definitions.specs.State.{merge_packs}
use Rattle.state.proofs.Packs.{merge_done}
use Rattle.parallel_serial.specs.Drive.{zero_pack, added_scratch}

take_replicate : (n k : ℕ) (x : Float) → k ≤ n → take k (replicate n x) ≡ replicate k x
take_replicate n zero x h = refl
take_replicate zero (suc k) x h = absurd (not-suc-le-zero h)
take_replicate (suc n) (suc k) x h = ap {B = List Float} (λ r. x ∷ r) (take_replicate n k x (le_of_suc-le-suc h))

-- the literal of the code, whose zeros are of the bits 0
pub zeros_are : replicate 4096 (of_bits binary64 0) ≡ zero_pack
unfolding zero_pack of_bits
zeros_are = refl

-- ---- the part that is lent
module _ (z : List Float) (n : ℕ) (h : n ≤ 4096) (e : z ≡ zero_pack) where
  all : length z ≡ 4096
  unfolding zero_pack
  all = ap length e ∙ length-replicate 4096 (zero_f false)

  pub lent_length : n ≡ length (take n z)
  lent_length = sym (length-take-le n z (omega (arith, all)))

  pub lent_zeros : take n z ≡ replicate n (zero_f false)
  unfolding zero_pack
  lent_zeros = ap (take n) e ∙ take_replicate 4096 n (zero_f false) h

pub zero_at : (n p : ℕ) → p < n → at (replicate n (zero_f false)) p ≡ zero_f false
zero_at zero p h = absurd (not-suc-le-zero h)
zero_at (suc n) zero h = refl
zero_at (suc n) (suc p) h = zero_at n p (le_of_suc-le-suc h)

-- ---- its addition to the caller's pack
module _ (s z : List Float) where
  pub added_done : (i : ℕ) (q : List Float) → length z ≤ length s → i ≤ length z → length z ≤ i → q ≡ merge_packs i s z → q ≡ added_scratch s z
  unfolding added_scratch
  added_done i q h a b e = merge_done s i (length z) q z a b e ∙ (rw (le-leb (length z) (length s) h))

  pub added_none : length s < length z → s ≡ added_scratch s z
  unfolding added_scratch
  added_none h = rw (lt-leb (length z) (length s) h)

map_same : (f g : ℕ → Float) (k n : ℕ) → ((p : ℕ) → p < k + n → f p ≡ g p) → map f (range k n) ≡ map g (range k n)
map_same f g k zero h = refl
map_same f g k (suc n) h = λ i. h k (omega arith) i ∷ map_same f g (suc k) n (λ p l. h p (omega arith)) i

-- where scratch holds, place by place, what the run's pairs add, the pack is merged
pub added_merged : (r : Run) (s z : List Float) → length z ≡ used r → used r ≤ length s → ((p : ℕ) → p < used r → at z p ≡ scratch r p) → added_scratch s z ≡ merged r s
unfolding added_scratch
added_merged r s z e h same =
    (rw (e, le-leb (used r) (length s) h))
    ∙ ap (λ (l : List Float). l ++ drop (used r) s) (map_same (λ p. add binary64 (at s p) (at z p)) (λ p. add binary64 (at s p) (scratch r p)) 0 (used r) (λ p l. ap (add binary64 (at s p)) (same p (omega arith))))

-- The place of a state's number, and a state's result.
use mathlib.Core.Path.{◌≡◌, refl, ◌∙◌, ap}
use mathlib.Core.List.{List}
use Prim.Native.Nat.{ℕ, zero, suc, ◌+◌, ◌*◌, ◌<◌, ◌≤◌}
use native.Mathlib.Nat.{mul-le-mul_right}
use native.Mathlib.Omega.{arith}
use lib.ListN.{length, set}
use lib.Ieee.{Float, binary64, div}
use mir.Syntax.{w64}
use mir.Val.{Fits}
use Rattle.definitions.specs.Lists.{at, overwritten}
use Rattle.definitions.specs.Reducer as Reducer
use Rattle.definitions.specs.Reducer.{state_size}
use Rattle.definitions.specs.Run.{place}
use Rattle.definitions.specs.State.{result_number, result_value}
use Rattle.state_refusals.specs.declared.StateKind.{StateKind}
use Rattle.state_refusals.specs.declared.StateKind.TheVariants.{Mean, Histogram}
use Rattle.state.specs.Readings.{state_kind_of, InPack}
use Rattle.state.proofs.Packs.{turn, over}

-- ---- the place of number e of state s
module _ (states size s e n : ℕ) (i : InPack states size s e n) where
  below : e * states + s < states * size
  below = omega (arith, mul-le-mul_right states i.number, i.state)

  pub place_within : e * states + s < n
  place_within = omega (arith, below, i.within)

  pub place_part : s ≤ n
  place_part = omega (arith, place_within)

  pub place_bytes : Fits w64 (s * 8)
  place_bytes = record { fits = omega (arith, below, i.limit) }

-- ---- number e of a result
module _ (kind : StateKind) (states s e : ℕ) (p : List Float) (x : Float) (h : x ≡ at p (place states e s)) where
  pub mean_first : kind ≡ Mean → e ≡ 0 → (y : Float) → y ≡ at p (place states 1 s) → div binary64 x y ≡ result_number (state_kind_of kind) states s p e
  mean_first m z y k = rw (m, h, k, z)

  pub mean_later : kind ≡ Mean → (e ≡ 0 → ⊥) → x ≡ result_number (state_kind_of kind) states s p e
  mean_later m z = rw m (go e h z)
    where
      go : (e : ℕ) → x ≡ at p (place states e s) → (e ≡ 0 → ⊥) → x ≡ result_number (state_kind_of Mean) states s p e
      go zero h z = absurd (z refl)
      go (suc e) h z = h

  pub histogram_copied : (n : ℕ) → kind ≡ Histogram n → x ≡ result_number (state_kind_of kind) states s p e
  histogram_copied n m = rw m h

pub ruleset numbers = (mean_first, mean_later, histogram_copied)

-- a mean has number 1
pub mean_second : (kind : StateKind) (states size s e n : ℕ) → size ≡ state_size (state_kind_of kind) → kind ≡ Mean → InPack states size s e n → InPack states size s 1 n
mean_second kind states size s e n own m i =
    let two : size ≡ 2 = own ∙ ap (λ (k : StateKind). state_size (state_kind_of k)) m in
    record { state = i.state; number = omega arith; within = i.within; limit = i.limit }

-- ---- the loop over a result's numbers
module _ (K : Reducer.StateKind) (states s e size : ℕ) (p v q : List Float) (i : q ≡ overwritten e (result_number K states s p) v) where
  pub result_turn : e < size → size ≤ length v → (x : Float) → x ≡ result_number K states s p e → set q e x ≡ overwritten (e + 1) (result_number K states s p) v
  result_turn h l x k = turn (result_number K states s p) e size v q x h l i k

  pub result_done : e ≤ size → size ≤ e → size ≡ state_size K → q ≡ result_value K states s p v
  result_done h k own =
      let f : ℕ → List Float = λ n. overwritten n (result_number K states s p) v in
      over f e size q h k i ∙ ap f own

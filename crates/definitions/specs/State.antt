-- The state pack by itself: reset, merge, consolidation, result. Definitions only; which calls are accepted is Rules'.
use Rattle.std.specs.Prelude.{Some}
use Rattle.std.specs.Prelude.{List, false, ℕ, zero, suc, ◌+◌, ◌*◌, Float}
use Rattle.std.specs.Float.{binary64}
use Rattle.std.specs.Float.Ieee.{add, div}
use Rattle.definitions.specs.Lists.{at, range, overwritten, fold_at}
use Rattle.definitions.specs.Floats.{zero_f}
use Rattle.definitions.specs.Reducer.{StateKind, mean, histogram, state_size}
use Rattle.definitions.specs.Run.{place}

-- n is the pack's places, states times state size, in each of these
-- the reset zeroes the pack only
abbrev pub reset_pack : ℕ → List Float → List Float
reset_pack n s = overwritten n (λ p. zero_f false) s

-- the second pack is added to the first, the first's number first
abbrev pub merge_packs : ℕ → List Float → List Float → List Float
merge_packs n s t = overwritten n (λ p. add binary64 (at s p) (at t p)) s

-- packs of one shape end to end in one slice: packs 1, 2, .. are added in turn to pack 0, and stay. With none or one, nothing changes
abbrev pub consolidate_packs : ℕ → ℕ → List Float → List Float
consolidate_packs zero n s = s
consolidate_packs (suc others) n s = overwritten n (λ p. fold_at (λ i. Some (at s (i * n + p))) (at s p) (range 1 others)) s

-- number e of the result of state i in a pack of `states` states: total/weight and weight; a histogram is copied
abbrev pub mean_number : ℕ → ℕ → List Float → ℕ → Float
mean_number states i s zero = div binary64 (at s (place states 0 i)) (at s (place states 1 i))
mean_number states i s (suc e) = at s (place states (suc e) i)

abbrev pub result_number : StateKind → ℕ → ℕ → List Float → ℕ → Float
result_number mean states i s e = mean_number states i s e
result_number (histogram n) states i s e = at s (place states e i)

-- the value slice, as long as the state; its tail is not touched
abbrev pub result_value : StateKind → ℕ → ℕ → List Float → List Float → List Float
result_value k states i s value = overwritten (state_size k) (result_number k states i s) value

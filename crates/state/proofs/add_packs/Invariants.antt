use mathlib.Core.Path.{◌≡◌}
use Prim.Native.Nat.{ℕ, suc, ◌+◌}
use Rattle.std.specs.Iterator.Adapters.{take_count, take_source}
use Rattle.state.proofs.Packs.{made, rest_from}
use Rattle.state.proofs.add_packs.Given as goal

-- packs 0, .., j have been added
abbrev pub invariant-loop-other : goal.invariant-loop-other
invariant-loop-other l =
    (j : ℕ) × (take_count l.other-iterator + suc j ≡ l.n_packs) × ((take_source l.other-iterator).size ≡ l.n) × (l.first ≡ made l.n l.fn.packs j) × ((take_source l.other-iterator).rest.now ≡ rest_from l.n l.fn.packs j)

-- Quotients cut to whole numbers by guesses that are tested.
use mathlib.Core.Path.{◌≡◌, refl, subst}
use mathlib.Core.Bool.{Bool, true, false, cond}
use Prim.Native.Nat.{ℕ, ◌-◌, ◌^◌, ◌<◌}
use native.Mathlib.Omega.{arith}
use lib.IntN.{pos}
use lib.Ieee
use lib.Ieee.{Float, binary64, add, lt, le, of_int, of_bits, in_float}
use Rattle.definitions.specs.Floats.{as_usize}
use Rattle.laws.proofs.WholeFloats.{Whole, total_add}
use Rattle.floats.proofs.Floor.{floor_is}
use Rattle.bins.specs.declared.RegularBinEdges.{RegularBinEdges}
use Rattle.edge_batch.specs.Batch.{quotient, guess_of, is_sure, is_past, number_for, sure_cut, sure_number}
use Rattle.edge_table.proofs.Lookups.{and-true}

-- ---- a tested guess is the number
one : Whole (of_bits binary64 0x3ff0_0000_0000_0000) (pos 1)
unfolding of_bits Ieee.fits
one = record { sign = false; size = 1; fit = tt; val = (refl, refl); is = refl }

guess_small : (q : Float) → guess_of q < 4096
unfolding guess_of
guess_small q = omega arith

sure_whole : (q : Float) (h : ℕ) → h < 4096 → is_sure q h ≡ true → h ≡ as_usize q
unfolding is_sure
sure_whole q h l t =
    let k = and-true (le (of_int binary64 (pos h)) q) (lt q (add binary64 (of_int binary64 (pos h)) (of_bits binary64 0x3ff0_0000_0000_0000))) t in
    floor_is q h l k.0 (subst (λ (y : Float). lt q y ≡ true) (total_add (pos h) (omega arith) one (omega arith)) k.1)

cut_whole : (q : Float) → sure_cut q < 8192 → sure_cut q ≡ as_usize q
unfolding sure_cut
cut_whole q = go (is_sure q (guess_of q)) refl
  where
    go : (s : Bool) → is_sure q (guess_of q) ≡ s → cond s (guess_of q) (2 ^ 64 - 1) < 8192 → cond s (guess_of q) (2 ^ 64 - 1) ≡ as_usize q
    go true t k = sure_whole q (guess_of q) (guess_small q) t
    go false t k = absurd (omega (arith, k))

pub sure_within : (inside : Bool) (e : RegularBinEdges) (x : Float) → sure_number inside e x < 8192 → sure_number inside e x ≡ number_for inside e x
unfolding sure_number number_for
sure_within inside e x = go (is_past inside e x)
  where
    go : (p : Bool) → cond p 4096 (sure_cut (quotient e x)) < 8192 → cond p 4096 (sure_cut (quotient e x)) ≡ cond p 4096 (as_usize (quotient e x))
    go true k = refl
    go false k = cut_whole (quotient e x) k

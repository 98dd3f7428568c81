-- A state's number, seen through its view.
use mathlib.Core.Path.{◌≡◌, refl, sym, ◌∙◌, ap}
use Rattle.std.specs.Prelude.{Option, Some, IsSome}
use Rattle.std.proofs.lemmas.Option.{same_Some}
use mathlib.Core.List.{List}
use Prim.Native.Nat.{ℕ, ◌-◌, ◌*◌}
use native.Mathlib.Omega.{arith}
use lib.ListN.{length, take, drop, length-drop}
use lib.Seq.{take_all, get_or-drop}
use lib.Ieee.{Float, nan}
use borrow.Author.Tests.{lt-ltb}
use Rattle.definitions.specs.Lists.{at}
use Rattle.definitions.specs.Run.{place}
use Rattle.state_view.specs.View.{seen}
use Rattle.state.specs.Readings.{InPack}
use Rattle.state.proofs.Results.{place_within}

-- number e of state s, in the part of the pack that starts at s
module _ (p : List Float) (states size s e : ℕ) (i : InPack states size s e (length p)) where
  in_part : seen (take (length p - s) (drop s p)) size states e ≡ Some (at p (place states e s))
  unfolding seen
  in_part =
      let h = place_within states size s e (length p) i in
      rw (
        take_all (length p - s) (drop s p) (omega (arith, length-drop s p)),
        lt-ltb e size i.number,
        lt-ltb (e * states) (length (drop s p)) (omega (arith, length-drop s p)),
      )
      (ap Some (get_or-drop s p (e * states) nan ∙ ap (at p) (omega arith)))

  module _ (r : Option Float) (q : r ≡ seen (take (length p - s) (drop s p)) size states e) where
    pub part_here : (x : Float) → r ≡ Some x → x ≡ at p (place states e s)
    part_here x t = same_Some x (at p (place states e s)) (sym t ∙ q ∙ in_part)

    pub part_some : IsSome r
    part_some = rw (q, in_part) refl

-- A buffer's front grows by what is read after it.
use mathlib.Core.Path.{◌≡◌, sym, ap, ◌∙◌, subst}
use mathlib.Core.List.{List, ◌++◌}
use Prim.Native.Nat.{ℕ, ◌+◌, ◌-◌, ◌≤◌}
use lib.ListN.{length, take}
use lib.Seq.{length-take-le}
use borrow.Rule.Slice.PartMut.{put_mid, post_of}
use Rattle.std.specs.Prelude.{Option}
use Rattle.std.specs.Io.KnownBytes.{Consumes}
use Rattle.std.proofs.KnownBytes.{Consumes-trans}
use Rattle.std.proofs.Math.Seq.{take-append-add}
use Rattle.std.proofs.lemmas.List.{take-append-le}

pub read_more : (a b c : Option (List ℕ)) (buf part : List ℕ) (n m : ℕ) → n ≤ length buf → m ≤ length part
    → Consumes a b (take n buf) → Consumes b c (take m part) → Consumes a c (take (n + m) (put_mid n (length buf - n) buf part))
read_more a b c buf part n m h g p q =
    let front = take n buf in
    let rest = part ++ post_of n (length buf - n) buf in
    let e : take (n + m) (front ++ rest) ≡ front ++ take m part =
    ap (λ (k : ℕ). take (k + m) (front ++ rest)) (sym (length-take-le n buf h))
    ∙ take-append-add front rest m ∙ ap (λ (l : List ℕ). front ++ l) (take-append-le m part _ g) in
    subst (Consumes a c) (sym e) (Consumes-trans a b c _ _ p q)

-- The walk's steps: what is left from an offset on is that offset and what is left from the next. Assumes nothing.
use mathlib.Core.Path.{◌≡◌, refl, sym, ap, ◌∙◌}
use mathlib.Core.List.{List, [], ◌∷◌, ◌++◌, map}
use Rattle.definitions.specs.Lists.{flat_map}
use Prim.Native.Nat.{ℕ, zero, suc}
use native.Mathlib.Omega.{arith}
use Rattle.std.proofs.lemmas.Int.{ints}
use lib.IntN.{ℤ, pos, negsuc, ◌+ℤ◌, ◌-ℤ◌}
use lib.Signed.{◌<ℤ◌, ◌≤ℤ◌}
use Rattle.definitions.specs.Blocks as blocks
use Rattle.definitions.specs.Blocks.{start_b}
use Rattle.idx_3d_offset.specs.declared.Offset.{Offset}
use Rattle.idx_3d_offset.specs.Steps.{at, offset_of, counted, between, row, rows, planes, rest, Inside}

-- ---- one axis
positive : (z : ℤ) → pos 0 <ℤ z → (n : ℕ) × (z ≡ pos (suc n))
positive (pos zero) h = absurd (omega (arith, ints))
positive (pos (suc n)) h = (n, refl)
positive (negsuc n) h = absurd (omega (arith, ints))

none_up : (z : ℤ) → z ≤ℤ pos 0 → start_b z ≡ 0
none_up (pos n) h = omega (arith, ints)
none_up (negsuc n) h = refl

pub between_first : (d e : ℤ) → d <ℤ e → between d e ≡ d ∷ between (d +ℤ pos 1) e
unfolding between
between_first d e h =
    let p = positive (e -ℤ d) (omega (arith, ints)) in
    let q : e -ℤ (d +ℤ pos 1) ≡ pos p.0 = omega (arith, ints, p.1) in
    ap (λ (z : ℤ). counted d (start_b z)) p.1 ∙ sym (ap (λ (z : ℤ). d ∷ counted (d +ℤ pos 1) (start_b z)) q)

pub between_none : (d e : ℤ) → e ≤ℤ d → between d e ≡ []
unfolding between
between_none d e h = ap (counted d) (none_up (e -ℤ d) (omega (arith, ints)))

-- all planes from z on start at the lowest offset of z
module _ (lowest end : Offset) where
  pub planes_first : lowest.y <ℤ end.y → (o : Offset) → o.y ≡ lowest.y → o.x ≡ lowest.x → o.z <ℤ end.z → planes lowest end o.z ≡ rest lowest end o
  unfolding rest
  planes_first h o ey ex g =
      ap (λ (l : List ℤ). flat_map (λ dz. rows lowest end dz lowest.y) l) (between_first o.z end.z g)
      ∙ ap (λ (l : List ℤ). flat_map (λ dy. row lowest end o.z dy lowest.x) l ++ planes lowest end (o.z +ℤ pos 1)) (between_first lowest.y end.y h)
      ∙ sym (λ t. (row lowest end o.z (ey t) (ex t) ++ rows lowest end o.z (ey t +ℤ pos 1)) ++ planes lowest end (o.z +ℤ pos 1))

-- ---- a step; q is the next offset
module _ (lowest end o : Offset) (h : Inside lowest end o) where
  abbrev whole : List ℤ → List ℤ → List ℤ → List blocks.Idx3DOffset
  whole xs ys zs = (map (at o.z o.y) xs ++ flat_map (λ dy. row lowest end o.z dy lowest.x) ys) ++ flat_map (λ dz. rows lowest end dz lowest.y) zs

  pub first : rest lowest end o ≡ offset_of o ∷ whole (between (o.x +ℤ pos 1) end.x) (between (o.y +ℤ pos 1) end.y) (between (o.z +ℤ pos 1) end.z)
  unfolding rest
  first = ap (λ (l : List ℤ). whole l (between (o.y +ℤ pos 1) end.y) (between (o.z +ℤ pos 1) end.z)) (between_first o.x end.x h.x_axis.to)

  pub next_x : (q : Offset) → q.z ≡ o.z → q.y ≡ o.y → q.x ≡ o.x +ℤ pos 1 → rest lowest end o ≡ offset_of o ∷ rest lowest end q
  unfolding rest
  next_x q ez ey ex =
      first
      ∙ sym (λ t. offset_of o ∷ ((row lowest end (ez t) (ey t) (ex t) ++ rows lowest end (ez t) (ey t +ℤ pos 1)) ++ planes lowest end (ez t +ℤ pos 1)))

  module _ (lx : end.x ≤ℤ (o.x +ℤ pos 1)) where
    pub next_y : (q : Offset) → q.z ≡ o.z → q.y ≡ o.y +ℤ pos 1 → q.x ≡ lowest.x → q.y <ℤ end.y → rest lowest end o ≡ offset_of o ∷ rest lowest end q
    unfolding rest
    next_y q ez ey ex g =
        let y = (λ t. between (sym ey t) end.y) ∙ between_first q.y end.y g in
        first
        ∙ (λ t. offset_of o ∷ whole (between_none (o.x +ℤ pos 1) end.x lx t) (y t) (between (o.z +ℤ pos 1) end.z))
        ∙ sym (λ t. offset_of o ∷ ((row lowest end (ez t) q.y (ex t) ++ rows lowest end (ez t) (q.y +ℤ pos 1)) ++ planes lowest end (ez t +ℤ pos 1)))

    module _ (ly : end.y ≤ℤ (o.y +ℤ pos 1)) where
      pub next_z : (q : Offset) → q.z ≡ o.z +ℤ pos 1 → q.y ≡ lowest.y → q.x ≡ lowest.x → q.z <ℤ end.z → rest lowest end o ≡ offset_of o ∷ rest lowest end q
      next_z q ez ey ex g =
          first
          ∙ (λ t. offset_of o ∷ whole (between_none (o.x +ℤ pos 1) end.x lx t) (between_none (o.y +ℤ pos 1) end.y ly t) (between (sym ez t) end.z))
          ∙ ap (λ (l : List blocks.Idx3DOffset). offset_of o ∷ l) (planes_first lowest end (omega (arith, ints)) q ey ex g)

      pub next_none : end.z ≤ℤ (o.z +ℤ pos 1) → rest lowest end o ≡ offset_of o ∷ []
      next_none lz =
          first
          ∙ (λ t.
          offset_of o ∷ whole (between_none (o.x +ℤ pos 1) end.x lx t) (between_none (o.y +ℤ pos 1) end.y ly t) (between_none (o.z +ℤ pos 1) end.z lz t))

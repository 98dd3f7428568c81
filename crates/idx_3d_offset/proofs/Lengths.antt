-- How many offsets are left, as the walk's own numbers count them: what stands in a local is read back as the number. Assumes nothing.
use mathlib.Core.Path.{◌≡◌, refl, sym, ap, ◌∙◌}
use mathlib.Core.List.{List, [], ◌∷◌, ◌++◌}
use Prim.Native.Nat.{ℕ, zero, suc, ◌+◌, ◌*◌, ◌≤◌}
use native.Mathlib.Nat.{mul-le-mul}
use native.Mathlib.Omega.{arith}
use Rattle.std.proofs.Common.{length-append}
use Rattle.std.proofs.lemmas.List.{length-map}
use Rattle.std.proofs.lemmas.Int.{ints}
use lib.Dec.{T}
use lib.ListN.{length}
use lib.IntN.{ℤ, pos, negsuc, nat_abs, ◌+ℤ◌, ◌-ℤ◌, ◌*ℤ◌}
use lib.Signed.{non_neg, ◌≤ℤ◌}
use mir.Syntax as syntax
use mir.Val.{Fits, SFits, to_z, of_z}
use mir.ValLaws.{to_z-of_z}
use Rattle.definitions.specs.Lists.{flat_map}
use Rattle.definitions.specs.Blocks.{start_b}
use Rattle.idx_3d_offset.specs.declared.Offset.{Offset}
use Rattle.idx_3d_offset.specs.Steps.{at, counted, between, row, rows, planes, rest, Inside}

-- the width of the walk's own numbers
abbrev pub num : syntax.Width
num = syntax.w64

-- ---- lengths
counted_length : (n : ℕ) (d : ℤ) → length (counted d n) ≡ n
counted_length zero d = refl
counted_length (suc n) d = ap suc (counted_length n (d +ℤ pos 1))

between_length : (d e : ℤ) → length (between d e) ≡ start_b (e -ℤ d)
unfolding between
between_length d e = counted_length (start_b (e -ℤ d)) d

flat_length : {A : Type 0} (g : ℤ → List A) (n : ℕ) → ((d : ℤ) → length (g d) ≡ n) → (l : List ℤ) → length (flat_map g l) ≡ length l * n
flat_length g n h [] = omega arith
flat_length g n h (d ∷ l) = omega (arith, length-append (g d) (flat_map g l), h d, flat_length g n h l)

start_is : (z : ℤ) → pos 0 ≤ℤ z → pos (start_b z) ≡ z
start_is (pos n) h = refl
start_is (negsuc n) h = absurd (omega (arith, ints))

gap : (d e : ℤ) → d ≤ℤ e → pos (length (between d e)) ≡ e -ℤ d
gap d e h = ap pos (between_length d e) ∙ start_is (e -ℤ d) (omega (arith, ints))

regroup : (x r l p y : ℕ) → x + r * l + p * (y * l) ≡ (p * y + r) * l + x
regroup x r l p y = omega arith

-- ---- a number that is read back
abbrev back : ℤ → ℤ
back z = to_z num (of_z num z)

module _ (n : ℕ) (l : n ≤ 4_194_304) where
  fits : SFits num (pos n)
  fits = record { sfits = omega arith }

  back_is : back (pos n) ≡ pos n
  back_is = to_z-of_z num (pos n) fits

product : (x y : ℤ) (m n : ℕ) → x ≡ pos m → y ≡ pos n → m * n ≤ 4_194_304 → SFits num (x *ℤ y) × (back (x *ℤ y) ≡ pos (m * n))
product x y m n e f l = rw (e, f) (fits (m * n) l, back_is (m * n) l)

sum : (x y : ℤ) (m n : ℕ) → x ≡ pos m → y ≡ pos n → m + n ≤ 4_194_304 → SFits num (x +ℤ y) × (back (x +ℤ y) ≡ pos (m + n))
sum x y m n e f l = rw (e, f) (fits (m + n) l, back_is (m + n) l)

-- ---- the sums and products of the code
module _ (lowest end o : Offset) (h : Inside lowest end o) where
  abbrev planes_left : ℕ
  planes_left = length (between (o.z +ℤ pos 1) end.z)

  abbrev plane : ℕ
  plane = length (between lowest.y end.y)

  abbrev rows_left : ℕ
  rows_left = length (between (o.y +ℤ pos 1) end.y)

  abbrev row_length : ℕ
  row_length = length (between lowest.x end.x)

  abbrev row_left : ℕ
  row_left = length (between o.x end.x)

  rest_length : length (rest lowest end o) ≡ (planes_left * plane + rows_left) * row_length + row_left
  unfolding rest
  rest_length =
      let r = λ (z y x : ℤ). length-map (between x end.x) (at z y) in
      let q = λ (z y : ℤ). flat_length (λ dy. row lowest end z dy lowest.x) row_length (λ dy. r z dy lowest.x) (between y end.y) in
      let p = flat_length (λ dz. rows lowest end dz lowest.y) (plane * row_length) (λ dz. q dz lowest.y) (between (o.z +ℤ pos 1) end.z) in
      length-append (row lowest end o.z o.y o.x ++ rows lowest end o.z (o.y +ℤ pos 1)) (planes lowest end (o.z +ℤ pos 1))
      ∙ (λ t. length-append (row lowest end o.z o.y o.x) (rows lowest end o.z (o.y +ℤ pos 1)) t + p t)
      ∙ (λ t. r o.z o.y o.x t + q o.z (o.y +ℤ pos 1) t + planes_left * (plane * row_length))
      ∙ regroup row_left rows_left row_length planes_left plane

  z_gap : pos planes_left ≡ end.z -ℤ (o.z +ℤ pos 1)
  z_gap = gap (o.z +ℤ pos 1) end.z (omega (arith, ints))

  y_gap : pos rows_left ≡ end.y -ℤ (o.y +ℤ pos 1)
  y_gap = gap (o.y +ℤ pos 1) end.y (omega (arith, ints))

  y_all : pos plane ≡ end.y -ℤ lowest.y
  y_all = gap lowest.y end.y (omega (arith, ints))

  x_gap : pos row_left ≡ end.x -ℤ o.x
  x_gap = gap o.x end.x (omega (arith, ints))

  x_all : pos row_length ≡ end.x -ℤ lowest.x
  x_all = gap lowest.x end.x (omega (arith, ints))

  few : (planes_left * plane ≤ 16_129) × (rows_left ≤ 127)
  few =
      let p : planes_left ≤ 127 = omega (arith, ints, z_gap) in
      let y : plane ≤ 127 = omega (arith, ints, y_all) in
      (omega (arith, mul-le-mul p y), omega (arith, ints, y_gap))

  few_rows : (planes_left * plane + rows_left) * row_length ≤ 2_097_152
  few_rows =
      let x : row_length ≤ 127 = omega (arith, ints, x_all) in
      let r : planes_left * plane + rows_left ≤ 16_256 = omega (arith, few) in
      omega (arith, mul-le-mul r x)

  -- each as the code forms it
  abbrev a : ℤ
  a = back (back (back end.z -ℤ pos 1) -ℤ back o.z)

  abbrev b : ℤ
  b = back (back end.y -ℤ back lowest.y)

  abbrev c : ℤ
  c = back (back (back end.y -ℤ pos 1) -ℤ back o.y)

  abbrev d : ℤ
  d = back (back end.x -ℤ back lowest.x)

  abbrev e : ℤ
  e = back (back end.x -ℤ back o.x)

  abbrev full_planes : ℤ
  full_planes = back (a *ℤ b)

  abbrev full_rows : ℤ
  full_rows = back (full_planes +ℤ c)

  abbrev before_row : ℤ
  before_row = back (full_rows *ℤ d)

  abbrev total : ℤ
  total = back (before_row +ℤ e)

  pub first_product : SFits num (a *ℤ b) × (full_planes ≡ pos (planes_left * plane))
  first_product = product a b planes_left plane (omega (arith, ints, z_gap)) (omega (arith, ints, y_all)) (omega (arith, few))

  pub first_sum : SFits num (full_planes +ℤ c) × (full_rows ≡ pos (planes_left * plane + rows_left))
  first_sum = sum full_planes c (planes_left * plane) rows_left first_product.1 (omega (arith, ints, y_gap)) (omega (arith, few))

  pub second_product : SFits num (full_rows *ℤ d) × (before_row ≡ pos ((planes_left * plane + rows_left) * row_length))
  second_product = product full_rows d (planes_left * plane + rows_left) row_length first_sum.1 (omega (arith, ints, x_all)) (omega (arith, few_rows))

  pub second_sum : SFits num (before_row +ℤ e) × (total ≡ pos ((planes_left * plane + rows_left) * row_length + row_left))
  second_sum =
      let x : row_left ≤ 127 = omega (arith, ints, x_gap) in
      sum before_row e ((planes_left * plane + rows_left) * row_length) row_left second_product.1 (omega (arith, ints, x_gap)) (omega (arith, few_rows))

  pub cast_fits : T (non_neg total) × Fits syntax.w64 (nat_abs total)
  cast_fits = rw second_sum.1 (tt, record { fits = omega (arith, ints, few_rows, x_gap) })

  pub cast_is : nat_abs total ≡ length (rest lowest end o)
  cast_is = ap nat_abs second_sum.1 ∙ sym rest_length

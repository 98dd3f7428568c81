-- The marked readings K1 to K12 as one claim, and what they speak of.
use Rattle.std.specs.Prelude.{◌≡◌, List, [], ◌∷◌, map, true, false, cond, ℕ, ◌*◌, length, replicate, ℤ, pos, negsuc, Float}
use Rattle.std.specs.Prelude.{None, Some}
use Rattle.std.specs.Float.{nan, binary64}
use Rattle.std.specs.Float.Ieee.{of_int, of_bits, to_bits}
use Rattle.definitions.specs.Lists.{upto, flat_map}
use Rattle.definitions.specs.Floats.{zero_f}
use Rattle.definitions.specs.Bins.{regular, irregular, find}
use Rattle.definitions.specs.Points.{UnstructuredPoints}
use Rattle.definitions.specs.Blocks.{CartesianBlock, CellWidth, Idx3DOffset, offsets_of, is_after, cell_pairs, distance_squared}
use Rattle.definitions.specs.Reducer.{elementwise_multiply, comp0_mean}
use Rattle.definitions.specs.Run.{Sets, one_points, one_block, Run}
use Rattle.definitions.specs.Segments.{segment_start, segment_stop}
use Rattle.definitions.specs.Rules.{refusal, run_rules, step}
use Rattle.definitions.specs.Records.{float_bytes, curve_text, ascii}

unfoldable pub int : ℤ → Float
int z = of_int binary64 z

abbrev pub bits : ℕ → Float
bits b = of_bits binary64 b

-- an unpadded block at the global offset (0, 0, 0)
unfoldable pub box : ℕ → ℕ → ℕ → CartesianBlock
box z y x =
    let l = replicate (z * (y * x)) (zero_f false) in
    record { nz = z; ny = y; nx = x; sz = y * x; sy = x; sx = 1; gz = pos 0; gy = pos 0; gx = pos 0; comp0 = l; comp1 = l; comp2 = l; weights = l }

abbrev pub offset : ℤ → ℤ → ℤ → Idx3DOffset
offset z y x = record { dz = z; dy = y; dx = x }

-- a mean over one bin from 0 to 1, with so many members
unfoldable pub one_bin : ℕ → Sets → Run
one_bin members sets = record { sets = sets; op = elementwise_multiply; kind = comp0_mean; edges = regular (int (pos 0)) (int (pos 1)) 1; states = 1; size = 2; members = members; teams = 1 }

unfoldable pub unit_widths : CellWidth
unit_widths = record { wz = int (pos 1); wy = int (pos 1); wx = int (pos 1) }

-- one point whose numbers nobody reads
unfoldable pub lone : UnstructuredPoints
lone = record { count = 1; stated = None; positions = nan ∷ nan ∷ nan ∷ []; values = nan ∷ nan ∷ nan ∷ []; weights = nan ∷ [] }

-- the offsets that auto takes, each with how many pairs it has
unfoldable pub auto_offsets : CartesianBlock → List (Idx3DOffset × ℕ)
auto_offsets a = flat_map (λ d. cond (is_after d) ((d, length (cell_pairs a a d)) ∷ []) []) (offsets_of a a)

unfoldable pub cross_offsets : CartesianBlock → CartesianBlock → List (Idx3DOffset × ℕ)
cross_offsets a b = map (λ d. (d, length (cell_pairs a b d))) (offsets_of a b)

abbrev pub segment : ℕ → ℕ → ℕ → ℕ × ℕ
segment n k i = (segment_start n k i, segment_stop n k i)

-- records of whole numbers
unfoldable pub file_of : List ℕ → List ℕ
file_of l = flat_map (λ n. float_bytes (int (pos n))) l

unfoldable pub k10_points : List ℕ
k10_points = file_of (0 ∷ 0 ∷ 0 ∷ 1 ∷ 2 ∷ 3 ∷ 1 ∷ 3 ∷ 4 ∷ 0 ∷ 1 ∷ 1 ∷ 1 ∷ 2 ∷ [])

unfoldable pub k10_edges : List ℕ
k10_edges = file_of (0 ∷ 25 ∷ 26 ∷ [])

pub record MarkedReadings : Type 0 where
  pub K1 : find (regular (int (pos 0)) (int (pos 1)) 3) (bits 0x3fef_ffff_ffff_ffff) ≡ Some 3
  pub K2 : (find (regular (int (pos 0)) (int (pos 1)) 4) (bits 0x3fd0_0000_0000_0000) ≡ Some 1) × (find (regular (int (pos 0)) (int (pos 1)) 4) (int (pos 1)) ≡ None)
  pub K3 :
      map (λ x. find (irregular (int (pos 0) ∷ int (pos 25) ∷ int (pos 26) ∷ [])) (int (pos x))) (24 ∷ 25 ∷ 26 ∷ [])
      ≡ Some 0 ∷ Some 1 ∷ None ∷ []
  pub K4 : map (find (irregular (int (negsuc 0) ∷ int (pos 0) ∷ int (pos 1) ∷ []))) (zero_f true ∷ zero_f false ∷ []) ≡ Some 0 ∷ Some 1 ∷ []
  pub K5 : find (irregular (int (pos 0) ∷ int (pos 1) ∷ [])) (zero_f true) ≡ None
  -- 22 also where 23 and 24 are broken too
  pub K6 :
      (refusal (run_rules (one_bin 1 (one_block unit_widths (box 1 1 1))) 2) ≡ 22)
      × (refusal (run_rules (one_bin 2 (one_block unit_widths (box 1 1 1))) 0) ≡ 22)
      × (auto_offsets (box 1 1 2) ≡ (offset (pos 0) (pos 0) (pos 1), 1) ∷ [])
  pub K7 :
      auto_offsets (box 1 2 2)
      ≡ (offset (pos 0) (pos 0) (pos 1), 2) ∷ (offset (pos 0) (pos 1) (negsuc 0), 1) ∷ (offset (pos 0) (pos 1) (pos 0), 2) ∷ (offset (pos 0) (pos 1) (pos 1), 1) ∷ []
  pub K8 :
      cross_offsets (box 1 1 2) (box 1 1 3)
      ≡ (offset (pos 0) (pos 0) (negsuc 0), 1) ∷ (offset (pos 0) (pos 0) (pos 0), 2) ∷ (offset (pos 0) (pos 0) (pos 1), 2) ∷ (offset (pos 0) (pos 0) (pos 2), 1) ∷ []
  pub K9 : map (segment 10 3) (upto 3) ≡ (0, 4) ∷ (4, 7) ∷ (7, 10) ∷ []
  pub K10 : curve_text k10_points k10_edges ≡ ascii "0 0000000000000000 0000000000000000\n1 4028000000000000 4000000000000000\n"
  pub K11 : (find (regular (int (pos 0)) (int (pos 1)) 3) nan ≡ Some 0) × (find (irregular (int (pos 0) ∷ int (pos 1) ∷ [])) nan ≡ None)
  pub K12 : step (one_bin 1 (one_points lone)) (zero_f true ∷ zero_f true ∷ []) ≡ zero_f false ∷ zero_f false ∷ []

-- Not among the marked: three squares that round to 1 in a block's order, and to the next number in the points' order
unfoldable pub thin_widths : CellWidth
thin_widths = record { wz = int (pos 1); wy = bits 0x3e44_0000_0000_0000; wx = bits 0x3e44_0000_0000_0000 }

pub record DirectedReadings : Type 0 where
  pub order : to_bits binary64 (distance_squared thin_widths (box 2 2 2) (box 2 2 2) (offset (pos 1) (pos 1) (pos 1))) ≡ 0x3ff0_0000_0000_0000

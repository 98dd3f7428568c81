-- The refusals of blocks and widths, for each way through the code, and what follows where there is none. Assumes nothing.
use mathlib.Core.Path.{◌≡◌, refl, sym, ◌∙◌}
use mathlib.Core.Bool.{Bool, true, false, ◌||◌, true≢false}
use mathlib.Core.List.{◌++◌}
use Prim.Native.Nat.{ℕ}
use lib.Dec.{ltb}
use borrow.Author.Tests.{ltb-false}
use Rattle.definitions.specs.Blocks as blocks
use Rattle.definitions.specs.Blocks.{CartesianBlock, required_length}
use Rattle.definitions.specs.Rules.{refusal, zero_axis, outside, over_block, block_rules, width_rules, set_rules}
use Rattle.laws.specs.Refusals.{or_else}
use Rattle.laws.proofs.Refusals.{refusal_append}
use Rattle.spatial.specs.declared.Block.{Block}
use Rattle.parallel_serial.specs.declared.Sets.{Sets}
use Rattle.parallel_serial.specs.declared.Sets.TheVariants.{Cross}
use Rattle.spatial.specs.declared.bounded.Bounded.{Bounded}
use Rattle.spatial.specs.Readings.{block_of, sets_of}
use Rattle.spatial.specs.Bounded.{blocks_in}
use Rattle.spatial.specs.Refusals.{numbers_over, length_over, globals_over, Limited}

pub either : (a b : Bool) → (a || b) ≡ false → (a ≡ false) × (b ≡ false)
either true b h = absurd (true≢false h)
either false b h = (refl, h)

-- ---- limits
pub limited : (b : Block) (r : Bool) → r ≡ numbers_over (block_of b) → r ≡ false → Limited b
unfolding numbers_over
limited b r q t =
    let e = either _ (ltb 65536 b.sx) (sym q ∙ t) in
    let d = either _ (ltb 65536 b.sy) e.0 in
    let c = either _ (ltb 65536 b.sz) d.0 in
    let x = either _ (ltb 64 b.nx) c.0 in
    let y = either (ltb 64 b.nz) (ltb 64 b.ny) x.0 in
    record {
      z_axis = ltb-false 64 b.nz y.0;
      y_axis = ltb-false 64 b.ny y.1;
      x_axis = ltb-false 64 b.nx x.1;
      z_stride = ltb-false 65536 b.sz c.1;
      y_stride = ltb-false 65536 b.sy d.1;
      x_stride = ltb-false 65536 b.sx e.1;
    }

module _ (b : Block) (r : Bool) (q : r ≡ zero_axis (block_of b)) where
  pub length_zero : r ≡ true → false ≡ length_over (block_of b)
  unfolding length_over
  length_zero h = rw (← q, h)

  pub length_most : r ≡ false → (n : ℕ) → n ≡ required_length (block_of b) → ltb 65536 n ≡ length_over (block_of b)
  unfolding length_over
  length_most h n e = rw (← q, h, e)

-- ---- the three parts
parts : (n l x y z : Bool) → n || l || x || y || z ≡ n || l || (x || y || z)
parts true l x y z = refl
parts false true x y z = refl
parts false false x y z = refl

module _ (b : Block) (r : Bool) (p : r ≡ numbers_over (block_of b)) where
  whole : (n l : Bool) → n ≡ numbers_over (block_of b) → l ≡ length_over (block_of b) → over_block (block_of b) ≡ n || l || globals_over (block_of b)
  unfolding numbers_over length_over globals_over
  whole n l e f = parts (numbers_over (block_of b)) (length_over (block_of b)) (outside b.gz) (outside b.gy) (outside b.gx) ∙ λ t. sym e t || sym f t || (outside b.gz || outside b.gy || outside b.gx)

  pub over_numbers_law : r ≡ true → true ≡ over_block (block_of b)
  over_numbers_law h = sym (whole r (length_over (block_of b)) p refl ∙ (rw h))

  module _ (h : r ≡ false) (s : Bool) (q : s ≡ length_over (block_of b)) where
    pub over_length : s ≡ true → true ≡ over_block (block_of b)
    over_length k = sym (whole r s p q ∙ (rw (h, k)))

    pub over_globals : s ≡ false → (t : Bool) → t ≡ globals_over (block_of b) → t ≡ over_block (block_of b)
    over_globals k t e = e ∙ sym (whole r s p q ∙ (rw (h, k)))

-- ---- the rules of two blocks and of the widths, one after another
pub cross_next : (s : Sets Bounded) (width : blocks.CellWidth) (a b : Bounded) → s ≡ Cross a b → (z : ℕ)
    → z ≡ or_else (refusal (block_rules (block_of a.block))) (or_else (refusal (block_rules (block_of b.block))) (refusal (width_rules width))) → z ≡ refusal (set_rules (sets_of (blocks_in s) width))
cross_next s width a b t z h =
    rw t (h ∙ sym (rw (refusal_append (block_rules (block_of a.block)) (block_rules (block_of b.block) ++ width_rules width) tt, refusal_append (block_rules (block_of b.block)) (width_rules width) tt)))

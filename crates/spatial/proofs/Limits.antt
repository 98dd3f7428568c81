-- What follows of blocks that are within the limits. Assumes nothing.
use mathlib.Core.Path.{◌≡◌}
use mathlib.Core.Bool.{false, not, ◌&&◌}
use lib.Dec.{ltb}
use Rattle.definitions.specs.Blocks.{CartesianBlock, required_length}
use Rattle.definitions.specs.Rules.{outside, zero_axis, over_block}
use Rattle.spatial.proofs.Refusals.{either}

pub record Numbers (b : CartesianBlock) : Type 0 where
  pub nz : ltb 64 b.nz ≡ false
  pub ny : ltb 64 b.ny ≡ false
  pub nx : ltb 64 b.nx ≡ false
  pub sz : ltb 65536 b.sz ≡ false
  pub sy : ltb 65536 b.sy ≡ false
  pub sx : ltb 65536 b.sx ≡ false
  pub gz : outside b.gz ≡ false
  pub gy : outside b.gy ≡ false
  pub gx : outside b.gx ≡ false

pub numbers : (b : CartesianBlock) → over_block b ≡ false → Numbers b
numbers b h =
    let x = either _ (outside b.gx) h in
    let y = either _ (outside b.gy) x.0 in
    let z = either _ (outside b.gz) y.0 in
    let l = either _ (not (zero_axis b) && ltb 65536 (required_length b)) z.0 in
    let e = either _ (ltb 65536 b.sx) l.0 in
    let d = either _ (ltb 65536 b.sy) e.0 in
    let c = either _ (ltb 65536 b.sz) d.0 in
    let i = either _ (ltb 64 b.nx) c.0 in
    let j = either (ltb 64 b.nz) (ltb 64 b.ny) i.0 in
    record { nz = j.0; ny = j.1; nx = i.1; sz = c.1; sy = d.1; sx = e.1; gz = z.1; gy = y.1; gx = x.1 }

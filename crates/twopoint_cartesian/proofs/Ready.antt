-- What follows of a block that is not refused. Assumes nothing.
use mathlib.Core.Path.{◌≡◌, refl}
use mathlib.Core.Bool.{Bool, true, false, not, ◌&&◌, ◌||◌}
use mathlib.Core.List.{◌++◌}
use Prim.Native.Nat.{ℕ, ◌*◌}
use native.Mathlib.Omega.{arith}
use lib.Dec.{T, ltb, eqb, nltb→le}
use lib.ListN.{length}
use lib.IntN.{ℤ, nat_abs}
use lib.Ieee.Fits.{eq→eqb, and_l, and_r}
use borrow.Author.Tests.{ltb-false, eqb-true, eqb-false}
use Rattle.definitions.specs.Blocks as blocks
use Rattle.definitions.specs.Blocks.{CartesianBlock, required_length}
use Rattle.definitions.specs.Rules.{refusal, outside, over_block, over_sets, block_rules, width_rules, set_rules}
use Rattle.laws.proofs.Refusals.{none_broken_law, none_refused, broken_left, broken_right}
use Rattle.idx_3d_offset.specs.Offsets.{Axis}
use Rattle.parallel_serial.specs.declared.Sets.{Sets}
use Rattle.parallel_serial.specs.declared.Sets.TheVariants.{Auto, Cross}
use Rattle.spatial.specs.declared.Block.{Block}
use Rattle.spatial.specs.Readings.{block_of, sets_of}
use Rattle.spatial.proofs.Refusals.{either}
use Rattle.spatial.proofs.Limits.{numbers}
use Rattle.twopoint_cartesian.specs.Held.{Near, Ready, AllReady}

-- a rule that asks that two numbers are equal, and the rules after it
equal : (a b : ℕ) (m : Bool) → T (not (not (eqb a b)) && m) → (a ≡ b) × T m
equal a b m h = go (eqb a b) refl h
  where
    go : (t : Bool) → eqb a b ≡ t → T (not (not t) && m) → (a ≡ b) × T m
    go true e k = (eqb-true a b e, k)
    go false e k = absurd k

three : (a b c : Bool) (m : Bool) → T (not (not (a && b && c)) && m) → (a ≡ true) × (b ≡ true) × (c ≡ true)
three true true true m h = (refl, refl, refl)
three true true false m h = absurd h
three true false c m h = absurd h
three false b c m h = absurd h

None : (a b c : Bool) (m : Bool) → T (not (a || b || c) && m) → (a ≡ false) × (b ≡ false) × (c ≡ false) × T m
None false false false m h = (refl, refl, refl, h)
None false false true m h = absurd h
None false true c m h = absurd h
None true b c m h = absurd h

axis : (n : ℕ) → eqb n 0 ≡ false → ltb 64 n ≡ false → Axis n
axis n e h = record { least = omega (arith, eqb-false n 0 e); most = ltb-false 64 n h }

near : (g : ℤ) → outside g ≡ false → Near g
near g h = record { near = ltb-false 1_000_000 (nat_abs g) h }

ready : (b : CartesianBlock) → over_block b ≡ false → refusal (block_rules b) ≡ 0 → Ready b
ready b o h =
    let n = numbers b o in
    let t = None (eqb b.nz 0) (eqb b.ny 0) (eqb b.nx 0) _ (none_broken_law (block_rules b) tt (eq→eqb h)) in
    let u = equal b.sx 1 _ t.3 in
    let v = and_r (not (ltb b.sy (b.sx * b.nx))) _ (and_r (not (ltb b.sz (b.sy * b.ny))) _ u.1) in
    let l = three (eqb (length b.comp0) (length b.weights)) (eqb (length b.comp1) (length b.weights)) (eqb (length b.comp2) (length b.weights)) _ (and_r (not (ltb (length b.weights) (required_length b))) _ v) in
    record {
      axes = record { z_axis = axis b.nz t.0 n.nz; y_axis = axis b.ny t.1 n.ny; x_axis = axis b.nx t.2 n.nx };
      z_stride = ltb-false 65536 b.sz n.sz;
      y_stride = ltb-false 65536 b.sy n.sy;
      x_stride = u.0;
      room = nltb→le (length b.weights) (required_length b) (and_l (not (ltb (length b.weights) (required_length b))) _ v);
      in0 = eqb-true (length b.comp0) (length b.weights) l.0;
      in1 = eqb-true (length b.comp1) (length b.weights) l.1;
      in2 = eqb-true (length b.comp2) (length b.weights) l.2;
      global = record { z_near = near b.gz n.gz; y_near = near b.gy n.gy; x_near = near b.gx n.gx };
    }

pub ready_sets : (s : Sets Block) (w : blocks.CellWidth) → over_sets (sets_of s w) ≡ false → refusal (set_rules (sets_of s w)) ≡ 0 → AllReady s
ready_sets (Auto a) w o h =
    let r = ready (block_of a) o (none_refused (block_rules (block_of a)) (broken_left (block_rules (block_of a)) (width_rules w) (none_broken_law (block_rules (block_of a) ++ width_rules w) tt (eq→eqb h)))) in
    record { first = r; second = r }
ready_sets (Cross a b) w o h =
    let A = block_of a in
    let B = block_of b in
    let l = either (over_block A) (over_block B) o in
    let m = none_broken_law (block_rules A ++ (block_rules B ++ width_rules w)) tt (eq→eqb h) in
    let n = broken_right (block_rules A) (block_rules B ++ width_rules w) m in
    record {
      first = ready A l.0 (none_refused (block_rules A) (broken_left (block_rules A) (block_rules B ++ width_rules w) m));
      second = ready B l.1 (none_refused (block_rules B) (broken_left (block_rules B) (width_rules w) n));
    }

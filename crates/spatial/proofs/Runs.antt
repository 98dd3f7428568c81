-- The number that a run answers. Assumes nothing.
use mathlib.Core.Path.{◌≡◌, refl, ◌∙◌}
use mathlib.Core.Bool.{Bool, true, false}
use Prim.Native.Nat.{ℕ}
use Rattle.definitions.specs.Run as run
use Rattle.definitions.specs.Rules.{refusal, over_sets, set_rules, pair_rules, run_rules}
use Rattle.parallel_serial.specs.declared.RunSpec.{RunSpec}
use Rattle.parallel_serial.specs.Drive.{run_number, run_of}
use Rattle.parallel_serial.proofs.Refusals.{run_limit, run_within}
use Rattle.spatial.specs.declared.Block.{Block}
use Rattle.definitions.specs.Blocks as blocks
use Rattle.parallel_serial.specs.declared.Sets.{Sets}
use Rattle.parallel_serial.specs.declared.Sets.TheVariants.{Auto, Cross}
use Rattle.spatial.specs.declared.CellWidth.{CellWidth}
use Rattle.spatial.specs.Readings.{width_of, sets_of}
use Rattle.spatial.specs.Refusals.{no_width}

-- the limits do not read the widths, and neither do the rules on pairs
over_same : (s : Sets Block) (w : blocks.CellWidth) → over_sets (sets_of s no_width) ≡ over_sets (sets_of s w)
over_same (Auto a) w = refl
over_same (Cross a b) w = refl

pairs_same : (s : Sets Block) (w : blocks.CellWidth) → refusal (pair_rules (sets_of s no_width)) ≡ refusal (pair_rules (sets_of s w))
pairs_same (Auto a) w = refl
pairs_same (Cross a b) w = refl

-- r, n and m are what calls answered
module _ (s : Sets Block) (width : CellWidth) (spec : RunSpec) (len : ℕ) (r : Bool) (q : r ≡ over_sets (sets_of s no_width)) where
  abbrev sets : run.Sets
  sets = sets_of s (width_of width)

  pub number_7 : r ≡ true → 7 ≡ refusal (run_rules (run_of sets spec) len)
  number_7 = run_limit sets spec len r (q ∙ over_same s (width_of width))

  pub number_is : r ≡ false → (n m x : ℕ) → n ≡ refusal (set_rules sets) → m ≡ refusal (pair_rules (sets_of s no_width)) → x ≡ run_number n m spec len → x ≡ refusal (run_rules (run_of sets spec) len)
  number_is t n m x p o h = run_within sets spec len r (q ∙ over_same s (width_of width)) t n m x p (o ∙ pairs_same s (width_of width)) h

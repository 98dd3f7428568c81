-- Points have no rules on pairs.
use mathlib.Core.Path.{◌≡◌, refl}
use Prim.Native.Nat.{ℕ}
use Rattle.definitions.specs.Rules.{refusal, pair_rules}
use Rattle.parallel_serial.specs.declared.Sets.{Sets}
use Rattle.parallel_serial.specs.declared.Sets.TheVariants.{Auto, Cross}
use Rattle.unstructured_points.specs.declared.PointSet.{PointSet}
use Rattle.unstructured_points.specs.Sets.{sets_of}

pub no_pairs : (s : Sets PointSet) → ◌≡◌ {A = ℕ} 0 (refusal (pair_rules (sets_of s)))
no_pairs (Auto a) = refl
no_pairs (Cross a b) = refl

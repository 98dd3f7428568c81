use mathlib.Core.Path.{◌≡◌}
use lib.ListN.{length}
use Rattle.definitions.specs.State.{merge_packs}
use Rattle.parallel_serial.proofs.add_scratch.Given as goal

abbrev pub invariant-loop-i : goal.invariant-loop-i
invariant-loop-i l = (length l.pack ≡ length l.initial.pack) × (l.pack ≡ merge_packs l.i l.initial.pack l.scratch)

use mathlib.Core.Path.{◌≡◌}
use Rattle.record_bytes.specs.Stores.{stored}
use Rattle.record_bytes.specs.Columns.{numbers}
use Rattle.record_bytes.proofs.decode.Given as goal

abbrev pub invariant-loop-i : goal.invariant-loop-i
invariant-loop-i l = l.out ≡ stored 0 (numbers l.size l.first l.i l.b) l.initial.out

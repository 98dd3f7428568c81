use mathlib.Core.Path.{◌≡◌}
use Rattle.record_bytes.specs.Stores.{stored}
use Rattle.record_bytes.specs.Columns.{curve_records}
use Rattle.record_bytes.proofs.encode.Given as goal

abbrev pub invariant-loop-s : goal.invariant-loop-s
invariant-loop-s l = l.b ≡ stored 0 (curve_records l.s l.n l.pack) l.initial.b

use mathlib.Core.Path.{◌≡◌}
use Prim.Native.Nat.{◌*◌, ◌≤◌}
use lib.ListN.{length}
use Rattle.record_bytes.specs.Stores.{stored}
use Rattle.curve_text.specs.Text.{line_bytes, lines_text}
use Rattle.curve_text.proofs.put_lines.Given as goal

abbrev pub invariant-loop-s : goal.invariant-loop-s
invariant-loop-s l = (l.k ≤ l.s * line_bytes) × (l.k ≡ length (lines_text l.s l.n l.pack)) × (l.out ≡ stored 0 (lines_text l.s l.n l.pack) l.initial.out)

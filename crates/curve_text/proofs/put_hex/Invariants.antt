use mathlib.Core.Path.{◌≡◌}
use Rattle.record_bytes.specs.Stores.{stored}
use Rattle.curve_text.specs.Text.{hex_text}
use Rattle.curve_text.proofs.put_hex.Given as goal

abbrev pub invariant-loop-i : goal.invariant-loop-i
invariant-loop-i l = stored 0 (hex_text l.i l.rest) l.out ≡ stored 0 (hex_text 16 l.n) l.initial.out

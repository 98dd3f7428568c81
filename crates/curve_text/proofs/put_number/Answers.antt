use native.Mathlib.Omega.{arith}
use Rattle.curve_text.proofs.Lines.{number_then, number_past}
use Rattle.curve_text.proofs.put_number.Goals as goal

pub returns-clause-value : goal.returns-clause-value
returns-clause-value c = (search number_past, omega arith)

pub returns-clause-out_after : goal.returns-clause-out_after
returns-clause-out_after c = search number_then

use mathlib.Core.Path.{refl}
use native.Mathlib.Omega.{arith}
use Rattle.curve_text.proofs.Lines.{line_put, line_past}
use Rattle.curve_text.proofs.put_line.Goals as goal

pub returns-clause-value : goal.returns-clause-value
returns-clause-value c = (search line_past, omega arith)

pub returns-clause-out_after : goal.returns-clause-out_after
returns-clause-out_after c = line_put _ _ _ _ c.put_number-p.ensures.value.0 _ _ c.args.out.now _ _ _ c.put_number-p.ensures.value.1 c.requires c.put_number-p.ensures.out_after refl c.put_bits.ensures refl c.put_bits-2.ensures

use native.Mathlib.Omega.{arith}
use Rattle.curve_text.proofs.Lines.{put_1, put_2, put_3, past_1, past_2, past_3}
use Rattle.curve_text.proofs.put_decimal.Goals as goal

pub returns-then-n-lt10-clause-value : goal.returns-then-n-lt10-clause-value
returns-then-n-lt10-clause-value c = (search past_1, omega arith)

pub returns-then-n-lt10-clause-out_after : goal.returns-then-n-lt10-clause-out_after
returns-then-n-lt10-clause-out_after c = search put_1

pub returns-then-n-lt100-clause-value : goal.returns-then-n-lt100-clause-value
returns-then-n-lt100-clause-value c = (search past_2, omega arith)

pub returns-then-n-lt100-clause-out_after : goal.returns-then-n-lt100-clause-out_after
returns-then-n-lt100-clause-out_after c = search put_2

pub returns-clause-value : goal.returns-clause-value
returns-clause-value c = (search past_3, omega arith)

pub returns-clause-out_after : goal.returns-clause-out_after
returns-clause-out_after c = search put_3

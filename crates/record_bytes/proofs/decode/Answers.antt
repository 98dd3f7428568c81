use native.Mathlib.Omega.{arith}
use Rattle.record_bytes.proofs.Columns.{numbers_none, numbers_turn, numbers_done}
use Rattle.record_bytes.proofs.decode.Goals as goal

pub loop-i-init : goal.loop-i-init
loop-i-init c = search numbers_none

pub loop-i-preserved : goal.loop-i-preserved
loop-i-preserved c = search numbers_turn

pub returns : goal.returns
returns c = numbers_done _ _ _ _ c.loop-i.i _ (omega arith) c.loop-i.invariant

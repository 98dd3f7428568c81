use native.Mathlib.Omega.{arith}
use Rattle.record_bytes.proofs.Columns.{records_none, records_turn, records_done}
use Rattle.record_bytes.proofs.encode.Goals as goal

pub loop-s-init : goal.loop-s-init
loop-s-init c = search records_none

pub loop-s-preserved : goal.loop-s-preserved
loop-s-preserved c = records_turn _ _ _ c.loop-s.s _ _ _ (omega arith) (omega arith) c.encode_bin.ensures c.loop-s.invariant

pub returns : goal.returns
returns c = search records_done

use native.Mathlib.Omega.{arith}
use Rattle.record_bytes.proofs.Columns.{three_put}
use Rattle.record_bytes.proofs.decode_three.Goals as goal

pub returns : goal.returns
returns c = three_put c.args.first c.args.n _ _ _ c.args.out.now _ _ _ (omega arith) (omega arith) (omega arith) c.decode.ensures c.decode-2.ensures c.decode-3.ensures

use native.Mathlib.Omega.{arith}
use Rattle.record_bytes.proofs.Stores.{same_stored, none_stored}
use Rattle.record_bytes.proofs.Files.{records_fit, short_pack, short_room}
use borrow.Author.Rules.{rules}
use Rattle.record_bytes.proofs.encode_curve.Goals as goal

pub returns-then-n-pack : goal.returns-then-n-pack
returns-then-n-pack c = none_stored _ _ (short_pack _ _ _ (omega arith))

pub returns-then-n-b : goal.returns-then-n-b
returns-then-n-b c = none_stored _ _ (short_room _ _ _ (omega arith) (omega arith))

pub returns : goal.returns
returns c = same_stored _ _ _ _ (search rules) (records_fit _ _ _ (omega arith) (omega arith))

use native.Mathlib.Omega.{arith}
use Rattle.record_bytes.proofs.Stores.{none_stored}
use Rattle.record_bytes.proofs.Files.{edges_put, edges_past}
use borrow.Author.Rules.{rules}
use Rattle.record_bytes.proofs.decode_edges.Goals as goal

pub returns-then-b : goal.returns-then-b
returns-then-b c = edges_put c.args.b.now c.args.out.now _ (omega arith) (search rules) c.decode.ensures

pub returns-else-b : goal.returns-else-b
returns-else-b c = (search (none_stored, edges_past), search rules)

use native.Mathlib.Omega.{arith}
use Rattle.record_bytes.proofs.Stores.{stored_keeps, same_stored, none_stored}
use Rattle.record_bytes.proofs.Files.{three_read_law, three_past, weights_put, weights_past}
use borrow.Author.Rules.{rules}
use Rattle.record_bytes.proofs.decode_points.Goals as goal

pub returns-then-b : goal.returns-then-b
returns-then-b c = record {
  positions_after = (search (same_stored, three_read_law), search stored_keeps);
  values_after = (search (same_stored, three_read_law), search stored_keeps);
  weights_after = weights_put c.args.b.now c.args.weights.now _ (omega arith) (search rules) c.decode.ensures;
}

pub returns-else-b : goal.returns-else-b
returns-else-b c = record {
  positions_after = (search (none_stored, three_past), search rules);
  values_after = (search (none_stored, three_past), search rules);
  weights_after = (search (none_stored, weights_past), search rules);
}

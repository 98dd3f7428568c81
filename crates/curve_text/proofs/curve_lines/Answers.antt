use native.Mathlib.Omega.{arith}
use Rattle.record_bytes.proofs.Stores.{same_count, same_stored, none_count, none_stored}
use Rattle.curve_text.proofs.Fitting.{lines_fit, many_lines, lines_pack, lines_room}
use borrow.Author.Rules.{rules}
use Rattle.curve_text.proofs.curve_lines.Goals as goal

pub returns-then-n-ge1000-clause-value : goal.returns-then-n-ge1000-clause-value
returns-then-n-ge1000-clause-value c = (search (none_count, many_lines), omega arith)

pub returns-then-n-ge1000-clause-out_after : goal.returns-then-n-ge1000-clause-out_after
returns-then-n-ge1000-clause-out_after c = search (none_stored, many_lines)

pub returns-then-pack-n-clause-value : goal.returns-then-pack-n-clause-value
returns-then-pack-n-clause-value c = (search (none_count, lines_pack), omega arith)

pub returns-then-pack-n-clause-out_after : goal.returns-then-pack-n-clause-out_after
returns-then-pack-n-clause-out_after c = search (none_stored, lines_pack)

pub returns-then-out-n-clause-value : goal.returns-then-out-n-clause-value
returns-then-out-n-clause-value c = (search (none_count, lines_room), omega arith)

pub returns-then-out-n-clause-out_after : goal.returns-then-out-n-clause-out_after
returns-then-out-n-clause-out_after c = search (none_stored, lines_room)

pub returns-clause-value : goal.returns-clause-value
returns-clause-value c = (search (same_count, lines_fit), search rules)

pub returns-clause-out_after : goal.returns-clause-out_after
returns-clause-out_after c = search (same_stored, lines_fit)

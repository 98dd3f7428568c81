use borrow.Author.Rules.{rules}
use lib.Ieee.{div, of_bits}
use Rattle.std.proofs.lemmas.Option.{unwrap_or-slice_get}
use Rattle.edge_table.proofs.edge_at.Goals as goal

pub returns : goal.returns
unfolding div of_bits
returns c = search (rules, unwrap_or-slice_get)

use denote.Param.{number}
use Rattle.edge_batch.specs.contracts.places_of.{INSIDE-type}
use Rattle.edge_table.specs.Table.{place_of}
use Rattle.edge_batch.proofs.Loops.{Done}
use Rattle.edge_batch.proofs.places_of.Given as goal

abbrev pub invariant-loop-q : goal.invariant-loop-q
invariant-loop-q g l = Done (λ v n. place_of (INSIDE-type (number g.row.INSIDE)) l.table v) l.x l.initial.found l.q l.found

use denote.Param.{number}
use Rattle.edge_batch.specs.contracts.settle.{INSIDE-type}
use Rattle.edge_batch.specs.Batch.{settled_or}
use Rattle.edge_batch.proofs.Loops.{Done}
use Rattle.edge_batch.proofs.settle.Given as goal

abbrev pub invariant-loop-q : goal.invariant-loop-q
invariant-loop-q g l = Done (settled_or (INSIDE-type (number g.row.INSIDE)) l.look) l.x l.initial.found l.q l.found

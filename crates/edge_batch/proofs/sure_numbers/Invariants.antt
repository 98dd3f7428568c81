use denote.Param.{number}
use Rattle.edge_batch.specs.contracts.sure_numbers.{INSIDE-type}
use Prim.Native.Nat.{ℕ, ◌<◌, ◌≤◌}
use lib.ListN.{get_or}
use Rattle.edge_batch.specs.Batch.{sure_number}
use Rattle.edge_batch.proofs.Loops.{Done}
use Rattle.edge_batch.proofs.sure_numbers.Given as goal

abbrev pub invariant-loop-q : goal.invariant-loop-q
invariant-loop-q g l = Done (λ v n. sure_number (INSIDE-type (number g.row.INSIDE)) l.e v) l.x l.initial.found l.q l.found × ((i : ℕ) → i < l.q → get_or l.found i 0 ≤ l.all)

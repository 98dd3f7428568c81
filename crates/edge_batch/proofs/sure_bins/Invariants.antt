use Prim.Native.Nat.{ℕ, ◌<◌, ◌≤◌}
use lib.ListN.{get_or}
use Rattle.edge_table.specs.Table.{sure_at}
use Rattle.edge_batch.proofs.Loops.{Done}
use Rattle.edge_batch.proofs.sure_bins.Given as goal

abbrev pub invariant-loop-q : goal.invariant-loop-q
invariant-loop-q l = Done (sure_at l.list l.hints) l.x l.initial.found l.q l.found × ((i : ℕ) → i < l.q → get_or l.found i 0 ≤ l.all)

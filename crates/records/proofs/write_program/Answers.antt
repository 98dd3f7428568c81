use native.Mathlib.Omega.{arith}
use Rattle.record_bytes.proofs.Stores.{same_count, same_stored}
use Rattle.records.proofs.Outcomes.{no_points, no_edges}
use Rattle.records.proofs.write_program.Goals as goal
use Rattle.records.proofs.write_program.Goals.{in_default-via-in-Some+in_default, in_default-via-in_default}

pub returns-in_default-clause-value : goal.returns-in_default-clause-value
returns-in_default-clause-value c =
    elim c.in_default.branch [ in_default-via-in-Some+in_default w ↦ (search (same_count, no_edges), omega arith) | in_default-via-in_default w ↦ (search (same_count, no_points), omega arith) ]

pub returns-in_default-clause-out_after : goal.returns-in_default-clause-out_after
returns-in_default-clause-out_after c =
    elim c.in_default.branch [ in_default-via-in-Some+in_default w ↦ search (same_stored, no_edges) | in_default-via-in_default w ↦ search (same_stored, no_points) ]

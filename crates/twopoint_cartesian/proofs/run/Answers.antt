use mathlib.Core.Path.{refl}
use Rattle.parallel_serial.proofs.Refusals.{run_answers, accepted_step}
use Rattle.twopoint_cartesian.proofs.Runs.{all_ready, driven}
use Rattle.twopoint_cartesian.proofs.run.Goals as goal

pub invariant_of-drive_reduce : goal.invariant_of-drive_reduce
invariant_of-drive_reduce c = record { ready = search (all_ready, c.in_ok-setup.was) }

pub returns-in_err-setup-clause-number : goal.returns-in_err-setup-clause-number
returns-in_err-setup-clause-number c = search (run_answers, c.in_err-setup.was)

pub returns-in_err-setup-clause-pack_after : goal.returns-in_err-setup-clause-pack_after
returns-in_err-setup-clause-pack_after c = search (run_answers, c.in_err-setup.was)

pub returns-clause-number : goal.returns-clause-number
returns-clause-number c = search (run_answers, c.in_ok-setup.was)

pub returns-clause-pack_after : goal.returns-clause-pack_after
returns-clause-pack_after c =
    accepted_step _ _ _ c.run_setup.ensures.number _ c.in_ok-setup.was _ (driven _ _ _ _ _ c.run_setup.ensures.number _ c.in_ok-setup.was c.in_ok-setup.ensures.built _ refl _ c.drive_reduce.ensures)

use mathlib.Core.Path.{sym}
use lib.ListN.{length}
use Rattle.parallel_serial.proofs.Refusals.{run_answers, accepted_step}
use Rattle.unstructured.proofs.Rules.{held_run}
use Rattle.unstructured.proofs.Runs.{driven}
use Rattle.unstructured.proofs.run.Goals as goal

pub returns-in_err-setup-clause-pack_after : goal.returns-in_err-setup-clause-pack_after
returns-in_err-setup-clause-pack_after c = search (run_answers, c.in_err-setup.was)

pub held_sets-requires : goal.held_sets-requires
held_sets-requires c = (held_run c.args.sets c.args.spec (length c.args.pack.now) (sym c.in_ok-setup.ensures.number)).0

pub returns-clause-pack_after : goal.returns-clause-pack_after
returns-clause-pack_after c = let x = c.args in
    let k = c.in_ok-setup.ensures in
    accepted_step _ _ _ c.run_setup.ensures.number _ c.in_ok-setup.was _
    (driven _ x.spec x.sets _ x.pack.now _ k.built (held_run x.sets x.spec (length x.pack.now) (sym k.number)).1 c.held_sets.ensures c.drive_reduce.ensures)

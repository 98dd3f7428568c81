use mathlib.Core.Path.{refl, sym, ap, ◌∙◌}
use Rattle.refusals.proofs.Answers.{number_carried, refused_first, accepted_first}
use Rattle.run_refusals.proofs.Refusals.{run_over, numbers_few, run_next, run_accepted, built_usable, setup_of}
use Rattle.refusals.specs.Numbers.{number_of}
use Rattle.run_refusals.proofs.run_setup.Goals as goal

pub returns-then-run_over-clause-number : goal.returns-then-run_over-clause-number
returns-then-run_over-clause-number c = search run_over

pub returns-in_err-sets-clause-number : goal.returns-in_err-sets-clause-number
returns-in_err-sets-clause-number c = search (run_next, refused_first, c.in_err-sets.was)

pub returns-in_err-edges-clause-number : goal.returns-in_err-edges-clause-number
returns-in_err-edges-clause-number c = search (run_next, accepted_first, refused_first, c.in_ok-sets.was, c.in_err-edges.was)

pub returns-in_err-reducer-clause-number : goal.returns-in_err-reducer-clause-number
returns-in_err-reducer-clause-number c = search (run_next, accepted_first, refused_first, c.in_ok-sets.was, c.in_ok-edges.was, c.in_err-reducer.was) fits 20000

pub returns-in_err-pairs-clause-number : goal.returns-in_err-pairs-clause-number
returns-in_err-pairs-clause-number c =
    run_next _ _ c.args.spec c.args.len _ _ c.n_bins-n_bins.ensures c.state_size-size.ensures _ c.run_over.ensures c.if-run_over.false _
    (accepted_first c.args.sets _ _ refl _ c.in_ok-sets.was _
    (accepted_first _ _ _ c.accepted_edges.ensures.number _ c.in_ok-edges.was _
    (accepted_first _ _ _ c.accepted_reducer.ensures.number _ c.in_ok-reducer.was _ (search (refused_first, c.in_err-pairs.was)))))

pub shape_refusal-requires : goal.shape_refusal-requires
shape_refusal-requires c = numbers_few 0 0 c.args.spec c.args.len _ _ c.n_bins-n_bins.ensures c.state_size-size.ensures _ c.run_over.ensures c.if-run_over.false

pub returns-in_err-shape_refusal-clause-number : goal.returns-in_err-shape_refusal-clause-number
returns-in_err-shape_refusal-clause-number c =
    run_next _ _ c.args.spec c.args.len _ _ c.n_bins-n_bins.ensures c.state_size-size.ensures _ c.run_over.ensures c.if-run_over.false _
    (accepted_first c.args.sets _ _ refl _ c.in_ok-sets.was _
    (accepted_first _ _ _ c.accepted_edges.ensures.number _ c.in_ok-edges.was _
    (accepted_first _ _ _ c.accepted_reducer.ensures.number _ c.in_ok-reducer.was _ (accepted_first c.args.pairs _ _ refl _ c.in_ok-pairs.was _ (number_carried _ _ c.from_residual-in_err-shape_refusal.ensures.1 ∙ c.in_err-shape_refusal.ensures)))))

pub invariant_of-result : goal.invariant_of-result
invariant_of-result c =
    record {
      usable = built_usable _ _ c.args.spec c.args.len _ _ c.n_bins-n_bins.ensures c.state_size-size.ensures
          (run_accepted (number_of c.args.sets) (number_of c.args.pairs) c.args.spec c.args.len _ _ c.n_bins-n_bins.ensures c.state_size-size.ensures _ c.run_over.ensures c.if-run_over.false (sym (ap number_of c.in_ok-sets.was))
          c.in_ok-edges.ensures.number c.in_ok-reducer.ensures.number (sym (ap number_of c.in_ok-pairs.was)) c.in_ok-shape_refusal.ensures) _ _ c.in_ok-edges.ensures.built c.in_ok-reducer.ensures.built;
    }

pub returns-clause-number : goal.returns-clause-number
returns-clause-number c =
    run_accepted _ _ c.args.spec c.args.len _ _ c.n_bins-n_bins.ensures c.state_size-size.ensures _ c.run_over.ensures c.if-run_over.false (sym (ap number_of c.in_ok-sets.was)) c.in_ok-edges.ensures.number
    c.in_ok-reducer.ensures.number (sym (ap number_of c.in_ok-pairs.was)) c.in_ok-shape_refusal.ensures

pub returns-clause-built : goal.returns-clause-built
returns-clause-built c = setup_of c.args.spec _ c.n_bins-n_bins.ensures _ c.in_ok-edges.ensures.built c.in_ok-reducer.ensures.built refl refl

use Rattle.std.proofs.Common.{◌∙◌}
use Rattle.record_refusals.proofs.Rules.{bins_are}
use Rattle.records.proofs.n_bins.Goals as goal

pub returns : goal.returns
returns c = (c.saturating_sub.ensures ∙ bins_are c.args.edges.now, c.saturating_sub.ensures)

use mathlib.Core.Path.{ap, ◌∙◌}
use Rattle.definitions.specs.Run.{one_block}
use Rattle.capi.specs.Entries.{width_from}
use Rattle.capi.proofs.Stated.{read_back, answered}
use Rattle.capi.proofs.pairstat_blocks_auto.Goals as goal

pub returns : goal.returns
returns c =
    answered _ _ _ _ _ c.number_of.ensures c.blocks_auto.ensures.number c.blocks_auto.ensures.pack_after
    (ap (one_block (width_from c.args.width_z c.args.width_y c.args.width_x)) (c.block_from-a.ensures ∙ read_back c.ranges.a_gz c.ranges.a_gy c.ranges.a_gx))
    c.edges_from.ensures c.edges_from-value.ensures c.kind_from.ensures c.op_from.ensures c.shape_from.ensures

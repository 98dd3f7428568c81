use mathlib.Core.Path.{◌≡◌}
use mathlib.Core.Bool.{true}
use lib.Ieee.{binary64, fits}
use Rattle.std.proofs.Common.{rules}
use Rattle.std.proofs.lemmas.List.Sorted.{IsPartitionPoint-from_clause}
use Rattle.bins.proofs.Irregular.{not_above, parted, split, halves_done}
use Rattle.bin_lookups.proofs.last_by_halves.Goals as goal

pub returns : goal.returns
returns c =
    let es = c.args.edges.now in
    let x = c.args.value in
    let f : fits binary64 x ≡ true = search rules in
    let t = c.type_inv.edges in
    let k = c.total_key-key in
    let n = c.partition_point-after in
    let p = IsPartitionPoint-from_clause (not_above es x f t k.result k.ensures) es n.result n.ensures.partitioned
    (parted es x f t k.result k.ensures c.requires.0 c.requires.1) (λ a r g h. search rules) in
    halves_done es x n.result n.ensures.bound (split es x f t k.result k.ensures n.result p) c.checked_sub.result c.checked_sub.ensures

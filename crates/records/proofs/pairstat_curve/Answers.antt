use mathlib.Core.Path.{◌≡◌}
use Prim.Native.Nat.{◌*◌}
use native.Mathlib.Omega.{arith}
use lib.ListN.{length, take}
use Rattle.definitions.specs.Records.{curve_numbers}
use Rattle.records.proofs.Outcomes.{limits, pack_holds, pack_part, zeros_taken, answer_first, keeps_first, answer_24, keeps_24, answer_0, output_made}
use Rattle.records.proofs.pairstat_curve.Goals as goal

pub returns-in_err-curve_refusal-clause-value : goal.returns-in_err-curve_refusal-clause-value
returns-in_err-curve_refusal-clause-value c = search (answer_first, c.in_err-curve_refusal.ensures)

pub returns-in_err-curve_refusal-clause-output_after : goal.returns-in_err-curve_refusal-clause-output_after
returns-in_err-curve_refusal-clause-output_after c = search (keeps_first, c.in_err-curve_refusal.ensures)

pub returns-then-output-n-clause-value : goal.returns-then-output-n-clause-value
returns-then-output-n-clause-value c = search (answer_24, c.in_ok-curve_refusal.ensures)

pub returns-then-output-n-clause-output_after : goal.returns-then-output-n-clause-output_after
returns-then-output-n-clause-output_after c = search (keeps_24, c.in_ok-curve_refusal.ensures)

pub slice_bounds-room-end : goal.slice_bounds-room-end
slice_bounds-room-end c = search (pack_holds, c.in_ok-curve_refusal.ensures)

pub slice_bounds-pack-end : goal.slice_bounds-pack-end
slice_bounds-pack-end c = search (pack_part, c.in_ok-curve_refusal.ensures)

pub fill_pack-requires : goal.fill_pack-requires
fill_pack-requires c =
    let h = limits c.args.points.now c.args.edges.now c.in_ok-curve_refusal.ensures in
    (h.0, h.1, search (zeros_taken, c.in_ok-curve_refusal.ensures))

pub returns-clause-value : goal.returns-clause-value
returns-clause-value c = search (answer_0, c.in_ok-curve_refusal.ensures)

pub returns-clause-output_after : goal.returns-clause-output_after
returns-clause-output_after c =
    let n = c.n_bins-n.result in
    let h : n * curve_numbers ≡ length (take (n * curve_numbers) c.zeros-room.result) = search (pack_part, c.in_ok-curve_refusal.ensures) in
    output_made _ _ _ c.in_ok-curve_refusal.ensures n c.n_bins-n.ensures.0 (omega arith) _ _ (omega arith) c.fill_pack.ensures c.encode_curve.ensures

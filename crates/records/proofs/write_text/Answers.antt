use mathlib.Core.Path.{◌≡◌}
use Prim.Native.Nat.{◌*◌, ◌≤◌}
use native.Mathlib.Omega.{arith}
use lib.ListN.{length, take}
use Rattle.record_bytes.proofs.Stores.{same_count, same_stored}
use Rattle.definitions.specs.Records.{curve_numbers}
use Rattle.records.proofs.Outcomes.{pack_numbers, limits, pack_room, pack_holds, pack_part, zeros_taken, refused_curve, lines_made}
use Rattle.records.proofs.write_text.Goals as goal

pub returns-in-Err-clause-value : goal.returns-in-Err-clause-value
returns-in-Err-clause-value c = (search (same_count, refused_curve, c.in-Err.ensures), omega arith)

pub returns-in-Err-clause-out_after : goal.returns-in-Err-clause-out_after
returns-in-Err-clause-out_after c = search (same_stored, refused_curve, c.in-Err.ensures)

pub slice_bounds-room-end : goal.slice_bounds-room-end
slice_bounds-room-end c = search (pack_holds, c.in-Ok.ensures)

pub slice_bounds-pack-end : goal.slice_bounds-pack-end
slice_bounds-pack-end c = search (pack_part, c.in-Ok.ensures)

pub fill_pack-requires : goal.fill_pack-requires
fill_pack-requires c =
    let h = limits c.args.points.now c.args.edges.now c.in-Ok.ensures in
    (h.0, h.1, search (zeros_taken, c.in-Ok.ensures))

pub returns-in-Ok-clause-value : goal.returns-in-Ok-clause-value
returns-in-Ok-clause-value c =
    let n = c.n_bins-n.result in
    let h : n * curve_numbers ≡ length (take (n * curve_numbers) c.zeros-room.result) = search (pack_part, c.in-Ok.ensures) in
    let k : n * curve_numbers ≤ pack_numbers = search (pack_room, c.in-Ok.ensures) in
    (same_count _ _ _ c.curve_lines.ensures.value.0 (lines_made _ _ _ _ _ c.in-Ok.ensures c.n_bins-n.ensures.0 c.fill_pack.ensures (omega arith) (omega arith) (omega arith)), omega arith)

pub returns-in-Ok-clause-out_after : goal.returns-in-Ok-clause-out_after
returns-in-Ok-clause-out_after c =
    let n = c.n_bins-n.result in
    let h : n * curve_numbers ≡ length (take (n * curve_numbers) c.zeros-room.result) = search (pack_part, c.in-Ok.ensures) in
    let k : n * curve_numbers ≤ pack_numbers = search (pack_room, c.in-Ok.ensures) in
    same_stored _ _ _ _ c.curve_lines.ensures.out_after (lines_made _ _ _ _ _ c.in-Ok.ensures c.n_bins-n.ensures.0 c.fill_pack.ensures (omega arith) (omega arith) (omega arith))

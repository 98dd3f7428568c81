use Rattle.std.proofs.Common.{◌≡◌, map, take}
use Rattle.std.specs.Int.{w64, from_le_bytes}
use Rattle.replay.specs.Records.{overlaid}
use Rattle.replay.proofs.words.read_words.Given as goal

abbrev pub invariant-loop-i : goal.invariant-loop-i
invariant-loop-i l = l.words ≡ overlaid (map (from_le_bytes w64) (take l.i l.eights)) l.initial.words

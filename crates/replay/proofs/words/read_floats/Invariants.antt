use Rattle.std.proofs.Common.{◌≡◌, take}
use Rattle.replay.specs.Records.{floats_of, overlaid}
use Rattle.replay.proofs.words.read_floats.Given as goal

abbrev pub invariant-loop-i : goal.invariant-loop-i
invariant-loop-i l = l.floats ≡ overlaid (floats_of (take l.i l.words)) l.initial.floats

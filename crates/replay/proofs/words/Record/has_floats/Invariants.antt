use Rattle.std.proofs.Common.{◌≡◌, take}
use Rattle.replay.specs.Records.{bits_of}
use Rattle.replay.proofs.words.Record.has_floats.Given as goal

abbrev pub invariant-loop-i : goal.invariant-loop-i
invariant-loop-i l = take l.i l.self.words.now ≡ bits_of (take l.i l.numbers)

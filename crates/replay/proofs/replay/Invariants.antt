use Rattle.std.proofs.Common.{◌≤◌}
use Rattle.replay.proofs.replay.Given as goal

-- each record before this one was a call, and differs at most once
abbrev pub invariant-loop : goal.invariant-loop
invariant-loop l = (l.calls ≤ l.counter) × (l.differ ≤ l.counter)

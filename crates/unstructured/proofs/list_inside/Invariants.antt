use mathlib.Core.Path.{◌≡◌}
use Prim.Native.Nat.{ℕ, ◌≤◌}
use lib.ListN.{take, get_or}
use lib.Ieee.{nan}
use Rattle.unstructured.specs.Batches.{kept_below, picked}
use Rattle.unstructured.proofs.list_inside.Given as goal

abbrev pub invariant-loop-e : goal.invariant-loop-e
invariant-loop-e l = record {
  few : l.c ≤ l.e;
  listed : take l.c l.places ≡ kept_below l.ends l.initial.d l.e;
  front : take l.c l.d ≡ picked l.initial.d (kept_below l.ends l.initial.d l.e);
  rest : (x : ℕ) → l.e ≤ x → get_or l.d x nan ≡ get_or l.initial.d x nan;
}

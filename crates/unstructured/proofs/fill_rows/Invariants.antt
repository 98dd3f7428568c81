use mathlib.Core.Path.{◌≡◌}
use Rattle.unstructured.specs.Pairs.{run_filled}
use Rattle.unstructured.proofs.Loops.{rows_left}
use Rattle.unstructured.proofs.fill_rows.Given as goal

abbrev pub invariant-loop-i : goal.invariant-loop-i
invariant-loop-i g l = record {
  left : rows_left (g.R.Rows.setup l.initial.rows) l.sets l.i l.scratch ≡ run_filled (g.R.Rows.setup l.initial.rows) l.sets l.initial.scratch;
  same : g.R.Rows.setup l.rows ≡ g.R.Rows.setup l.initial.rows;
}

use mathlib.Core.Path.{refl}
use native.Mathlib.Omega.{arith}
use Rattle.curve_text.proofs.Lines.{lines_none, lines_start, lines_turn, lines_place, lines_length, lines_done}
use borrow.Author.Rules.{rules}
use Rattle.curve_text.proofs.put_lines.Goals as goal

pub loop-s-init : goal.loop-s-init
loop-s-init c = (omega arith, search lines_start, search lines_none)

pub loop-s-preserved : goal.loop-s-preserved
loop-s-preserved c = (omega arith, search lines_place, lines_turn _ _ c.loop-s.s c.loop-s.k c.loop-s.invariant.1 _ c.args.out.now _ _ (omega arith) refl c.put_line-k.ensures.out_after c.loop-s.invariant.2)

pub returns-clause-value : goal.returns-clause-value
returns-clause-value c = (search lines_length, search rules)

pub returns-clause-out_after : goal.returns-clause-out_after
returns-clause-out_after c = search lines_done

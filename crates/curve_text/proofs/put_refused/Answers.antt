use mathlib.Core.Path.{refl}
use native.Mathlib.Omega.{arith}
use Rattle.curve_text.proofs.Lines.{refused_put, refused_length}
use borrow.Author.Rules.{rules}
use Rattle.curve_text.proofs.put_refused.Goals as goal

pub returns-clause-value : goal.returns-clause-value
returns-clause-value c = (search refused_length, search rules)

pub returns-clause-out_after : goal.returns-clause-out_after
returns-clause-out_after c = refused_put c.args.number.value _ c.args.out.now _ _ c.requires c.copy_from_slice.ensures.after (omega arith) refl c.put_number.ensures.out_after

use mathlib.Core.Path.{refl}
use borrow.Author.Rules.{rules}
use Rattle.state.proofs.Packs.{merge_turn}
use Rattle.parallel_serial.proofs.Scratch.{added_done}
use Rattle.parallel_serial.proofs.add_scratch.Goals as goal

pub loop-i-init : goal.loop-i-init
loop-i-init c = (refl, refl)

pub loop-i-preserved : goal.loop-i-preserved
loop-i-preserved c = (search rules, search merge_turn)

pub returns-after-loop-i : goal.returns-after-loop-i
returns-after-loop-i c = search added_done

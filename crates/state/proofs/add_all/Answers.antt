use lib.ListN.{length}
use native.Mathlib.Omega.{arith}
use mathlib.Core.Path.{refl}
use Rattle.state.proofs.Packs.{merge_turn, merge_done}
use Rattle.state.proofs.add_all.Goals as goal

pub loop-i-init : goal.loop-i-init
loop-i-init c = refl

pub loop-i-preserved : goal.loop-i-preserved
loop-i-preserved c = merge_turn _ _ (length c.args.pack.now) _ _ (omega arith) (omega arith) c.loop-i.invariant

pub returns : goal.returns
returns c = search merge_done

use Rattle.curve_text.proofs.Lines.{hex_turn, hex_done}
use Rattle.curve_text.proofs.put_hex.Goals as goal

pub loop-i-preserved : goal.loop-i-preserved
loop-i-preserved c = search hex_turn

pub returns : goal.returns
returns c = search hex_done

use Rattle.curve_text.proofs.Lines.{bits_then_law}
use Rattle.curve_text.proofs.put_bits.Goals as goal

pub returns : goal.returns
returns c = search bits_then_law

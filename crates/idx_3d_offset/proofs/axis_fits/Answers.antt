use Rattle.std.proofs.Common.{◌∙◌, arith}
use Rattle.std.proofs.lemmas.Bool.Decides.{nat_tests}
use Rattle.idx_3d_offset.proofs.axis_fits.Goals as goal

pub returns : goal.returns
returns c = let e = c.new.ensures in let h = rw (e.start, e.end, e.exhausted) at c.contains.ensures.value in h ∙ grind (arith, nat_tests)

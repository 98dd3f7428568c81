use Rattle.reducer.proofs.Ways.{datum_multiply, datum_sub}
use Rattle.reducer.proofs.datum_of.Goals as goal

pub returns-in-ElementwiseMultiply : goal.returns-in-ElementwiseMultiply
returns-in-ElementwiseMultiply c = search datum_multiply

pub returns-in-ElementwiseSub : goal.returns-in-ElementwiseSub
returns-in-ElementwiseSub c = search datum_sub

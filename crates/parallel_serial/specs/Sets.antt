-- The two sets of a pair's members; in auto they are one.
use Rattle.parallel_serial.specs.declared.Sets.{Sets}
use Rattle.parallel_serial.specs.declared.Sets.TheVariants.{Auto, Cross}

abbrev pub first_of : {S : Type 0} → Sets S → S
first_of (Auto a) = a
first_of (Cross a b) = a

abbrev pub second_of : {S : Type 0} → Sets S → S
second_of (Auto a) = a
second_of (Cross a b) = b

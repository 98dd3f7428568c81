use Rattle.floats.proofs.Keys.{keys}
use Rattle.floats.proofs.total_key.Goals as goal

pub returns-then-is_nan : goal.returns-then-is_nan
returns-then-is_nan c = search keys

pub float_to_bits-b : goal.float_to_bits-b
float_to_bits-b c = search keys

pub returns-then-b-lt9223372036854775808 : goal.returns-then-b-lt9223372036854775808
returns-then-b-lt9223372036854775808 c = search keys

pub overflow_sub-result : goal.overflow_sub-result
overflow_sub-result c = search keys

pub returns : goal.returns
returns c = search keys

use Rattle.record_bytes.proofs.Numbers.{number_law}
use Rattle.record_bytes.proofs.store_float.Goals as goal

pub returns : goal.returns
returns c = number_law _ _ _ _ c.f64_to_bits_with_nan.ensures c.to_le_bytes.ensures c.copy_from_slice.ensures.after

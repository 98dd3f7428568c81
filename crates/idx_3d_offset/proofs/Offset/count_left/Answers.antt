use Rattle.idx_3d_offset.proofs.Lengths.{first_product, first_sum, second_product, second_sum, cast_fits, cast_is}
use Rattle.idx_3d_offset.proofs.Offset.count_left.Goals as goal

pub overflow_mul-rows : goal.overflow_mul-rows
overflow_mul-rows c = (first_product _ _ _ c.requires).0

pub overflow_add-rows : goal.overflow_add-rows
overflow_add-rows c = (first_sum _ _ _ c.requires).0

pub overflow_mul-result : goal.overflow_mul-result
overflow_mul-result c = (second_product _ _ _ c.requires).0

pub overflow_add-result : goal.overflow_add-result
overflow_add-result c = (second_sum _ _ _ c.requires).0

pub overflow_cast-result : goal.overflow_cast-result
overflow_cast-result c = cast_fits _ _ _ c.requires

pub returns : goal.returns
returns c = cast_is _ _ _ c.requires

use native.Mathlib.Omega.{arith}
use Rattle.twopoint_cartesian.proofs.Cells.{z_product, y_product, x_product}
use Rattle.twopoint_cartesian.proofs.cell_index.Goals as goal

pub overflow_mul-result : goal.overflow_mul-result
overflow_mul-result c = record { fits = omega (arith, z_product _ _ _ _ c.requires) }

pub overflow_mul-result-2 : goal.overflow_mul-result-2
overflow_mul-result-2 c = record { fits = omega (arith, y_product _ _ _ _ c.requires) }

pub overflow_add-result : goal.overflow_add-result
overflow_add-result c = record { fits = omega (arith, z_product _ _ _ _ c.requires, y_product _ _ _ _ c.requires) }

pub overflow_mul-result-3 : goal.overflow_mul-result-3
overflow_mul-result-3 c = record { fits = omega (arith, x_product _ _ _ _ c.requires) }

pub overflow_add-result-2 : goal.overflow_add-result-2
overflow_add-result-2 c = record { fits = omega (arith, z_product _ _ _ _ c.requires, y_product _ _ _ _ c.requires, x_product _ _ _ _ c.requires) }

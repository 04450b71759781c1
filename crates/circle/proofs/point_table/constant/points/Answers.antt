use Rattle.std.proofs.Common.{refl}
use Rattle.algebra.specs.Circle.{multiple}
use Rattle.circle.specs.Table.{digits_of, run, windows_from, table_words}
use Rattle.circle.proofs.point_table.constant.points.Goals as goal

-- the test of the whole table: the checker computes it from G and compares it with the constant
pub invariant_of-result : goal.invariant_of-result
unfolding table_words windows_from digits_of run multiple
invariant_of-result c = record { is_table = refl }

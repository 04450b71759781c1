use Rattle.std.specs.Prelude.{◌+◌, ◌*◌}
use Rattle.orders.proofs.Blocks.{Blocks}
use Rattle.orders.proofs.utils.inner.bit_reverse_blocks.Given as goal

abbrev pub invariant-loop-x : goal.invariant-loop-x
invariant-loop-x l = Blocks l.log_size l.fn.v (16 * l.x) l.v

abbrev pub invariant-loop-row : goal.invariant-loop-row
invariant-loop-row l = Blocks l.log_size l.fn.v (16 * l.x + 4 * l.row) l.v

abbrev pub invariant-loop-column : goal.invariant-loop-column
invariant-loop-column l = Blocks l.log_size l.fn.v (16 * l.x + 4 * l.row + l.column) l.v

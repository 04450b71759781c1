use Rattle.orders.proofs.Columns.{Words}
use Rattle.orders.proofs.utils.inner.bit_reverse_short.Given as goal

abbrev pub invariant-loop-i : goal.invariant-loop-i
invariant-loop-i l = Words l.log_size l.initial.v l.i l.v

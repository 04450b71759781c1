use Rattle.orders.proofs.Columns.{Pairs}
use Rattle.orders.proofs.utils.inner.bit_reverse_coset_to_circle_domain_order.Given as goal

abbrev pub invariant-loop-x : goal.invariant-loop-x
invariant-loop-x l = Pairs l.log_size l.initial.v l.x l.v

use Rattle.orders.proofs.Copies.{ToCoset}
use Rattle.orders.proofs.utils.inner.circle_domain_order_to_coset_order.Given as goal

abbrev pub invariant-loop-i : goal.invariant-loop-i
invariant-loop-i l = ToCoset l.values l.initial.dst l.i l.dst

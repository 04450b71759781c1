use Rattle.std.specs.Prelude.{◌++◌}
use Rattle.orders.proofs.Copies.{ToDomain}
use Rattle.orders.proofs.utils.inner.coset_order_to_circle_domain_order.Given as goal

abbrev pub invariant-loop-i : goal.invariant-loop-i
invariant-loop-i l = ToDomain l.values (l.initial.first ++ l.initial.second) l.i (l.first ++ l.second)

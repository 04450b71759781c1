use Rattle.std.proofs.Common.{length}
use Rattle.orders.specs.Orders.{to_domain}
use Rattle.orders.proofs.Accepted.{copied_whole, copied_nothing}
use Rattle.orders.proofs.utils.circle_domain_order_to_coset_order.Goals as goal

pub returns-in_err-need : goal.returns-in_err-need
returns-in_err-need c =
    copied_nothing c.args.values.now c.args.dst.now _ _ c.lengths_fit.ensures c.need.ensures (to_domain (length c.args.values.now)) _ _
    c.from_residual.ensures.1 c.in_err-need.was

pub returns : goal.returns
returns c =
    copied_whole c.args.values.now c.args.dst.now _ _ c.lengths_fit.ensures c.need.ensures (to_domain (length c.args.values.now)) _ _
    c.in_ok-need.was c.circle_domain_order_to_coset_order.ensures

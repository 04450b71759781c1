use Rattle.orders.specs.Orders.{coset_bit_reversed}
use Rattle.orders.proofs.Accepted.{is_power, accepted, refused}
use Rattle.orders.proofs.utils.bit_reverse_coset_to_circle_domain_order.Goals as goal

pub returns-in_err-log_size : goal.returns-in_err-log_size
returns-in_err-log_size c =
    refused c.args.v.now _ _ c.log_size.ensures c.ok_or.ensures.value coset_bit_reversed _ _ c.from_residual.ensures.1 c.in_err-log_size.was

pub bit_reverse_coset_to_circle_domain_order-requires : goal.bit_reverse_coset_to_circle_domain_order-requires
bit_reverse_coset_to_circle_domain_order-requires c =
    is_power c.args.v.now _ _ c.log_size.ensures c.ok_or.ensures.value _ c.in_ok-log_size.was

pub returns : goal.returns
returns c =
    accepted c.args.v.now _ _ c.log_size.ensures c.ok_or.ensures.value coset_bit_reversed _ _ c.in_ok-log_size.was
    c.bit_reverse_coset_to_circle_domain_order.ensures

use Rattle.orders.proofs.Offsets.{product_fits, on_halves, offset_is}
use Rattle.orders.proofs.utils.inner.offset_bit_reversed_circle_domain_index.Goals as goal

pub overflow_mul-offset : goal.overflow_mul-offset
overflow_mul-offset c = product_fits c.args.eval_log_size c.args.domain_log_size c.args.offset c.requires c.ranges.offset _ _
    c.two_to-half.ensures c.two_to-places.ensures

pub offset_element-other-requires : goal.offset_element-other-requires
offset_element-other-requires c = on_halves c.args.eval_log_size c.args.domain_log_size c.args.offset c.requires c.ranges.offset _ _
    c.two_to-half.ensures c.two_to-places.ensures c.args.i _ c.bit_reverse_index-element.ensures

pub returns : goal.returns
returns c = offset_is c.args.eval_log_size c.args.domain_log_size c.args.offset c.requires c.ranges.offset _ _
    c.two_to-half.ensures c.two_to-places.ensures c.args.i _ _ _
    c.bit_reverse_index-element.ensures c.offset_element-other.ensures c.bit_reverse_index.ensures

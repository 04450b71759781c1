use Rattle.orders.specs.Orders.{offset_answer, previous_answer}
use Rattle.orders.proofs.utils.previous_bit_reversed_circle_domain_index.Goals as goal

pub returns : goal.returns
unfolding offset_answer previous_answer
returns c = c.offset_bit_reversed_circle_domain_index.ensures

use Rattle.std.proofs.Common.{arith}
use Rattle.orders.proofs.Copies.{all_to_coset, next_to_coset}
use Rattle.orders.proofs.utils.inner.circle_domain_order_to_coset_order.Goals as goal

pub loop-i-preserved : goal.loop-i-preserved
loop-i-preserved c =
    next_to_coset c.args.values.now c.args.dst.now c.requires.1 c.requires.0 c.loop-i.i c.loop-i.dst (omega arith) c.loop-i.invariant

pub returns : goal.returns
returns c =
    all_to_coset c.args.values.now c.args.dst.now c.requires.1 c.requires.0 c.loop-i.i c.loop-i.dst (omega arith) c.loop-i.invariant

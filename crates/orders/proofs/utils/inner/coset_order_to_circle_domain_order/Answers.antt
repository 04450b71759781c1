use Rattle.std.proofs.Common.{arith, ap, ◌∙◌, length}
use Rattle.orders.proofs.Copies.{all_to_domain, next_to_domain}
use Rattle.orders.proofs.utils.inner.coset_order_to_circle_domain_order.Goals as goal

pub loop-i-preserved : goal.loop-i-preserved
loop-i-preserved c = let split = c.split_at_mut-first.ensures in
    next_to_domain c.args.values.now _ c.requires.1 (omega (arith, ap length split.value)) c.loop-i.i c.loop-i.first c.loop-i.second
    (c.loop-i.auto.first ∙ split.front_len) (omega arith) c.loop-i.invariant

pub returns : goal.returns
returns c = let split = c.split_at_mut-first.ensures.value in
    rw split
    (all_to_domain c.args.values.now _ c.requires.1 (omega (arith, ap length split)) c.loop-i.i _ (omega arith) c.loop-i.invariant)

use Rattle.orders.proofs.Offsets.{moved_is}
use Rattle.orders.proofs.utils.inner.moved.Goals as goal

pub returns : goal.returns
returns c = let rest = c.rem_euclid.ensures in
    moved_is c.args.size c.args.p c.args.steps _ c.requires c.ranges.steps rest.value rest.upper_bound

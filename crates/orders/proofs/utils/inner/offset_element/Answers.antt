use Rattle.std.proofs.Common.{rules, to_z-of_z, ◌-ℤ◌, pos, FitsSigned, w64}
use Rattle.orders.proofs.Offsets.{on_first_half, on_second_half}
use Rattle.orders.proofs.utils.inner.offset_element.Goals as goal

pub returns-then-p-half : goal.returns-then-p-half
returns-then-p-half c = let same = to_z-of_z c.ranges.steps in
    on_first_half c.args.half c.args.p _ c.args.steps c.if-p-half.true (rw same at c.moved.ensures)

pub returns-else-p-half : goal.returns-else-p-half
returns-else-p-half c = let same = to_z-of_z c.ranges.steps in
    let fits : FitsSigned w64 (pos 0 -ℤ c.args.steps) = search rules in
    let back = to_z-of_z fits in
    on_second_half c.args.half c.args.p _ c.args.steps c.requires.some c.if-p-half.false
    (rw (same, back) at c.moved-else-p-half.ensures)

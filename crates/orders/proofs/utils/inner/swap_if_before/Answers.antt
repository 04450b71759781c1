use Rattle.std.proofs.Common.{sym, ◌∙◌}
use Rattle.orders.proofs.Turns.{swapped_before, not_swapped}
use Rattle.orders.proofs.utils.inner.swap_if_before.Goals as goal

pub returns-then-i-j : goal.returns-then-i-j
returns-then-i-j c = let i = c.args.i in
    let j = c.args.j in
    c.swap.ensures.after ∙ sym (swapped_before i j i j c.args.v.now c.requires.0 c.requires.1 c.if-i-j.true)

pub returns-else-i-j : goal.returns-else-i-j
returns-else-i-j c = let i = c.args.i in
    let j = c.args.j in
    sym (not_swapped i j i j c.args.v.now c.if-i-j.false)

use Rattle.std.proofs.Common.{arith, rules, sym, ◌∙◌, ap, subst, ◌+◌}
use Rattle.orders.proofs.Columns.{Pairs, all_pairs, pair_below, next_pair, one_stays}
use Rattle.orders.specs.Swaps.{swapped_if_before}
use Rattle.orders.proofs.utils.inner.bit_reverse_coset_to_circle_domain_order.Goals as goal

pub returns-then-log_size-eq0 : goal.returns-then-log_size-eq0
returns-then-log_size-eq0 c = one_stays c.args.log_size c.args.v.now (omega arith) c.requires.1

pub overflow_mul-y : goal.overflow_mul-y
overflow_mul-y c = let below = pair_below c.args.log_size (omega arith) c.args.v.now c.requires.1 c.loop-x.x _ (omega arith)
    c.bit_reverse_index-y.ensures in
    search rules

pub swap_if_before-requires : goal.swap_if_before-requires
swap_if_before-requires c = let below = pair_below c.args.log_size (omega arith) c.args.v.now c.requires.1 c.loop-x.x _ (omega arith)
    c.bit_reverse_index-y.ensures in
    (omega arith, omega arith)

pub overflow_mul-y-in-loop-x : goal.overflow_mul-y-in-loop-x
overflow_mul-y-in-loop-x c = let below = pair_below c.args.log_size (omega arith) c.args.v.now c.requires.1 c.loop-x.x _ (omega arith)
    c.bit_reverse_index-y.ensures in
    search rules

pub overflow_sub-last-in-loop-x : goal.overflow_sub-last-in-loop-x
overflow_sub-last-in-loop-x c = let below = pair_below c.args.log_size (omega arith) c.args.v.now c.requires.1 c.loop-x.x _ (omega arith)
    c.bit_reverse_index-y.ensures in
    omega arith

pub loop-x-preserved : goal.loop-x-preserved
loop-x-preserved c = let n = c.args.log_size in
    let l = c.args.v.now in
    subst (Pairs n l (c.loop-x.x + 1)) (sym (c.swap_if_before-in-loop-x.ensures ∙ ap (swapped_if_before _ _ _ _) c.swap_if_before.ensures))
    (next_pair n (omega arith) l c.requires.1 c.loop-x.x _ (omega arith) c.bit_reverse_index-y.ensures c.loop-x.v c.loop-x.invariant)

pub returns : goal.returns
returns c = all_pairs c.args.log_size (omega arith) c.args.v.now c.requires.1 c.loop-x.x c.loop-x.v (omega arith) c.loop-x.invariant

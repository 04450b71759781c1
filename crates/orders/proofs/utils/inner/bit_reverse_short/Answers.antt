use Rattle.std.proofs.Common.{arith, rules, sym, subst, ◌+◌}
use Rattle.orders.proofs.Columns.{Words, all_words, next_word, word_room}
use Rattle.orders.proofs.utils.inner.bit_reverse_short.Goals as goal

pub swap_if_before-requires : goal.swap_if_before-requires
swap_if_before-requires c = let long = c.loop-i.invariant.long in
    let room = word_room c.args.log_size c.args.v.now c.requires.1 c.loop-i.i _ (omega arith) c.bit_reverse_index-j.ensures in
    (search rules, omega arith)

pub loop-i-preserved : goal.loop-i-preserved
loop-i-preserved c = let n = c.args.log_size in
    let l = c.args.v.now in
    subst (Words n l (c.loop-i.i + 1)) (sym c.swap_if_before.ensures)
    (next_word n l c.requires.1 c.loop-i.i _ c.loop-i.v (omega arith) c.bit_reverse_index-j.ensures c.loop-i.invariant)

pub returns : goal.returns
returns c = all_words c.args.log_size c.args.v.now c.requires.1 c.loop-i.i c.loop-i.v (omega arith) c.loop-i.invariant

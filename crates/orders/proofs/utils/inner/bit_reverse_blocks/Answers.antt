use Rattle.std.proofs.Common.{arith, rules, sym, ◌∙◌, subst, ◌+◌, ◌*◌}
use Rattle.orders.proofs.Blocks.{Blocks, rooms, swapped_in_block, kept_in_block, block_kept, all_blocks}
use Rattle.orders.proofs.utils.inner.bit_reverse_blocks.Goals as goal
use Rattle.orders.proofs.utils.inner.bit_reverse_blocks.Goals.{then-turn, else-turn}

pub turn-requires-in-loop-column : goal.turn-requires-in-loop-column
turn-requires-in-loop-column c = let rooms = rooms c.args.log_size c.requires.least c.args.v.now c.requires.size_is_pow c.loop-x.x _
    c.loop-row.row c.loop-column.column (omega arith) c.bit_reverse_index-y.ensures (omega arith) (omega arith) in
    search rules

pub swap-requires : goal.swap-requires
swap-requires c = let rooms = rooms c.args.log_size c.requires.least c.args.v.now c.requires.size_is_pow c.loop-x.x _
    c.loop-row.row c.loop-column.column (omega arith) c.bit_reverse_index-y.ensures (omega arith) (omega arith) in
    search rules

pub loop-column-preserved : goal.loop-column-preserved
loop-column-preserved c = let turn = 16 * c.loop-x.x + 4 * c.loop-row.row + (c.loop-column.column + 1) in
    let done = Blocks c.args.log_size c.args.v.now turn in
    elim c.if-turn.branch [
      | then-turn w ↦ subst done (sym (w.v-is ∙ w.swap.ensures.after))
          (swapped_in_block c.args.log_size c.requires.least c.args.v.now c.requires.size_is_pow c.loop-x.x _
          c.loop-row.row c.loop-column.column (omega arith) c.bit_reverse_index-y.ensures (omega arith) (omega arith)
          _ _ c.turn.ensures c.turn-in-loop-column.ensures c.loop-column.v c.loop-column.invariant
          _ _ w.place.ensures w.place-then-turn.ensures w.if-turn.true)
      | else-turn w ↦ subst done (sym w.v-is)
          (kept_in_block c.args.log_size c.requires.least c.args.v.now c.requires.size_is_pow c.loop-x.x _
          c.loop-row.row c.loop-column.column (omega arith) c.bit_reverse_index-y.ensures (omega arith) (omega arith)
          _ _ c.turn.ensures c.turn-in-loop-column.ensures c.loop-column.v c.loop-column.invariant w.if-turn.false)
    ]

pub loop-x-preserved-then-y-x : goal.loop-x-preserved-then-y-x
loop-x-preserved-then-y-x c =
    block_kept c.args.log_size c.requires.least c.args.v.now c.requires.size_is_pow c.loop-x.x _ (omega arith)
    c.bit_reverse_index-y.ensures c.if-y-x.true c.loop-x.v c.loop-x.invariant

pub returns : goal.returns
returns c =
    all_blocks c.args.log_size c.requires.least c.args.v.now c.requires.size_is_pow c.loop-x.x c.loop-x.v
    (omega arith) c.loop-x.invariant

use borrow.Author.Rules.{rules}
use Prim.Native.Nat.{◌/◌, ◌-◌, ◌^◌, ℕ}
use mathlib.Core.Path.{sym, ◌∙◌, ap}
use Rattle.orders.specs.Orders.{bit_reverse_index}
use Rattle.orders.proofs.OrderLaws.{index_from_one}
use Rattle.orders.proofs.Shifts.{reverse-shifted}
use Rattle.orders.proofs.utils.inner.bit_reverse_index.Goals as goal

pub returns-then-log_size-eq0 : goal.returns-then-log_size-eq0
unfolding bit_reverse_index
returns-then-log_size-eq0 c = rw c.if-log_size-eq0.true

pub returns : goal.returns
returns c = let i = c.args.i in
    let n = c.args.log_size in
    ap (λ (t : ℕ). t / 2 ^ (64 - n)) c.reverse_bits.ensures ∙ reverse-shifted i n (search rules) ∙ sym (index_from_one i n (search rules))

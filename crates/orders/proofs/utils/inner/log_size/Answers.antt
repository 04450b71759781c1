use Rattle.std.proofs.Common.{sym, ◌∙◌, eqb-true, count_ones}
use Rattle.orders.proofs.LogSize.{size_found, no_size, no_power, one_bit_is_power}
use Rattle.orders.proofs.utils.inner.log_size.Goals as goal

pub returns-then-is_power_of_two : goal.returns-then-is_power_of_two
returns-then-is_power_of_two c =
    let one = eqb-true (count_ones c.args.size) 1 (sym c.is_power_of_two.ensures ∙ c.if-is_power_of_two.true) in
    let found = c.ilog2.ensures in
    size_found _ _ found.bound (one_bit_is_power _ _ found.power_le found.next_power_gt one)

pub returns-else-is_power_of_two : goal.returns-else-is_power_of_two
returns-else-is_power_of_two c = no_size _ (λ n. no_power n _ (sym c.is_power_of_two.ensures ∙ c.if-is_power_of_two.false))

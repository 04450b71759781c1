use Rattle.std.proofs.Common.{ℕ, ◌<◌, subst, arith}
use Rattle.point_table.proofs.print_window.Goals as goal

pub entry-requires : goal.entry-requires
entry-requires c =
    let is_digit = subst (λ (n : ℕ). c.loop-digit.digit < n) c.digits_of-digits.ensures (omega arith) in
    record { is_window = c.requires; is_digit = is_digit }

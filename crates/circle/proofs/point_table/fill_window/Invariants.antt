use Rattle.circle.proofs.Windows.{WindowThrough}
use Rattle.circle.proofs.point_table.fill_window.Given as goal

abbrev pub invariant-loop-digit : goal.invariant-loop-digit
invariant-loop-digit l = WindowThrough l.digits l.base l.words l.digit l.p

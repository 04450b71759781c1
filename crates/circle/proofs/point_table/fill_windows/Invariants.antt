use Rattle.circle.proofs.Windows.{TableThrough}
use Rattle.circle.proofs.point_table.fill_windows.Given as goal

abbrev pub invariant-loop-window : goal.invariant-loop-window
invariant-loop-window l = TableThrough l.table l.base l.start l.window

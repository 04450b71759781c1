use Rattle.std.proofs.Common.{le-ltb, lt-ltb}
use Rattle.circle.specs.Table.{digits_of}
use Rattle.circle.proofs.point_table.digits_of.Goals as goal

pub returns-then-window : goal.returns-then-window
unfolding digits_of
returns-then-window c = simp (lt-ltb _ _ c.if-window.true)

pub returns-then-window-lt-WINDOWS : goal.returns-then-window-lt-WINDOWS
unfolding digits_of
returns-then-window-lt-WINDOWS c = simp (le-ltb _ _ c.if-window.false, lt-ltb _ _ c.if-window-lt-WINDOWS.true)

pub returns : goal.returns
unfolding digits_of
returns c = simp (le-ltb _ _ c.if-window.false, le-ltb _ _ c.if-window-lt-WINDOWS.false)

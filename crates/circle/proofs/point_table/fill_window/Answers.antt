use Rattle.std.proofs.Common.{arith}
use Rattle.circle.proofs.Windows.{window_start, window_next, window_end}
use Rattle.circle.proofs.point_table.fill_window.Goals as goal

pub loop-digit-init : goal.loop-digit-init
loop-digit-init c = window_start c.requires c.zero-p.ensures

pub loop-digit-preserved : goal.loop-digit-preserved
loop-digit-preserved c = window_next c.loop-digit.invariant (omega arith) c.plus-p.ensures.0 c.plus-p.ensures.1

pub returns : goal.returns
returns c = window_end c.loop-digit.invariant c.loop-digit-test.false

use Rattle.circle.proofs.DoubleAndAdd.{MultipleLoop}
use Rattle.circle.proofs.point.CirclePoint.times.Given as goal

abbrev pub invariant-loop-left : goal.invariant-loop-left
invariant-loop-left g l = MultipleLoop g.F.Field.field g.F.Field.lawful l.fn.self l.fn.n l.res l.cur l.left

abbrev pub decreases-loop-left : goal.decreases-loop-left
decreases-loop-left g l = l.left

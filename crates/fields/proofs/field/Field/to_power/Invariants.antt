use Rattle.fields.proofs.PowerLoop.{PowerLoop}
use Rattle.fields.proofs.field.Field.to_power.Given as goal

abbrev pub invariant-loop-left : goal.invariant-loop-left
invariant-loop-left g l = PowerLoop g.Self.Field.field g.Self.Field.lawful l.fn.self l.fn.n l.res l.base l.left

abbrev pub decreases-loop-left : goal.decreases-loop-left
decreases-loop-left g l = l.left

use Rattle.std.proofs.Common.{arith}
use Rattle.circle.proofs.DoubleAndAdd.{multiple_odd, multiple_even, multiple_end}
use Rattle.circle.proofs.point.CirclePoint.times.Goals.{then-left-eq1, else-left-eq1}
use Rattle.circle.proofs.point.CirclePoint.times.Goals as goal

pub loop-left-preserved : goal.loop-left-preserved
loop-left-preserved g c = let F = g.F.Field.field in
    let L = g.F.Field.lawful in
    let at = c.loop-left in
    let twice = c.plus-cur.ensures in
    elim c.if-left-eq1.branch [
      | then-left-eq1 w ↦ rw w.res-is (multiple_odd F L _ _ at.res at.cur _ _ at.left at.invariant w.if-left-eq1.true
          w.plus-res.ensures.1 w.plus-res.ensures.0 twice.1 twice.0)
      | else-left-eq1 w ↦ rw w.res-is (multiple_even F L _ _ at.res at.cur _ at.left at.invariant (omega arith) twice.1 twice.0)
    ]

pub returns : goal.returns
returns g c = let at = c.loop-left in (
  multiple_end g.F.Field.field g.F.Field.lawful c.args.self c.args.n at.res at.cur at.left at.invariant c.loop-left-test.false,
  at.invariant.res_reduced,
)

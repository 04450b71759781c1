use Rattle.std.proofs.Common.{arith}
use Rattle.fields.proofs.PowerLoop.{power_start, power_odd, power_even, power_end}
use Rattle.fields.proofs.field.Field.to_power.Goals.{then-left-eq1, else-left-eq1}
use Rattle.fields.proofs.field.Field.to_power.Goals as goal

pub loop-left-init : goal.loop-left-init
loop-left-init g c = power_start g.Self.Field.field g.Self.Field.lawful _ _ _ c.requires c.one-res.ensures

pub loop-left-preserved : goal.loop-left-preserved
loop-left-preserved g c = let F = g.Self.Field.field in
    let L = g.Self.Field.lawful in
    let at = c.loop-left in
    let square = c.times-base.ensures in
    elim c.if-left-eq1.branch [
      | then-left-eq1 w ↦ rw w.res-is (power_odd F L _ _ at.res at.base _ _ at.left at.invariant w.if-left-eq1.true
          w.times-res.ensures.1 w.times-res.ensures.0 square.1 square.0)
      | else-left-eq1 w ↦ rw w.res-is (power_even F L _ _ at.res at.base _ at.left at.invariant (omega arith) square.1 square.0)
    ]

pub returns : goal.returns
returns g c = let at = c.loop-left in (
  power_end g.Self.Field.field g.Self.Field.lawful c.args.self c.args.n at.res at.base at.left at.invariant c.loop-left-test.false,
  at.invariant.res_reduced,
)

use Rattle.std.proofs.Common.{ap, ◌∙◌}
use Rattle.circle.specs.Points.{square_double_x}
use Rattle.circle.proofs.point.inner.doubled_x.Goals as goal

pub returns : goal.returns
returns g c = let F = g.F.Field.field in
    let L = g.F.Field.lawful in (
      square_double_x F.words L.K L.representation _ _ _ _ _ c.times-square.ensures.0 c.plus.ensures.0
          (ap F.value c.one.ensures ∙ L.value_of F.words.one) c.minus.ensures.0,
      c.minus.ensures.1,
    )

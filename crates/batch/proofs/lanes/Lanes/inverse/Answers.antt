use Rattle.std.proofs.Common.{ap₂, arith}
use Rattle.batch.specs.Counts.{counted}
use Rattle.batch.proofs.FourLanes.{two_unit, three_unit, whole_unit, rest_unit, rest'_unit, rest''_unit, four_inverses}
use Rattle.batch.proofs.lanes.Lanes.inverse.Goals as goal

pub multiply-whole-requires : goal.multiply-whole-requires
multiply-whole-requires g c = record {
  left = three_unit g.F.Element.units c.requires c.multiply-two.ensures c.multiply-three.ensures;
  right = c.requires.1.1;
}

pub inverted-rest-requires : goal.inverted-rest-requires
inverted-rest-requires g c =
    g.met.F.Column.laws.reduced _
    (whole_unit g.F.Element.units c.requires c.multiply-two.ensures c.multiply-three.ensures c.multiply-whole.ensures)

pub multiply-r3-requires : goal.multiply-r3-requires
multiply-r3-requires g c =
    let u = g.F.Element.units in
    let inverse = g.met.F.Column.laws.inverse _ _ c.inverted-rest.ensures.0 in record {
      left = three_unit u c.requires c.multiply-two.ensures c.multiply-three.ensures;
      right = rest_unit u c.requires c.multiply-two.ensures c.multiply-three.ensures c.multiply-whole.ensures inverse;
    }

pub multiply-rest-requires : goal.multiply-rest-requires
multiply-rest-requires g c =
    let u = g.F.Element.units in
    let inverse = g.met.F.Column.laws.inverse _ _ c.inverted-rest.ensures.0 in record {
      left = rest_unit u c.requires c.multiply-two.ensures c.multiply-three.ensures c.multiply-whole.ensures inverse;
      right = c.requires.1.1;
    }

pub multiply-r2-requires : goal.multiply-r2-requires
multiply-r2-requires g c =
    let u = g.F.Element.units in
    let inverse = g.met.F.Column.laws.inverse _ _ c.inverted-rest.ensures.0 in record {
      left = two_unit u c.requires c.multiply-two.ensures;
      right =
          rest'_unit u c.requires c.multiply-two.ensures c.multiply-three.ensures c.multiply-whole.ensures inverse c.multiply-rest.ensures;
    }

pub multiply-rest-requires-2 : goal.multiply-rest-requires-2
multiply-rest-requires-2 g c =
    let u = g.F.Element.units in
    let inverse = g.met.F.Column.laws.inverse _ _ c.inverted-rest.ensures.0 in record {
      left =
          rest'_unit u c.requires c.multiply-two.ensures c.multiply-three.ensures c.multiply-whole.ensures inverse c.multiply-rest.ensures;
      right = c.requires.1.0;
    }

pub multiply-r1-requires : goal.multiply-r1-requires
multiply-r1-requires g c =
    let u = g.F.Element.units in
    let inverse = g.met.F.Column.laws.inverse _ _ c.inverted-rest.ensures.0 in record {
      left = c.requires.0.0;
      right =
          rest''_unit u c.requires c.multiply-two.ensures c.multiply-three.ensures c.multiply-whole.ensures inverse
          c.multiply-rest.ensures c.multiply-rest-2.ensures;
    }

pub multiply-r0-requires : goal.multiply-r0-requires
multiply-r0-requires g c =
    let u = g.F.Element.units in
    let inverse = g.met.F.Column.laws.inverse _ _ c.inverted-rest.ensures.0 in record {
      left =
          rest''_unit u c.requires c.multiply-two.ensures c.multiply-three.ensures c.multiply-whole.ensures inverse
          c.multiply-rest.ensures c.multiply-rest-2.ensures;
      right = c.requires.0.1;
    }

pub returns : goal.returns
returns g c =
    let inverse = g.met.F.Column.laws.inverse _ _ c.inverted-rest.ensures.0 in record {
      lanes =
          four_inverses g.F.Element.units c.requires c.multiply-two.ensures c.multiply-three.ensures c.multiply-whole.ensures inverse
          c.multiply-rest.ensures c.multiply-rest-2.ensures c.multiply-r3.ensures c.multiply-r2.ensures c.multiply-r1.ensures
          c.multiply-r0.ensures;
      made = ap₂ counted (omega arith) (omega arith);
    }

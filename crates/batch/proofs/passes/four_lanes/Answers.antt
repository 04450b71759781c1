use Rattle.std.proofs.Common.{rules}
use Rattle.batch.specs.Passes.{lane_units}
use Rattle.batch.proofs.Montgomery.{some_elements, whole_unit, from_ones, first_unit}
use Rattle.batch.proofs.InvertedLists.{passes_inverted}
use Rattle.batch.proofs.CountLaws.{four_lanes_counted}
use Rattle.batch.proofs.passes.four_lanes.Goals as goal

pub multiply-requires : goal.multiply-requires
multiply-requires g c = record { left = c.ones.ensures.0; right = first_unit (lane_units g.F.Element.units) c.requires c.get.ensures }

pub products-up-requires-clause-first : goal.products-up-requires-clause-first
products-up-requires-clause-first g c =
    let lanes = lane_units g.F.Element.units in
    from_ones lanes c.multiply.ensures c.ones.ensures (first_unit lanes c.requires c.get.ensures) c.get.ensures

pub inverse-four-requires : goal.inverse-four-requires
inverse-four-requires g c = whole_unit (lane_units g.F.Element.units) c.requires c.products-up.ensures

pub returns : goal.returns
returns g c =
    let u = g.F.Element.units in
    let lanes = lane_units u in
    let p = c.requires in (
      passes_inverted lanes p c.inverses-down.ensures (search rules),
      four_lanes_counted u g.met.F.Column.laws.one_multiplication (some_elements lanes p.elements p.nonempty)
          c.MULTIPLICATIONS.ensures c.products-up.ensures c.inverse-four.ensures c.inverses-down.ensures,
    )

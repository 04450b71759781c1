use Rattle.std.proofs.Common.{◌-◌, ◌∙◌, arith}
use Rattle.batch.proofs.Montgomery.{down_unit, last-unit, down_next, down_end, element_unit}
use Rattle.batch.proofs.passes.inverses.Goals as goal

pub multiply-requires : goal.multiply-requires
multiply-requires g c =
    let u = g.E.Element.units in
    let at = c.loop-k in record {
      left = last-unit u c.requires at.invariant (omega arith) c.get-before.ensures;
      right = down_unit u c.requires at.invariant;
    }

pub multiply-rest-requires : goal.multiply-rest-requires
multiply-rest-requires g c =
    let u = g.E.Element.units in
    let at = c.loop-k in record {
      left = down_unit u c.requires at.invariant;
      right = element_unit u c.requires.elements (at.k - 1) at.invariant.low c.get-a.ensures;
    }

pub loop-k-preserved : goal.loop-k-preserved
loop-k-preserved g c =
    let counted = g.met.E.Element.constants.multiplications_is in
    down_next g.E.Element.units c.requires c.loop-k.invariant (omega arith) c.get-a.ensures c.get-before.ensures c.multiply.ensures
    c.multiply-rest.ensures c.put.ensures (c.MULTIPLICATIONS-multiplications.ensures ∙ counted)
    (c.MULTIPLICATIONS-multiplications-in-loop-k.ensures ∙ counted)

pub returns : goal.returns
returns g c = down_end g.E.Element.units c.requires c.loop-k.invariant c.put-2.ensures (omega arith)

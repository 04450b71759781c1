use Rattle.std.proofs.Common.{◌∙◌, arith}
use Rattle.batch.proofs.Montgomery.{up_start, up_unit, up_next, element_unit}
use Rattle.batch.proofs.passes.products.Goals as goal

pub loop-k-init : goal.loop-k-init
loop-k-init g c = up_start g.E.Element.units c.requires.before c.requires.first c.put.ensures

pub multiply-whole-requires : goal.multiply-whole-requires
multiply-whole-requires g c =
    let u = g.E.Element.units in
    let at = c.loop-k in record {
      left = up_unit u c.requires.before at.invariant;
      right = element_unit u c.requires.before.elements at.k (omega (arith, c.count-k-end.ensures)) c.get.ensures;
    }

pub loop-k-preserved : goal.loop-k-preserved
loop-k-preserved g c =
    up_next g.E.Element.units c.requires.before c.loop-k.invariant (omega (arith, c.count-k-end.ensures)) c.get.ensures
    c.multiply-whole.ensures c.put-in-loop-k.ensures
    (c.MULTIPLICATIONS-multiplications.ensures ∙ g.met.E.Element.constants.multiplications_is)

use Rattle.batch.proofs.Montgomery.{Up}
use Rattle.batch.proofs.passes.products.Given as goal

abbrev pub invariant-loop-k : goal.invariant-loop-k
invariant-loop-k g l =
    let e = g.E.Element in
    Up e.units l.fn.first.multiplications l.column l.dst l.k (e.value l.whole) l.multiplications

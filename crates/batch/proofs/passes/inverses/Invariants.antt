use Rattle.std.proofs.Common.{◌-◌}
use Rattle.batch.proofs.Montgomery.{Down}
use Rattle.batch.proofs.passes.inverses.Given as goal

-- the next element is that before k
abbrev pub invariant-loop-k : goal.invariant-loop-k
invariant-loop-k g l = let e = g.E.Element in Down e.units l.column l.dst (l.k - 1) (e.value l.rest) l.multiplications

use Rattle.transform.proofs.Filling.{Doubling}
use Rattle.transform.proofs.twiddles.double_level.Given as goal

abbrev pub invariant-loop-b : goal.invariant-loop-b
invariant-loop-b l = Doubling l.first l.b l.initial.tree l.tree

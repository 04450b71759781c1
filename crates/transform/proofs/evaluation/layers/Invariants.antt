use Rattle.transform.specs.Tree.{PartlyReduced, reduced_words, Block}
use Rattle.transform.proofs.Layers.{Left}
use Rattle.transform.proofs.evaluation.layers.Given as goal

abbrev pub invariant-loop-t : goal.invariant-loop-t
invariant-loop-t l = (b : Block (reduced_words l.initial.column) l.tree.nodes.now l.i l.k)
    × Left (reduced_words l.initial.column) l.tree.nodes.now l.i
    l.k b l.t l.count l.node (reduced_words l.column) × PartlyReduced l.column

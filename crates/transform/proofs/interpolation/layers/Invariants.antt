use Prim.Native.Nat.{ℕ}
use mathlib.Core.List.{List}
use Rattle.transform.specs.Tree.{PartlyReduced, reduced_words, Block}
use Rattle.transform.proofs.InverseLayers.{Done}
use Rattle.transform.proofs.interpolation.layers.Given as goal

-- whatever block the first two layers are done of, t layers are done of it
abbrev pub invariant-loop-t : goal.invariant-loop-t
invariant-loop-t l = ((block : List ℕ) (b : Block block l.tree.nodes.now l.i l.k) → Done block l.tree.nodes.now l.i l.k b 2 l.initial.count
    l.initial.node (reduced_words l.initial.column) → Done block l.tree.nodes.now l.i l.k b l.t l.count l.node (reduced_words l.column))
    × (PartlyReduced l.initial.column → PartlyReduced l.column)

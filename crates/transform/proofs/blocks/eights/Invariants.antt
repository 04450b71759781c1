use Prim.Native.Nat.{◌+◌, ◌*◌}
use lib.ListN.{get_or, take}
use Rattle.transform.specs.Tree.{Each, of_eight}
use Rattle.transform.proofs.BlockLoops.{PartlyTurn}
use Rattle.transform.proofs.blocks.eights.Given as goal

-- the words before block b are as two layers leave them
abbrev pub invariant-loop-b : goal.invariant-loop-b
invariant-loop-b g l = PartlyTurn l.count 8
    (λ j. of_eight g.D.Direction.of_four (get_or l.tree.nodes.now (2 * j) 0) (get_or l.tree.nodes.now (2 * j + 1) 0))
    l.node l.initial.column l.b l.column × Each g.D.Direction.fits (take (8 * l.b) l.column)

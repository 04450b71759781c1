use Prim.Native.Nat.{◌+◌, ◌*◌}
use mathlib.Core.Path.{◌≡◌}
use lib.ListN.{get_or}
use Rattle.transform.proofs.BlockLoops.{PartlyTurn}
use Rattle.transform.proofs.blocks.layer.Given as goal

abbrev pub invariant-loop-b : goal.invariant-loop-b
invariant-loop-b g l = (l.start ≡ l.b * (l.half + l.half)) × PartlyTurn l.count (l.half + l.half)
    (λ j. g.D.Direction.of_halves l.half (get_or l.tree.nodes.now j 0)) l.node l.initial.column l.b l.column

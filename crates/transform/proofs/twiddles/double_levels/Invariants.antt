use Prim.Native.Nat.{◌+◌, ◌≤◌}
use mathlib.Core.Path.{◌≡◌}
use lib.ListN.{length}
use Rattle.transform.specs.Tree.{LinesFrom}
use Rattle.transform.proofs.twiddles.double_levels.Given as goal

abbrev pub invariant-loop-m : goal.invariant-loop-m
invariant-loop-m l = (l.m + 2 ≤ l.log_size) × (length l.tree ≡ length l.initial.tree) × LinesFrom l.log_size l.m l.tree

use mathlib.Core.Path.{◌≡◌}
use lib.ListN.{length}
use Rattle.fields.specs.Words.{words31}
use Rattle.column.specs.Butterflies.{butterfly_sum, butterfly_difference}
use Rattle.transform.specs.Tree.{PartlyReduced, reduced_words}
use Rattle.transform.proofs.Halves.{halfway}
use Rattle.transform.proofs.evaluation.EvaluationDirection.butterflies.Given as goal

-- both halves are written up to q
abbrev pub invariant-loop-q : goal.invariant-loop-q
invariant-loop-q l = (reduced_words l.block ≡ halfway (butterfly_sum words31 l.w) (butterfly_difference words31
    l.w) (reduced_words l.initial.block) l.half l.q) × (length l.block ≡ length l.initial.block) × PartlyReduced l.block

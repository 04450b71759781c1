use mathlib.Core.Path.{◌≡◌}
use lib.ListN.{length}
use Rattle.fields.specs.Words.{words31}
use Rattle.column.specs.Butterflies.{inverse_sum, inverse_difference}
use Rattle.transform.specs.Tree.{Each, reduced_words}
use Rattle.transform.proofs.Halves.{halfway}
use Rattle.transform.proofs.interpolation.inverse_butterflies.Given as goal

-- both halves are written up to q
abbrev pub invariant-loop-q : goal.invariant-loop-q
invariant-loop-q g l = (reduced_words l.block ≡ halfway (inverse_sum words31) (inverse_difference words31 l.t)
    (reduced_words l.initial.block) l.half l.q) × (length l.block ≡ length l.initial.block) × Each g.R.Reduction.fits l.block

use Prim.Native.Nat.{◌-◌}
use mathlib.Core.Path.{◌∙◌, ap}
use Rattle.algebra.specs.M31.{P}
use Rattle.fields.specs.Words.{words31}
use Rattle.column.specs.Butterflies.{butterflies}
use Rattle.transform.specs.Elements.{column_words}
use Rattle.transform.proofs.Partly.{reduced_same}
use Rattle.transform.proofs.SmallSizes.{two_reduced, two_evaluated}
use Rattle.transform.proofs.evaluation.evaluate_two.Goals as goal

pub returns : goal.returns
returns c = let second = c.partial_reduce-second in
    let first = c.partial_reduce-first in
    let written = c.butterflies in
    let column = c.args.column.now in
    two_evaluated column _ c.requires
    (two_reduced written.new.block (written.auto.block ∙ c.requires.size) first.result second.result first.ensures second.ensures
    ∙ written.ensures.0 ∙ ap (butterflies words31 1 (P - 1)) (reduced_same column (column_words 1 column c.requires)))

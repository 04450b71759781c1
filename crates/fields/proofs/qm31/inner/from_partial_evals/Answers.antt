use Rattle.std.proofs.Common.{ap, ◌∙◌, ap₂}
use Rattle.fields.specs.Words.{quartic_words}
use Rattle.fields.specs.QM31.{partial_evals}
use Rattle.fields.proofs.qm31.inner.from_partial_evals.Goals as goal

pub returns : goal.returns
unfolding partial_evals
returns c = (
  c.plus-3.ensures.0
      ∙ ap₂ quartic_words.add (c.plus-2.ensures.0 ∙ ap₂ quartic_words.add (c.plus.ensures.0 ∙ ap (quartic_words.add _) c.times-bi.ensures.0) c.times-cu.ensures.0) c.times-diu.ensures.0,
  c.plus-3.ensures.1,
)

use Rattle.std.proofs.Common.{◌∙◌}
use Rattle.algebra.specs.Tower.{cm31, two_plus_i}
use Rattle.fields.specs.Words.{words31, complex_words}
use Rattle.fields.specs.CM31.{pair_of}
use Rattle.fields.specs.Representation.{mul-embed}
use Rattle.fields.specs.Inverse.{cm31_representation}
use Rattle.fields.specs.PairLaws.{pair_path}
use Rattle.fields.proofs.qm31.inner.mul_cm31.Goals as goal

pub returns : goal.returns
returns c = (
  pair_path c.mul.ensures.0 c.mul-2.ensures.0
      ∙ mul-embed complex_words cm31 cm31_representation (two_plus_i words31) (pair_of c.args.a.0)
      (pair_of c.args.a.1) (pair_of c.args.b),
  (c.mul.ensures.1, c.mul-2.ensures.1),
)

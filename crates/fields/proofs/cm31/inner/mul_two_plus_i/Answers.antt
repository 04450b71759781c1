use Rattle.fields.specs.PairLaws.{product_two_plus_i}
use Rattle.fields.specs.CM31.{pair_of}
use Rattle.fields.proofs.cm31.inner.mul_two_plus_i.Goals as goal

pub returns : goal.returns
returns c = (
  product_two_plus_i (pair_of c.args.a) c.plus-re.ensures.0 c.plus-im.ensures.0 c.minus.ensures.0 c.plus.ensures.0,
  (c.minus.ensures.1, c.plus.ensures.1),
)

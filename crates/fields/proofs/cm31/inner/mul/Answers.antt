use Rattle.std.proofs.Common.{rules}
use Rattle.fields.specs.CM31.{pair_of}
use Rattle.fields.proofs.ProductSums.{complex-product}
use Rattle.fields.proofs.cm31.inner.mul.Goals as goal

pub returns : goal.returns
returns c = (
  complex-product (pair_of c.args.a)
      (pair_of c.args.b)
      c.product-ac.ensures.0 c.product-bd.ensures.0
      c.product-ad.ensures.0 c.product-bc.ensures.0
      c.product-bd.ensures.1 c.reduce_two-re.ensures c.reduce_two-im.ensures,
  (search rules, search rules),
)

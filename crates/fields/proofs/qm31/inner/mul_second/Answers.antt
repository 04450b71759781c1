use Rattle.std.proofs.Common.{rules}
use Rattle.fields.specs.CM31.{pair_of}
use Rattle.fields.proofs.ProductSums.{second_part}
use Rattle.fields.proofs.qm31.inner.mul_second.Goals as goal

pub returns : goal.returns
returns c = (
  second_part (pair_of c.args.a.0) (pair_of c.args.a.1) (pair_of c.args.b.0) (pair_of c.args.b.1)
      c.product.ensures.0 c.product-2.ensures.0 c.product-3.ensures.0 c.product-4.ensures.0
      c.product-5.ensures.0 c.product-6.ensures.0 c.product-7.ensures.0 c.product-8.ensures.0
      c.product-3.ensures.1 c.product-4.ensures.1 c.reduce_wide-re.ensures c.reduce_wide-im.ensures,
  (search rules, search rules),
)

use Rattle.std.proofs.Common.{rules}
use Rattle.fields.specs.CM31.{pair_of}
use Rattle.fields.proofs.ProductSums.{first_part}
use Rattle.fields.proofs.qm31.inner.mul_first.Goals as goal

pub returns : goal.returns
returns c = (
  first_part (pair_of c.args.a.0) (pair_of c.args.a.1) (pair_of c.args.b.0) (pair_of c.args.b.1) c.mul-bd.ensures.0
      c.product-plus.ensures.0 c.product-minus.ensures.0 c.product-left.ensures.0 c.product-right.ensures.0
      c.product-minus.ensures.1 c.mul-bd.ensures.1.1 c.reduce_wide-re.ensures c.reduce_wide-im.ensures,
  (search rules, search rules),
)

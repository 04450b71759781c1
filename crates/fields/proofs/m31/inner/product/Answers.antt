use Rattle.std.proofs.Common.{refl, arith}
use Rattle.fields.proofs.Reductions.{product_below}
use Rattle.fields.proofs.m31.inner.product.Goals as goal

pub overflow_mul-result : goal.overflow_mul-result
overflow_mul-result c = let p = product_below c.args.a c.args.b (omega arith) c.requires.1 in omega arith

pub returns : goal.returns
returns c = (refl, product_below c.args.a c.args.b (omega arith) c.requires.1)

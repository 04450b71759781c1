use Rattle.std.proofs.Common.{◌*◌, ◌∙◌, arith}
use Rattle.fields.proofs.Reductions.{product_below, halves, halves_below}
use Rattle.fields.proofs.m31.inner.mul_partly.Goals as goal

pub overflow_mul-wide : goal.overflow_mul-wide
overflow_mul-wide c = omega (arith, product_below c.args.a c.args.b c.requires.0 c.requires.1)

pub overflow_cast-high : goal.overflow_cast-high
overflow_cast-high c = omega (arith, product_below c.args.a c.args.b c.requires.0 c.requires.1)

pub overflow_add-low : goal.overflow_add-low
overflow_add-low c = omega (arith, halves_below (c.args.a * c.args.b) (product_below c.args.a c.args.b c.requires.0 c.requires.1))

pub reduce_partly-requires : goal.reduce_partly-requires
reduce_partly-requires c = omega (arith, halves_below (c.args.a * c.args.b) (product_below c.args.a c.args.b c.requires.0 c.requires.1))

pub returns : goal.returns
returns c = let s = c.args in (c.reduce_partly.ensures.0 ∙ halves (s.a * s.b), c.reduce_partly.ensures.1)

use mathlib.Core.Path.{◌∙◌}
use native.Mathlib.Omega.{arith}
use Rattle.transform.proofs.Scaling.{rotated_most, rotated_bits}
use Rattle.transform.proofs.interpolation.rotated.Goals as goal

pub partial_reduce-requires : goal.partial_reduce-requires
partial_reduce-requires c = omega (arith, rotated_most c.args.a c.args.s c.requires.0 c.requires.2)

pub returns : goal.returns
returns c = c.partial_reduce.ensures ∙ rotated_bits c.args.a c.args.s c.requires.0 c.requires.2

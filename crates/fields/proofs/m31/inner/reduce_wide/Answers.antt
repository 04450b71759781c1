use Rattle.std.proofs.Common.{◌∙◌, arith, rules}
use Rattle.fields.proofs.Reductions.{halves_small, halves_twice}
use Rattle.fields.proofs.m31.inner.reduce_wide.Goals as goal

pub overflow_add-low : goal.overflow_add-low
overflow_add-low c = let s = halves_small c.args.val (search rules) in omega arith

pub partial_reduce-requires : goal.partial_reduce-requires
partial_reduce-requires c = halves_small c.args.val (search rules)

pub returns : goal.returns
returns c = c.partial_reduce.ensures ∙ halves_twice c.args.val

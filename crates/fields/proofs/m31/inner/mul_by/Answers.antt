use Rattle.std.proofs.Common.{ℕ, ◌*◌, ◌%◌, ap, ◌∙◌}
use Rattle.algebra.specs.M31.{P}
use Rattle.fields.proofs.Reductions.{halves}
use Rattle.fields.proofs.m31.inner.mul_by.Goals as goal

pub partial_reduce-requires : goal.partial_reduce-requires
partial_reduce-requires c = c.halves_by.ensures.1

pub returns : goal.returns
returns c = let sum = c.halves_by in
    let s = c.args in
    c.partial_reduce.ensures ∙ ap (λ (t : ℕ). t % P) sum.ensures.0 ∙ halves (s.a * s.w)

use Rattle.std.proofs.Common.{◌≡◌, ℕ, ◌+◌, ◌^◌, sym, ap, ◌∙◌, add-one, arith, rules}
use native.Mathlib.Nat as N
use Rattle.fields.specs.Words.{pow_p}
use Rattle.fields.proofs.Powers.{chain_mul, pow_p-one}
use Rattle.fields.proofs.m31.inner.sqn.Goals as goal

twice : (k : ℕ) → 2 ^ k + 2 ^ k ≡ 2 ^ (k + 1)
twice k = omega (arith, N.pow-suc 2 k, ap (λ (t : ℕ). 2 ^ t) (add-one k))

pub loop-init : goal.loop-init
loop-init c = (c.requires, sym (pow_p-one c.args.v c.requires))

pub loop-preserved : goal.loop-preserved
loop-preserved c = let at = c.loop in (
  search rules,
  chain_mul c.args.v (2 ^ at.counter) (2 ^ at.counter) at.invariant.1 at.invariant.1 c.mul-square.ensures
      ∙ ap (pow_p c.args.v) (twice at.counter),
)

pub mul-square-requires : goal.mul-square-requires
mul-square-requires c = (c.loop.invariant.0, c.loop.invariant.0)

pub returns : goal.returns
returns c = let all : c.loop.counter ≡ c.args.n = omega arith in c.loop.invariant.1 ∙ ap (λ (t : ℕ). pow_p c.args.v (2 ^ t)) all

use Rattle.std.proofs.Common.{refl, ◌≡◌, ℕ, ◌+◌, ◌*◌, ◌/◌, ◌%◌, ◌<◌, ◌≤◌, ap, ◌∙◌, arith}
use Rattle.algebra.specs.M31.{P}
use Rattle.fields.proofs.Reductions.{product_below, doubled_product, doubled_halves, halves_below}
use Rattle.fields.proofs.m31.inner.halves_by.Goals as goal

-- the halves of a doubled product, from its parts
parts : (a w v : ℕ) → a ≤ P → w < P → v ≡ 2 * (a * w) → (v % 4294967296 / 2 + v / 4294967296 ≡ (a * w) % 2147483648 + (a * w) / 2147483648) × (v % 4294967296 / 2 + v / 4294967296 < 2 * P)
parts a w v ha hw e =
    let is : v % 4294967296 / 2 + v / 4294967296 ≡ (a * w) % 2147483648 + (a * w) / 2147483648 =
    ap (λ (t : ℕ). t % 4294967296 / 2 + t / 4294967296) e ∙ doubled_halves (a * w) in
    (is, omega (arith, is, halves_below (a * w) (product_below a w ha hw)))

pub overflow_mul-wide : goal.overflow_mul-wide
overflow_mul-wide c = let p = doubled_product c.args.a c.args.w _ c.requires.0 c.requires.1 refl in
    omega (arith, p.0, p.1)

pub overflow_cast-result-2 : goal.overflow_cast-result-2
overflow_cast-result-2 c = let p = doubled_product c.args.a c.args.w _ c.requires.0 c.requires.1 refl in
    omega (arith, p.0, p.1)

pub overflow_add-result : goal.overflow_add-result
overflow_add-result c = let p = doubled_product c.args.a c.args.w _ c.requires.0 c.requires.1 refl in
    omega (arith, (parts c.args.a c.args.w _ c.requires.0 c.requires.1 p.0).1)

pub returns : goal.returns
returns c = let p = doubled_product c.args.a c.args.w _ c.requires.0 c.requires.1 refl in
    parts c.args.a c.args.w _ c.requires.0 c.requires.1 p.0

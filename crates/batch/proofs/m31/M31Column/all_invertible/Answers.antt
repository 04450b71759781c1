use Rattle.std.proofs.Common.{◌≡◌, ℕ, length, refl, subst, arith, ltb-true}
use Rattle.fields.specs.Seen.{Seen, seen_next}
use Rattle.batch.proofs.Invertible.{around, seen_passed}
use Rattle.batch.proofs.m31.M31Column.all_invertible.Goals as goal

pub loop-word-preserved : goal.loop-word-preserved
loop-word-preserved c = seen_next around _ _ _ _ c.loop-word.invariant refl

pub returns : goal.returns
returns c =
    let at = c.loop-word in
    let words = c.args.words.now in
    let whole : at.word-index ≡ length words = omega (arith, c.loop-word-test.false) in
    λ e. seen_passed words at.seen (λ j. (c.type_inv.words j).fits) (subst (λ (i : ℕ). Seen around words i at.seen) whole at.invariant)
    (ltb-true at.seen 2147483648 e)

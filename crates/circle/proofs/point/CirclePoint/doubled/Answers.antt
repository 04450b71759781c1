use Rattle.std.proofs.Common.{ℕ, refl, sym, ap, ◌∙◌, add-one}
use Rattle.algebra.specs.Doubling.{iterate, iterate-suc, double}
use Rattle.circle.specs.CirclePoint.{point_of}
use Rattle.circle.proofs.point.CirclePoint.doubled.Goals as goal

pub loop-init : goal.loop-init
unfolding iterate
loop-init g c = (c.requires, refl)

pub loop-preserved : goal.loop-preserved
loop-preserved g c = let F = g.F.Field.field in
    let at = c.loop in (
      c.plus-res.ensures.1,
      c.plus-res.ensures.0 ∙ ap (double F.words) at.invariant.1
          ∙ sym (ap (λ (n : ℕ). iterate n (double F.words) (point_of F c.args.self)) (add-one at.counter)
          ∙ iterate-suc at.counter (double F.words) (point_of F c.args.self)),
    )

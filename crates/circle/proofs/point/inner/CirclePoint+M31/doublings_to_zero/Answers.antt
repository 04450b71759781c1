use Rattle.std.proofs.Common.{◌≡◌, ℕ, sym, refl, ap, ◌∙◌, add-one, arith, rules, eq-eqb, ne_eqb}
use Rattle.algebra.specs.Circle.{double_x}
use Rattle.algebra.specs.Doubling.{iterate, iterate-suc}
use Rattle.fields.specs.Words.{words31}
use Rattle.fields.specs.SearchLaws.{none_start, none_next, first_at, first_none}
use Rattle.circle.specs.Point.{point_of}
use Rattle.circle.specs.LogOrder.{is_one_after, log_order_x}
use Rattle.circle.proofs.point.inner.CirclePoint+M31.doublings_to_zero.Goals as goal

pub loop-count-init : goal.loop-count-init
unfolding iterate
loop-count-init c = (c.requires.0.0, refl, none_start _)

pub returns-then-x-eq1 : goal.returns-then-x-eq1
returns-then-x-eq1 c = let at = c.loop-count in
    let x = c.args.self.x.0 in
    first_at (is_one_after x) 31 at.count (search rules) at.invariant.2
    (eq-eqb (iterate at.count (double_x words31) x) 1 (sym at.invariant.1 ∙ search rules))
    ∙ sym (log_order_x (point_of c.args.self) c.requires.0 c.requires.1)

pub loop-count-preserved : goal.loop-count-preserved
loop-count-preserved c = let at = c.loop-count in
    let x = c.args.self.x.0 in (
      c.doubled_x-x.ensures.1,
      c.doubled_x-x.ensures.0 ∙ ap (double_x words31) at.invariant.1
          ∙ sym (ap (λ (n : ℕ). iterate n (double_x words31) x) (add-one at.count) ∙ iterate-suc at.count (double_x words31) x),
      none_next (is_one_after x) at.count at.invariant.2
          (ne_eqb (iterate at.count (double_x words31) x) 1 (λ e. c.if-x-eq1.false (at.invariant.1 ∙ e))),
    )

pub returns : goal.returns
returns c = let at = c.loop-count in
    let all : 31 ≡ at.count = omega arith in
    all ∙ first_none (is_one_after c.args.self.x.0) 31 at.count (omega arith) at.invariant.2
    ∙ sym (log_order_x (point_of c.args.self) c.requires.0 c.requires.1)

use Rattle.std.proofs.Common.{sym, ap, ◌∙◌, subst, arith, lit<}
use Rattle.circle.specs.Point.{point_of, Reduced}
use Rattle.circle.specs.Index.{index_point}
use Rattle.circle.specs.IndexPoints.{index_reduce}
use Rattle.fields.specs.declared.m31.M31.{M31}
use Rattle.circle.specs.declared.point.CirclePoint.{CirclePoint}
use Rattle.circle.proofs.Digits.{sum_start, rest_start, rest_next, sum_next, sum_end, digit_in_table}
use Rattle.circle.proofs.index.inner.to_point.Goals as goal

pub loop-window-init : goal.loop-window-init
loop-window-init c = let zero = c.zero-sum.ensures in (
  subst (λ (p : CirclePoint M31). Reduced p) (sym zero) (lit< tt, lit< tt),
  rest_start c.reduce-rest.result.0,
  ap (λ (p : CirclePoint M31). point_of p) zero ∙ sum_start c.reduce-rest.result.0,
)

pub entry-requires : goal.entry-requires
entry-requires c = let at = c.loop-window in
    digit_in_table c.reduce-rest.result.0 at.window at.rest (omega arith) (omega arith) at.invariant.1

pub loop-window-preserved : goal.loop-window-preserved
loop-window-preserved c = let at = c.loop-window in
    let k = c.reduce-rest.result.0 in (
      c.plus-sum.ensures.1,
      rest_next k at.window at.rest at.invariant.1,
      sum_next k at.window at.rest (point_of at.sum) (point_of c.plus-sum.result) (point_of c.entry.result) at.invariant.1
          at.invariant.2 c.entry.ensures.0 c.plus-sum.ensures.0,
    )

pub returns : goal.returns
returns c = let at = c.loop-window in (
  at.invariant.2 ∙ sum_end c.reduce-rest.result.0 at.window (omega arith) (omega arith) ∙ ap index_point c.reduce-rest.ensures
      ∙ index_reduce c.args.k.0,
  at.invariant.0,
)

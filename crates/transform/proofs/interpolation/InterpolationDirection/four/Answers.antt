use mathlib.Core.Path.{refl, ◌∙◌}
use Rattle.transform.specs.Tree.{reduced_words}
use Rattle.transform.proofs.Partly.{reduced-length, partly_inverse_sum, partly_inverse_difference}
use Rattle.transform.proofs.Fours.{four_reduced, four_partly, four_interpolated, chosen_reduced}
use Rattle.transform.proofs.interpolation.InterpolationDirection.four.Goals as goal

pub returns : goal.returns
returns c = let block = c.args.block.now in
    let a = chosen_reduced c.args.negated block 1 0 _ c.in_order-a.ensures.0 in
    let b = chosen_reduced c.args.negated block 0 1 _ c.in_order-a.ensures.1 in
    let e = chosen_reduced c.args.negated block 2 3 _ c.in_order-c.ensures.0 in
    let d = chosen_reduced c.args.negated block 3 2 _ c.in_order-c.ensures.1 in
    let p = partly_inverse_sum _ _ _ _ a b _ c.add_partly-p.ensures.0 in
    let q = partly_inverse_difference _ _ _ _ a b c.args.v _ _ c.sub_partly.ensures.0 c.mul_partly-q.ensures.0 in
    let m = partly_inverse_sum _ _ _ _ e d _ c.add_partly-m.ensures.0 in
    let n = partly_inverse_difference _ _ _ _ e d c.args.v _ _ c.sub_partly-2.ensures.0 c.mul_partly-n.ensures.0 in
    let first = c.add_partly.ensures in
    let second = c.add_partly-2.ensures in
    let third = c.mul_partly.ensures in
    let fourth = c.mul_partly-2.ensures in (
      four_reduced block _ _ _ _
          ∙ four_interpolated c.args.w c.args.v (reduced_words block) (reduced-length block ∙ c.requires.0) _ _ _ _ c.args.negated
          _ _ _ _ (refl, refl) (refl, refl)
          (partly_inverse_sum _ _ _ _ p m _ first.0) (partly_inverse_sum _ _ _ _ q n _ second.0)
          (partly_inverse_difference _ _ _ _ p m c.args.w _ _ c.sub_partly-3.ensures.0 third.0)
          (partly_inverse_difference _ _ _ _ q n c.args.w _ _ c.sub_partly-4.ensures.0 fourth.0),
      four_partly block _ _ _ _ c.requires.3 first.1 second.1 third.1 fourth.1,
    )

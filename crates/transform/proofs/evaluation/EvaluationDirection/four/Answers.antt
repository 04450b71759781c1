use Prim.Native.Nat.{ℕ}
use mathlib.Core.Path.{◌∙◌, ap}
use Rattle.fields.specs.Words.{words31}
use Rattle.column.specs.Butterflies.{butterfly_sum, butterfly_difference}
use Rattle.transform.specs.Tree.{Words, reduced_words}
use Rattle.transform.proofs.WordLaws.{words_evaluate}
use Rattle.transform.proofs.Partly.{reduced-length, reduced_below, reduced_same, product_partly, reduced-sum, reduced_difference}
use Rattle.transform.proofs.Fours.{upper_sum, upper_difference, lower-sum, lower_difference_lem}
use Rattle.transform.proofs.Fours.{upper-sum, upper_difference_lem, four_evaluated}
use Rattle.transform.proofs.evaluation.EvaluationDirection.four.Goals as goal

pub returns : goal.returns
returns c = let w = c.args.w in
    let v = c.args.v in
    let block = c.args.block.now in
    let a = c.partial_reduce-a in
    let first = c.mul_partly-c in
    let second = c.mul_partly-d in
    let p = lower-sum w block a.result first.result a.ensures first.ensures.0 _ c.add-p.ensures in
    let q = upper-sum w block second.result second.ensures.0 _ c.add_partly.ensures.0 in
    let m = lower_difference_lem w block a.result first.result a.ensures first.ensures.0 _ c.sub-m.ensures in
    let n = upper_difference_lem w block second.result second.ensures.0 _ c.sub_partly.ensures.0 in
    let third = product_partly _ _ _ _ c.mul_partly-q.ensures.0 q in
    let fourth = product_partly _ _ _ _ c.mul_partly-n.ensures.0 n in
    let is = four_evaluated w v block (reduced_words block) c.requires.0 (reduced-length block ∙ c.requires.0) _ _ _ _ c.args.negated
    _ _ _ _
    (reduced-sum _ _ _ _ third _ c.add.ensures ∙ ap (λ (t : ℕ). butterfly_sum words31 v t (upper_sum w (reduced_words block))) p)
    (reduced_difference _ _ _ _ third _ c.sub.ensures
    ∙ ap (λ (t : ℕ). butterfly_difference words31 v t (upper_sum w (reduced_words block))) p)
    (reduced-sum _ _ _ _ fourth _ c.add-2.ensures
    ∙ ap (λ (t : ℕ). butterfly_sum words31 v t (upper_difference w (reduced_words block))) m)
    (reduced_difference _ _ _ _ fourth _ c.sub-2.ensures
    ∙ ap (λ (t : ℕ). butterfly_difference words31 v t (upper_difference w (reduced_words block))) m)
    c.in_order-first.ensures c.in_order-third.ensures in
    let words : Words _ = λ k. rw is (words_evaluate 2 _ 0 (reduced_words block) (reduced_below block) k) in
    (reduced_same _ words ∙ is, words)

use Prim.Native.Nat.{ℕ, ◌+◌, ◌%◌}
use mathlib.Core.Path.{sym, ◌∙◌, ap, ap₂}
use mathlib.Core.List.{List}
use native.Mathlib.Omega.{arith}
use lib.ListN.{set, length-set}
use Rattle.algebra.specs.M31.{P}
use Rattle.fields.specs.Words.{words31}
use Rattle.column.specs.Butterflies.{butterfly_sum, butterfly_difference, butterflies}
use Rattle.transform.specs.Tree.{reduced_words}
use Rattle.transform.proofs.Partly.{partly_set, reduced-length, reduced-at, reduced-set, partly_sum, partly_difference}
use Rattle.transform.proofs.Halves.{halfway_end, halfway_next}
use Rattle.transform.proofs.evaluation.EvaluationDirection.butterflies.Goals as goal

pub loop-q-preserved : goal.loop-q-preserved
loop-q-preserved c = let s = c in
    let block = c.loop-q.block in
    let q = c.loop-q.q in
    let other = s.args.half + q in
    let sum = c.add_partly in
    let difference = c.sub_partly in
    let product = c.mul_by_partly-v.ensures.0 in
    let first = sym (reduced-at block q) in
    let second = sym (reduced-at block other) in (
      reduced-set (set block q sum.result) other difference.result ∙ ap (λ (r : List ℕ). set r other (difference.result % P))
          (reduced-set block q sum.result)
          ∙ halfway_next (butterfly_sum words31 s.args.w) (butterfly_difference words31 s.args.w) (reduced_words s.args.block.now)
          s.args.half
          (reduced-length s.args.block.now ∙ s.requires.0) (reduced_words block) q (omega arith) c.loop-q.invariant.0
          (sum.result % P) (difference.result % P)
          (partly_sum _ _ _ _ product _ sum.ensures.0 ∙ ap₂ (butterfly_sum words31 s.args.w) first second)
          (partly_difference _ _ _ _ product _ difference.ensures.0 ∙ ap₂ (butterfly_difference words31 s.args.w) first second),
      simp (length-set) c.loop-q.invariant.1,
      partly_set (set block q sum.result) other difference.result (partly_set block q sum.result c.loop-q.invariant.2 sum.ensures.1)
          difference.ensures.1,
    )

pub returns : goal.returns
unfolding butterflies
returns c = let block = c.args.block.now in (
  c.loop-q.invariant.0
      ∙ halfway_end (butterfly_sum words31 c.args.w) (butterfly_difference words31 c.args.w) (reduced_words block) c.args.half
      (reduced-length block ∙ c.requires.0)
      c.loop-q.q (omega arith) (omega arith),
  c.loop-q.invariant.2,
)

use Prim.Native.Nat.{ℕ, ◌+◌, ◌%◌}
use mathlib.Core.Path.{sym, ◌∙◌, ap}
use mathlib.Core.List.{List}
use native.Mathlib.Omega.{arith}
use lib.ListN.{set, length-set}
use Rattle.algebra.specs.M31.{P}
use Rattle.fields.specs.Words.{words31}
use Rattle.column.specs.Butterflies.{inverse_sum, inverse_difference, inverse_butterflies}
use Rattle.transform.specs.Tree.{reduced_words}
use Rattle.transform.proofs.Partly.{reduced-length, reduced-at, reduced-set, partly_inverse_sum, partly_inverse_difference}
use Rattle.transform.proofs.WordLaws.{each_set}
use Rattle.transform.proofs.Halves.{halfway_end, halfway_next}
use Rattle.transform.proofs.interpolation.inverse_butterflies.Goals as goal

pub loop-q-preserved : goal.loop-q-preserved
loop-q-preserved g c = let s = c in
    let fits = g.R.Reduction.fits in
    let none = g.met.R.Reduction.zero_fits in
    let block = c.loop-q.block in
    let q = c.loop-q.q in
    let other = s.args.half + q in
    let product = c.mul_by in
    let difference = c.sub.ensures.0 in
    let sum = c.add in
    let first = sym (reduced-at block q) in
    let second = sym (reduced-at block other) in (
      reduced-set (set block q sum.result) other product.result ∙ ap (λ (r : List ℕ). set r other (product.result % P)) (reduced-set
          block q sum.result)
          ∙ halfway_next (inverse_sum words31) (inverse_difference words31 s.args.t) (reduced_words s.args.block.now) s.args.half
          (reduced-length s.args.block.now ∙ s.requires.0) (reduced_words block) q (omega arith) c.loop-q.invariant.0
          (sum.result % P) (product.result % P)
          (partly_inverse_sum _ _ _ _ first second _ sum.ensures.0) (partly_inverse_difference _ _ _ _ first second s.args.t _ _
          difference product.ensures.0),
      simp (length-set) c.loop-q.invariant.1,
      each_set fits none (set block q sum.result) other product.result
          (each_set fits none block q sum.result c.loop-q.invariant.2 sum.ensures.1)
          product.ensures.1,
    )

pub returns : goal.returns
unfolding inverse_butterflies
returns g c = let block = c.args.block.now in (
  c.loop-q.invariant.0
      ∙ halfway_end (inverse_sum words31) (inverse_difference words31 c.args.t) (reduced_words block) c.args.half (reduced-length
      block ∙ c.requires.0)
      c.loop-q.q (omega arith) (omega arith),
  c.loop-q.invariant.2,
)

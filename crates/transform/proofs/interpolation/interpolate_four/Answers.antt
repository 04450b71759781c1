use Prim.Native.Nat.{ℕ, ◌<◌}
use mathlib.Core.Path.{◌≡◌, ◌∙◌, ap}
use Rattle.algebra.specs.M31.{P}
use Rattle.fields.specs.Words.{add_p, neg_p, words31}
use Rattle.fields.specs.Inverse.{m31_representation}
use Rattle.circle.specs.Point.{point_of}
use Rattle.column.specs.Butterflies.{interpolate_block}
use Rattle.transform.specs.Tree.{reduced_words, pair_twiddle}
use Rattle.transform.proofs.SmallSizes.{four_interpolated_values, two_start}
use Rattle.transform.proofs.interpolation.interpolate_four.Goals as goal

-- a sum modulo P is a word
sum_below : (r x : ℕ) → r ≡ add_p x x → r < P
sum_below r x e = rw e (m31_representation.add-reduced x x)

pub returns : goal.returns
returns c = let four = c.four in
    let sum = c.add-inverse in
    let point = c.power_point-x in
    four_interpolated_values point.result.x.0 (two_start (point_of point.result) point.ensures.0) c.args.column.now
    four.new.block c.requires
    (four.ensures.0 ∙ ap (λ (x : ℕ). interpolate_block words31 2 (pair_twiddle x (neg_p x) x) 0 (reduced_words c.args.column.now))
    sum.ensures) four.ensures.1

use Rattle.fields.specs.Words.{neg_p, words31}
use Rattle.column.specs.Butterflies.{evaluate_block}
use Rattle.circle.specs.Point.{point_of}
use Rattle.transform.specs.Tree.{pair_twiddle}
use Rattle.transform.specs.Elements.{column_words}
use Rattle.transform.proofs.Partly.{stands_for}
use Rattle.transform.proofs.SmallSizes.{four_evaluated_values, two_start}
use Rattle.transform.proofs.evaluation.evaluate_four.Goals as goal

pub returns : goal.returns
returns c = let four = c.four in
    let point = c.power_point-x in
    let x = point.result.x.0 in
    four_evaluated_values x (two_start (point_of point.result) point.ensures.0) c.args.column.now four.new.block c.requires
    (stands_for (evaluate_block words31 2 (pair_twiddle x (neg_p x) x) 0) four.new.block c.args.column.now four.ensures.1
    (column_words 2 c.args.column.now c.requires) four.ensures.0)

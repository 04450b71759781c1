use Rattle.std.proofs.Common.{length, ap, ◌∙◌, arith}
use native.Mathlib.Nat as N
use Rattle.fields.specs.CheckLaws.{hold_at}
use Rattle.batch.specs.Counts.{pass_counts}
use Rattle.batch.specs.Batch.{count, in_place_checks, chunked_checks, in_place_answer}
use Rattle.batch.proofs.CountLaws.{one_chunk}
use Rattle.batch.proofs.Checks.{same_count, inverting, refused_batch, accepted_batch}
use Rattle.batch.proofs.batch_inverse_in_place.Goals as goal

pub returns-in_err-check : goal.returns-in_err-check
unfolding in_place_answer
returns-in_err-check g c =
    let C = g.F.Column.column in
    let column = c.args.column.now in
    let dst = c.args.dst.now in
    refused_batch g.met.F.Column.laws (in_place_checks C column (length dst)) (pass_counts (count C column)) column dst
    c.from_residual.ensures.1 c.check.ensures c.in_err-check.was

pub invert_chunks-requires-clause-inverting : goal.invert_chunks-requires-clause-inverting
invert_chunks-requires-clause-inverting g c =
    let column = c.args.column.now in
    let dst = c.args.dst.now in
    inverting g.met.F.Column.laws 1 column dst
    (hold_at (chunked_checks g.F.Column.column 1 column (length dst)) _ _ c.check.ensures c.in_ok-check.was)

pub returns : goal.returns
unfolding in_place_answer
returns g c =
    let laws = g.met.F.Column.laws in
    let C = g.F.Column.column in
    let column = c.args.column.now in
    let dst = c.args.dst.now in
    let U = g.F.Element.units in
    let made = c.invert_chunks.ensures.1 ∙ one_chunk _ _ (omega (arith, c.well_formed, N.div-le_self (length column) U.layout.width)) in
    accepted_batch laws (in_place_checks C column (length dst)) (pass_counts (count C column)) column dst
    c.check.ensures c.in_ok-check.was (made ∙ ap pass_counts (same_count laws column)) c.invert_chunks.ensures.0

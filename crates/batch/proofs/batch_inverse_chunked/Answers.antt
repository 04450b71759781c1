use Rattle.std.proofs.Common.{length, ap, ◌∙◌}
use Rattle.fields.specs.CheckLaws.{hold_at}
use Rattle.batch.specs.Counts.{chunked_counts}
use Rattle.batch.specs.Batch.{count, chunked_checks, chunked_answer}
use Rattle.batch.proofs.Checks.{same_count, inverting, refused_batch, accepted_batch}
use Rattle.batch.proofs.batch_inverse_chunked.Goals as goal

pub returns-in_err-check : goal.returns-in_err-check
unfolding chunked_answer
returns-in_err-check g c =
    let C = g.F.Column.column in
    let column = c.args.column.now in
    let dst = c.args.dst.now in
    refused_batch g.met.F.Column.laws (chunked_checks C c.args.chunk column (length dst)) (chunked_counts c.args.chunk (count C column))
    column dst c.from_residual.ensures.1 c.check.ensures c.in_err-check.was

pub invert_chunks-requires-clause-inverting : goal.invert_chunks-requires-clause-inverting
invert_chunks-requires-clause-inverting g c =
    let column = c.args.column.now in
    let dst = c.args.dst.now in
    inverting g.met.F.Column.laws c.args.chunk column dst
    (hold_at (chunked_checks g.F.Column.column c.args.chunk column (length dst)) _ _ c.check.ensures c.in_ok-check.was)

pub returns : goal.returns
unfolding chunked_answer
returns g c =
    let laws = g.met.F.Column.laws in
    let C = g.F.Column.column in
    let chunk = c.args.chunk in
    let column = c.args.column.now in
    let dst = c.args.dst.now in
    accepted_batch laws (chunked_checks C chunk column (length dst)) (chunked_counts chunk (count C column)) column dst
    c.check.ensures c.in_ok-check.was (c.invert_chunks.ensures.1 ∙ ap (chunked_counts chunk) (same_count laws column))
    c.invert_chunks.ensures.0

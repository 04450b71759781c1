use Rattle.fields.specs.Seen.{Seen}
use Rattle.batch.proofs.Invertible.{around}
use Rattle.batch.proofs.m31.M31Column.all_invertible.Given as goal

abbrev pub invariant-loop-word : goal.invariant-loop-word
invariant-loop-word l = Seen around l.words l.word-index l.seen

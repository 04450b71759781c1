-- The answer of batch inversion as the numbers that cross the C interface.
use Rattle.std.specs.Prelude.{Result, Ok, Err}
use Rattle.fields.specs.Refusal.{number_of, position_of}
use Rattle.fields.specs.declared.refusal.Refusal.{Refusal}
use Rattle.batch.specs.declared.counts.Counts.{Counts}
use Rattle.taripomune.specs.declared.batch_reply.BatchReply.{BatchReply}

-- both counts, 0 and 0 on a refusal
abbrev pub batch_reply : Result Counts Refusal → BatchReply
batch_reply (Ok counts) = record {
  number = 0;
  position = 0;
  multiplications = counts.multiplications;
  inversions = counts.inversions;
}
batch_reply (Err why) = record { number = number_of why; position = position_of why; multiplications = 0; inversions = 0 }

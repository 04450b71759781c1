use Rattle.std.proofs.Common.{ℕ, ◌+◌, ◌%◌}
use lib.Bits.{bit_or}
use Rattle.fields.specs.Seen.{Seen}
use Rattle.fields.proofs.columns.all_below_p.Given as goal

-- the word and the word plus 1, modulo 2^32
abbrev pub and_next : ℕ → ℕ
and_next w = bit_or w ((w + 1) % 4294967296)

-- what was seen of the words so far
abbrev pub invariant-loop-word : goal.invariant-loop-word
invariant-loop-word l = Seen and_next l.column l.word-index l.seen

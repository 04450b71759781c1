-- What a pass without branches has seen of a column: the bits of a number made of each word.
use Rattle.std.specs.Prelude.{◌≡◌, ℕ, ◌+◌, ◌<◌, ◌≤◌, List, bit_or, slice_index}
use Rattle.std.proofs.Math.Nat as N
use Rattle.std.proofs.Math.Decide.{dec_lt}
use Rattle.std.proofs.Common.{arith}
use Rattle.std.specs.Int.Bits.{or_add_and}
use Rattle.std.proofs.lemmas.Nat.{and_le_l, and_le_r}

pub or_above : (a b : ℕ) → (a ≤ bit_or a b) × (b ≤ bit_or a b)
or_above a b = (omega (arith, or_add_and a b, and_le_r a b), omega (arith, or_add_and a b, and_le_l a b))

-- f of each word below i is at most seen
pub record Seen (f : ℕ → ℕ) (column : List ℕ) (i seen : ℕ) : Type 0 where
  pub each : (j : ℕ) → j < i → f (slice_index column j) ≤ seen

pub seen_none : (f : ℕ → ℕ) (column : List ℕ) (seen : ℕ) → Seen f column 0 seen
seen_none f column seen = record { each = λ j h. absurd (N.not-suc-le-zero h) }

pub seen_next : (f : ℕ → ℕ) (column : List ℕ) (i seen new : ℕ) → Seen f column i seen → new ≡ f (slice_index column i)
    → Seen f column (i + 1) (bit_or seen new)
seen_next f column i seen new h e = record { each = λ j l. elim (dec_lt j i) [ yes low ↦ old j low | no high ↦ here j (omega arith) ] }
  where
    old : (j : ℕ) → j < i → f (slice_index column j) ≤ bit_or seen new
    old j l = omega (arith, h.each j l, (or_above seen new).0)

    now : f (slice_index column i) ≤ bit_or seen new
    now = rw (← e) (or_above seen new).1

    here : (j : ℕ) → i ≡ j → f (slice_index column j) ≤ bit_or seen new
    here j q = rw (← q) now

-- All words from 1 to P - 1, seen in one number.
use Rattle.std.proofs.Common.{◌≡◌, ℕ, ◌+◌, ◌*◌, ◌%◌, ◌<◌, ◌≤◌, List, length, get_or, arith, ne_eqb}
use lib.Bits.{bit_or}
use borrow.Author.Tests.{lt-leb}
use Rattle.algebra.specs.M31.{P}
use Rattle.fields.specs.Check.{outcome}
use Rattle.std.specs.Prelude.{Ok}
use Rattle.fields.specs.Seen.{Seen, or_above}
use Rattle.batch.specs.Batch.{m31_column, invertible}
use Rattle.batch.proofs.Checks.{passed}

-- the word less 1 and the word plus 1, modulo 2^32
abbrev pub around : ℕ → ℕ
around w = bit_or ((w + 4294967295) % 4294967296) ((w + 1) % 4294967296)

in_range : (w seen : ℕ) → w < 4294967296 → around w ≤ seen → seen < 2147483648 → (w < P) × (w ≡ 0 → ⊥)
in_range w seen h a l =
    let o = or_above ((w + 4294967295) % 4294967296) ((w + 1) % 4294967296) in
    (omega (arith, o.0, o.1), λ e. omega (arith, o.0, o.1))

pub seen_passed : (column : List ℕ) (seen : ℕ) → ((j : ℕ) → get_or column j 0 < 4294967296) → Seen around column (length column) seen
    → seen < 2147483648
    → outcome (invertible m31_column column) ≡ Ok tt
seen_passed column seen fit h l =
    passed m31_column column
    (record { none = λ j lt. lt-leb P (get_or column j 0) (word j lt).0 })
    (record { none = λ k lt. ne_eqb (get_or column (k * 1) 0) 0 (word (k * 1) (omega arith)).1 })
  where
    word : (j : ℕ) → j < length column → (get_or column j 0 < P) × (get_or column j 0 ≡ 0 → ⊥)
    word j lt = in_range (get_or column j 0) seen (fit j) (h.each j lt) l

-- The transform on columns of words, and what each call answers and leaves.
use Rattle.std.specs.Prelude.{ℕ, ◌^◌, ◌<◌, ◌≡◌, List, ◌++◌, nat_le, nat_eq, Result, Ok, Err, length, get_or, drop}
use Rattle.algebra.specs.M31.{P}
use Rattle.fields.specs.Words.{words31}
use Rattle.fields.specs.Check.{Checks, need, outcome}
use Rattle.fields.specs.LogSize.{is_log_size}
use Rattle.fields.specs.Columns.{words}
use Rattle.fields.specs.declared.refusal.Refusal.{Refusal}
use Rattle.fields.specs.declared.refusal.Refusal.TheVariants.{LogSize, Length}
use Rattle.circle.specs.Index.{index_point}
use Rattle.orders.specs.Orders.{bit_reverse_index}
use Rattle.domains.specs.Listing.{domain_index}
use Rattle.column.specs.Column.{values}

-- the point of position p of a value column: that of the domain element bit_reverse_index(p, n)
abbrev pub position_point : ℕ → ℕ → ℕ × ℕ
position_point n p = index_point (domain_index n (bit_reverse_index p n))

-- the values of 2^n coefficients, modulo P: position p holds the value at its point
abbrev pub values_of : ℕ → List ℕ → List ℕ
values_of n coefficients = values words31 n (position_point n) coefficients

-- a column of log size n: 2^n words below P
pub record Column (n : ℕ) (column : List ℕ) : Type 0 where
  pub size : length column ≡ 2 ^ n
  pub below : (k : ℕ) → k < length column → get_or column k 0 < P

-- a column of coefficients that gives these values
pub record Coefficients (n : ℕ) (coefficients values : List ℕ) : Type 0 where
  pub column : Column n coefficients
  pub give : values_of n coefficients ≡ values

-- ---- the calls

-- a column of exactly 2^n words and scratch of no fewer, else number 8
abbrev pub lengths : ℕ → List ℕ → ℕ → Checks
lengths n column scratch = need (nat_eq (length column) (2 ^ n)) Length ++ need (nat_le (2 ^ n) scratch) Length

-- a log size in 1..30, else number 6; the lengths; words below P, else number 1. Of scratch only the length counts
unfoldable pub transform_answer : ℕ → List ℕ → ℕ → Result (Unit {0}) Refusal
transform_answer n column scratch = outcome (need (is_log_size n) LogSize ++ lengths n column scratch ++ words column)

-- what an evaluation with this answer leaves of the column
unfoldable pub evaluate_exit : Result (Unit {0}) Refusal → ℕ → List ℕ → List ℕ
evaluate_exit (Ok written) n column = values_of n column
evaluate_exit (Err why) n column = column

-- what an interpolation with this answer leaves of the column: the coefficients that give it (`Theorem.antt` proves that
-- there is exactly one such list)
unfoldable pub InterpolateExit : Result (Unit {0}) Refusal → ℕ → List ℕ → List ℕ → Type 0
InterpolateExit (Ok written) n column exit = Coefficients n exit column
InterpolateExit (Err why) n column exit = exit ≡ column

-- what a call with this answer leaves of scratch: its first 2^n words end as anything
unfoldable pub ScratchExit : Result (Unit {0}) Refusal → ℕ → List ℕ → List ℕ → Type 0
ScratchExit (Ok written) n scratch exit = (length exit ≡ length scratch) × (drop (2 ^ n) exit ≡ drop (2 ^ n) scratch)
ScratchExit (Err why) n scratch exit = exit ≡ scratch

-- what an evaluation leaves of the column and of scratch
pub record Evaluated (n : ℕ) (column scratch column_exit scratch_exit : List ℕ) : Type 0 where
  pub column_left : column_exit ≡ evaluate_exit (transform_answer n column (length scratch)) n column
  pub scratch_left : ScratchExit (transform_answer n column (length scratch)) n scratch scratch_exit

-- what an interpolation leaves of the column and of scratch
pub record Interpolated (n : ℕ) (column scratch column_exit scratch_exit : List ℕ) : Type 0 where
  pub column_left : InterpolateExit (transform_answer n column (length scratch)) n column column_exit
  pub scratch_left : ScratchExit (transform_answer n column (length scratch)) n scratch scratch_exit

-- Batch inversion, for any field: element k of the destination becomes the inverse of element k of the column.
use Rattle.std.specs.Prelude.{ℕ, zero, suc, ◌+◌, ◌*◌, ◌/◌, ◌%◌, Bool, not, ◌&&◌, List, ◌++◌, length, ◌==◌, nat_le, slice_index, slice_set}
use Rattle.std.specs.Prelude.{Result, Ok, Err}
use Rattle.fields.specs.Words.{inv_p, complex_inverse, quartic_inverse}
use Rattle.fields.specs.Check.{Checks, need, checked}
use Rattle.fields.specs.Search.{first}
use Rattle.fields.specs.Columns.{words}
use Rattle.batch.specs.Counts.{pass_counts, chunked_counts}
use Rattle.batch.specs.declared.counts.Counts.{Counts}
use Rattle.fields.specs.declared.refusal.Refusal.{Refusal}
use Rattle.fields.specs.declared.refusal.Refusal.TheVariants.{Length, Chunk, Inverse}

-- How an element lies in a column: so many words, read and written from a word on.
pub record Layout : Type 1 where
  pub El : Type 0
  pub width : ℕ
  pub read : List ℕ → ℕ → El
  pub write : List ℕ → ℕ → El → List ℕ

-- one word
abbrev pub word_layout : Layout
word_layout = record { El = ℕ; width = 1; read = λ column at. slice_index column at; write = slice_set }

-- two elements, one after the other
abbrev pub pair_layout : Layout → Layout
pair_layout L = record {
  El = L.El × L.El;
  width = L.width + L.width;
  read = λ column at. (L.read column at, L.read column (at + L.width));
  write = λ column at p. L.write (L.write column at p.0) (at + L.width) p.1;
}

-- a field whose elements lie in columns
pub record ColumnField : Type 1 where
  pub layout : Layout
  pub inverse : layout.El → layout.El
  pub is_zero : layout.El → Bool

-- M31: 1 word an element
abbrev pub m31_column : ColumnField
m31_column = record { layout = word_layout; inverse = inv_p; is_zero = λ a. (a == 0) }

-- CM31: 2 words, a and b of a + bi
abbrev pub cm31_column : ColumnField
cm31_column = record { layout = pair_layout word_layout; inverse = complex_inverse; is_zero = λ p. (p.0 == 0) && (p.1 == 0) }

-- QM31: 4 words, those of p and then of q in p + qu
abbrev pub qm31_column : ColumnField
qm31_column = record {
  layout = pair_layout (pair_layout word_layout);
  inverse = quartic_inverse;
  is_zero = λ p. (p.0.0 == 0) && p.0.1 == 0 && (p.1.0 == 0 && p.1.1 == 0);
}

-- dst with its first n elements replaced by the inverses of the column's, the other words as they were
unfoldable pub inverted : (L : Layout) → (L.El → L.El) → ℕ → List ℕ → List ℕ → List ℕ
inverted L inverse zero column dst = dst
inverted L inverse (suc n) column dst = L.write (inverted L inverse n column dst) (n * L.width) (inverse (L.read column (n * L.width)))

module _ (F : ColumnField) where
  -- how many elements a column has
  abbrev pub count : List ℕ → ℕ
  count column = length column / F.layout.width

  -- whether element k is zero
  abbrev pub zero_at : List ℕ → ℕ → Bool
  zero_at column k = F.is_zero (F.layout.read column (k * F.layout.width))

  -- the place of the first zero element, the count where there is none
  abbrev pub first_zero : List ℕ → ℕ
  first_zero column = first (zero_at column) (count column)

  -- whole numbers of elements, the destination no shorter than the column
  abbrev pub lengths_fit : (column dst : ℕ) → Bool
  lengths_fit column dst = column % F.layout.width == 0 && dst % F.layout.width == 0 && nat_le column dst

  -- no element is zero, else number 3 at the first one that is
  abbrev pub nonzero : List ℕ → Checks
  nonzero column = need (nat_le (count column) (first_zero column)) (Inverse (first_zero column))

  -- every word below P, else number 1; then no zero
  abbrev pub invertible : List ℕ → Checks
  invertible column = words column ++ nonzero column

  -- lengths that fit, else number 8; then the elements
  abbrev pub in_place_checks : List ℕ → ℕ → Checks
  in_place_checks column dst = need (lengths_fit (length column) dst) Length ++ invertible column

  -- lengths that fit, else number 8; a chunk size that isn't 0, else number 9; then the elements
  abbrev pub chunked_checks : ℕ → List ℕ → ℕ → Checks
  chunked_checks chunk column dst =
      need (lengths_fit (length column) dst) Length ++ need (not (chunk == 0)) Chunk ++ invertible column

  -- the counts of one pass over the column
  unfoldable pub in_place_answer : List ℕ → ℕ → Result Counts Refusal
  in_place_answer column dst = checked (in_place_checks column dst) (pass_counts (count column))

  -- the counts of one pass over each chunk
  unfoldable pub chunked_answer : ℕ → List ℕ → ℕ → Result Counts Refusal
  chunked_answer chunk column dst = checked (chunked_checks chunk column dst) (chunked_counts chunk (count column))

  -- what a call with this answer leaves in the destination
  unfoldable pub batch_exit : Result Counts Refusal → List ℕ → List ℕ → List ℕ
  batch_exit (Ok counts) column dst = inverted F.layout F.inverse (count column) column dst
  batch_exit (Err why) column dst = dst

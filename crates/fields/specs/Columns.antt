-- Columns of words: the lowest one that is no word of M31.
use Rattle.std.specs.Prelude.{ℕ, Bool, List, length, nat_le, slice_index}
use Rattle.algebra.specs.M31.{P}
use Rattle.fields.specs.Check.{Checks, need}
use Rattle.fields.specs.Search.{first}
use Rattle.fields.specs.declared.refusal.Refusal.TheVariants.{Word}

-- whether word k is at or above P
abbrev pub is_bad : List ℕ → ℕ → Bool
is_bad column i = nat_le P (slice_index column i)

-- the position of the lowest word at or above P, the length where there is none
abbrev pub first_bad : List ℕ → ℕ
first_bad column = first (is_bad column) (length column)

-- all words are below P, else number 1 at the lowest one that isn't
abbrev pub words : List ℕ → Checks
words column = need (nat_le (length column) (first_bad column)) (Word (first_bad column))

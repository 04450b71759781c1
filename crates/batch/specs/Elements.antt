-- What the passes know of the elements of a column, and batch inversion of a field whose elements lie in columns.
use Rattle.std.specs.Prelude.{◌≡◌, ℕ, ◌+◌, ◌*◌, ◌<◌, ◌≤◌, false, List, slice_index}
use Rattle.std.proofs.Common.{arith}
use Rattle.algebra.specs.M31.{P}
use Rattle.fields.specs.Field.{FieldOf}
use Rattle.batch.specs.Batch.{ColumnField, zero_at, inverted}
use Rattle.batch.specs.Passes.{Units, IsOne, at, lane_units}
use Rattle.batch.specs.declared.lanes.Lanes.{Lanes}

-- the constants of an element
pub record ElementLaws (U : Units) (width multiplications : ℕ) : Type 0 where
  pub width_is : width ≡ U.layout.width
  pub multiplications_is : multiplications ≡ U.multiplications
  -- why no count of multiplications overflows
  pub few : U.multiplications ≤ U.layout.width

-- an element as the passes take it, as the answers of batch inversion do, and as the field does
pub record ColumnLaws {A : Type 0} (U : Units) (value : A → U.layout.El) (C : ColumnField) (F : FieldOf A) : Type 0 where
  pub one_multiplication : U.multiplications ≡ 1
  pub narrow : U.layout.width ≤ 4
  pub same_width : U.layout.width ≡ C.layout.width
  pub same_zero : (a : A) (column : List ℕ) (k : ℕ) → value a ≡ at U column k → F.is_zero a ≡ zero_at C column k
  pub same_inverted : (n : ℕ) (column dst : List ℕ)
      → inverted U.layout U.inverse n column dst ≡ inverted C.layout C.inverse n column dst
  pub one : IsOne U (value (F.of F.words.one))
  pub reduced : (a : A) → U.Unit (value a) → F.Reduced a
  pub inverse : (a b : A) → F.value b ≡ F.inverse (F.value a) → value b ≡ U.inverse (value a)
  -- words below P that are no zero can be inverted
  pub unit : (column : List ℕ) (k : ℕ)
      → ((j : ℕ) → k * U.layout.width ≤ j → j < k * U.layout.width + U.layout.width → slice_index column j < P)
      → zero_at C column k ≡ false → U.Unit (at U column k)

-- the values of four lanes, as two pairs
abbrev pub four : {A El : Type 0} → (A → El) → Lanes A → (El × El) × (El × El)
four value a = ((value a.0, value a.1), (value a.2, value a.3))

-- the constants of four side by side
pub lane_constants : {A : Type 0} {U : Units} {value : A → U.layout.El} {C : ColumnField} {F : FieldOf A} {width multiplications : ℕ}
    → ElementLaws U width multiplications → ColumnLaws U value C F → ElementLaws (lane_units U) (4 * width) 4
lane_constants constants column = record {
  width_is = omega (arith, constants.width_is);
  multiplications_is = omega (arith, column.one_multiplication);
  few = omega (arith, constants.few);
}

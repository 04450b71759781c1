-- Montgomery's trick, for any field: products up and inverses down a column, one element or four side by side at a time.
use Rattle.std.specs.Prelude.{◌≡◌, ℕ, zero, suc, ◌+◌, ◌*◌, ◌/◌, ◌<◌, ◌≤◌, List, length}
use Rattle.algebra.specs.Ring.{Ops}
use Rattle.algebra.specs.M31.{m31}
use Rattle.algebra.specs.Tower.{cm31, qm31}
use Rattle.algebra.specs.Homomorphism.{on_pair}
use Rattle.fields.specs.Words.{words31, complex_words, quartic_words}
use Rattle.batch.specs.Batch.{Layout, word_layout, pair_layout}
use Rattle.batch.specs.Layouts.{LayoutLaws, word_laws, pair_laws}
use Rattle.fields.specs.Representation.{Representation}
use Rattle.fields.specs.Representation as R
use Rattle.fields.specs.Inverse.{m31_representation, cm31_representation, qm31_representation}

-- elements that lie in columns, those that can be inverted, and what the passes need to know of them
pub record Units : Type 1 where
  pub layout : Layout
  pub laws : LayoutLaws layout
  pub mul : layout.El → layout.El → layout.El
  -- how many multiplications of field elements `mul` makes
  pub multiplications : ℕ
  pub inverse : layout.El → layout.El
  pub Unit : layout.El → Type 0
  pub mul-unit : (a b : layout.El) → Unit a → Unit b → Unit (mul a b)
  pub inverse_unit : (a : layout.El) → Unit a → Unit (inverse a)
  pub inverse_first : (a b : layout.El) → Unit a → Unit b → mul (inverse (mul a b)) b ≡ inverse a
  pub inverse_second : (a b : layout.El) → Unit a → Unit b → mul a (inverse (mul a b)) ≡ inverse b

-- the units of a field
abbrev pub field_units : (W K : Ops) (H : Representation W K) (width : ℕ) (read : List ℕ → ℕ → W.El) (write : List ℕ → ℕ → W.El → List ℕ)
    → LayoutLaws (record { El = W.El; width = width; read = read; write = write }) → Units
field_units W K H width read write laws = record {
  layout = record { El = W.El; width = width; read = read; write = write };
  laws = laws;
  mul = W.mul;
  multiplications = 1;
  inverse = H.inverse;
  Unit = R.Unit W K H;
  mul-unit = R.mul-unit W K H;
  inverse_unit = R.inverse_unit W K H;
  inverse_first = R.inverse_first W K H;
  inverse_second = R.inverse_second W K H;
}

-- one can be inverted, and times what can be inverted gives that
abbrev pub IsOne : (U : Units) → U.layout.El → Type 0
IsOne U one = U.Unit one × ((a : U.layout.El) → U.Unit a → U.mul one a ≡ a)

-- units two side by side, each by itself
abbrev pub pair_units : Units → Units
pair_units U = record {
  layout = pair_layout U.layout;
  laws = pair_laws U.layout U.laws;
  mul = λ a b. (U.mul a.0 b.0, U.mul a.1 b.1);
  multiplications = U.multiplications + U.multiplications;
  inverse = on_pair U.inverse;
  Unit = λ a. U.Unit a.0 × U.Unit a.1;
  mul-unit = λ a b u v. (U.mul-unit a.0 b.0 u.0 v.0, U.mul-unit a.1 b.1 u.1 v.1);
  inverse_unit = λ a u. (U.inverse_unit a.0 u.0, U.inverse_unit a.1 u.1);
  inverse_first = λ a b u v i. (U.inverse_first a.0 b.0 u.0 v.0 i, U.inverse_first a.1 b.1 u.1 v.1 i);
  inverse_second = λ a b u v i. (U.inverse_second a.0 b.0 u.0 v.0 i, U.inverse_second a.1 b.1 u.1 v.1 i);
}

-- units four side by side: the lanes
abbrev pub lane_units : Units → Units
lane_units U = pair_units (pair_units U)

abbrev pub m31_units : Units
m31_units = field_units words31 m31 m31_representation 1 word_layout.read word_layout.write word_laws

abbrev pub cm31_layout : Layout
cm31_layout = pair_layout word_layout

abbrev pub cm31_units : Units
cm31_units = field_units complex_words cm31 cm31_representation 2 cm31_layout.read cm31_layout.write (pair_laws word_layout word_laws)

abbrev pub qm31_layout : Layout
qm31_layout = pair_layout cm31_layout

abbrev pub qm31_units : Units
qm31_units = field_units quartic_words qm31 qm31_representation 4 qm31_layout.read qm31_layout.write
    (pair_laws cm31_layout (pair_laws word_layout word_laws))

module _ (U : Units) where
  open U.layout use {El, width, read}

  -- how many elements a column has
  abbrev pub size : List ℕ → ℕ
  size column = length column / width

  -- element k of a column
  abbrev pub at : List ℕ → ℕ → El
  at column k = read column (k * width)

  -- a column of n elements that can be inverted
  pub record UnitColumn (n : ℕ) (column : List ℕ) : Type 0 where
    pub whole : length column ≡ n * width
    pub units : (k : ℕ) → k < n → U.Unit (at column k)

  -- the product of the elements 0 to k
  unfoldable pub product : List ℕ → ℕ → El
  product column zero = at column 0
  product column (suc k) = U.mul (product column k) (at column (suc k))

  -- the elements from `from` on below `to` are those of f
  pub record Holds (f : ℕ → El) (from to : ℕ) (dst : List ℕ) : Type 0 where
    pub holds : (k : ℕ) → from ≤ k → k < to → at dst k ≡ f k

  abbrev pub inverses : List ℕ → ℕ → El
  inverses column k = U.inverse (at column k)

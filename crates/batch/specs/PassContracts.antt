-- What the passes of Montgomery's trick take and leave, for any units.
use Rattle.std.specs.Prelude.{◌≡◌, ℕ, ◌+◌, ◌-◌, ◌*◌, ◌<◌, ◌≤◌, List, length}
use Rattle.batch.specs.Batch.{inverted}
use Rattle.batch.specs.Counts.{counted}
use Rattle.batch.specs.declared.counts.Counts.{Counts}
use Rattle.batch.specs.Passes.{Units, UnitColumn, Holds, size, product, inverses, lane_units}

module _ (U : Units) where
  open U.layout use {El, width}

  -- two elements to be multiplied
  pub record Factors (a b : El) : Type 0 where
    pub left : U.Unit a
    pub right : U.Unit b

  -- a column to be inverted, and a destination as long
  pub record Inverting (column dst : List ℕ) : Type 0 where
    pub elements : UnitColumn U (size U column) column
    pub room : length dst ≡ length column

  -- a column to be inverted, and a destination no shorter
  pub record InvertingInto (column dst : List ℕ) : Type 0 where
    pub elements : UnitColumn U (size U column) column
    pub room : length column ≤ length dst

  -- an inversion leaves the inverses, and the words after them as they were
  pub record Inverted (column dst exit : List ℕ) : Type 0 where
    pub result : exit ≡ inverted U.layout U.inverse (size U column) column dst

  -- the pass of products takes a column of one element or more
  pub record BeforeProducts (column dst : List ℕ) : Type 0 where
    pub elements : UnitColumn U (size U column) column
    pub room : length dst ≡ length column
    pub nonempty : 0 < length column

  -- the pass of products answers the product of the whole column, and leaves the products of the elements 0 to k; it has made
  -- `first` multiplications for the first element and one product for each further one
  pub record AfterProducts (first : ℕ) (column exit : List ℕ) (answer : El) (made : ℕ) : Type 0 where
    pub whole : answer ≡ product U column (size U column - 1)
    pub products : Holds U (product U column) 0 (size U column) exit
    pub multiplications : made ≡ first + (size U column - 1) * U.multiplications

  -- the pass of inverses takes these products, and the inverse of the whole product
  pub record BeforeInverses (column dst : List ℕ) (rest : El) : Type 0 where
    pub elements : UnitColumn U (size U column) column
    pub room : length dst ≡ length column
    pub nonempty : 0 < length column
    pub products : Holds U (product U column) 0 (size U column) dst
    pub inverse : rest ≡ U.inverse (product U column (size U column - 1))

  -- the pass of inverses leaves the inverses; it has made two products for each element after the first
  pub record AfterInverses (column exit : List ℕ) (made : ℕ) : Type 0 where
    pub result : Holds U (inverses U column) 0 (size U column) exit
    pub multiplications : made ≡ (size U column - 1) * (U.multiplications + U.multiplications)

  -- the inverses of four elements, by nine products and one inversion
  pub record LanesInverted (four answer : (lane_units U).layout.El) (counts : Counts) : Type 0 where
    pub lanes : answer ≡ (lane_units U).inverse four
    pub made : counts ≡ counted 9 1

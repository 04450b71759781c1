-- The transform over any operations: what goes with each coefficient, and the values of a list of coefficients.
use Rattle.std.specs.Prelude.{ℕ, zero, suc, ◌/◌, ◌%◌, ◌^◌, cond, List, eqb, get_or}
use Rattle.algebra.specs.Ring.{Ops}
use Rattle.algebra.specs.Circle.{double_x}
use Rattle.algebra.specs.Doubling.{iterate}
use Rattle.algebra.specs.Listing.{listing}

module _ (O : Ops) where
  open O use {El, zero as 𝟘, one as 𝟙, add as ◌⊕◌, mul as ◌⊗◌}

  infixl 65 ◌⊕◌
  infixl 70 ◌⊗◌
  -- what bit t of a coefficient's number brings in at the point (x, y): y, then x, then x put t - 1 times through 2x² - 1
  unfoldable pub factor : El × El → ℕ → El
  factor p zero = p.1
  factor p (suc t) = iterate t (double_x O) p.0

  -- the product that goes with coefficient j of n bits: of the factors whose bit of j is 1
  unfoldable pub product : ℕ → (ℕ → El) → ℕ → El
  product zero factors j = 𝟙
  product (suc n) factors j = product n factors j ⊗ cond (eqb (j / 2 ^ n % 2) 1) (factors n) 𝟙

  -- f 0, f 1, .., added up, so many of them
  unfoldable pub sum : ℕ → (ℕ → El) → El
  sum zero f = 𝟘
  sum (suc count) f = sum count f ⊕ f count

  -- 2^n coefficients times their products, added up
  unfoldable pub combination : ℕ → (ℕ → El) → List El → El
  combination n factors c = sum (2 ^ n) (λ j. get_or c j 𝟘 ⊗ product n factors j)

  -- the value of 2^n coefficients at a point
  abbrev pub value : ℕ → List El → El × El → El
  value n c p = combination n (factor p) c

  -- the values of 2^n coefficients at 2^n points, one for each position
  unfoldable pub values : ℕ → (ℕ → El × El) → List El → List El
  values n point c = listing (2 ^ n) (λ p. value n c (point p))

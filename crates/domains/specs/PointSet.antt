-- Which points the canonic circle domain of log size n holds: 2^n different ones, x and y below P, and exactly those of the
-- circle whose x becomes 0 in n - 1 doublings.
use Rattle.std.specs.Prelude.{ℕ, ◌+◌, ◌-◌, ◌*◌, ◌^◌, ◌<◌, ◌≡◌, ◌↔◌, length}
use Rattle.algebra.specs.M31.{P}
use Rattle.algebra.specs.Circle.{squares, double_x}
use Rattle.algebra.specs.Doubling.{iterate}
use Rattle.fields.specs.Words.{words31}
use Rattle.circle.specs.Index.{index_point, neg_index}
use Rattle.domains.specs.Listing.{unit, domain_indices, domain_index}

-- `point_set_lem` of proofs/PointSet.antt proves it for every n from 1 to 30
pub record PointSet (n : ℕ) : Type 0 where
  -- 2^n indices: h + 4hi, then their negatives in the same order
  pub size : length (domain_indices n) ≡ 2 ^ n
  pub first_half : (i : ℕ) → i < 2 ^ (n - 1) → domain_index n i ≡ unit n + 4 * unit n * i
  pub second_half : (i : ℕ) → i < 2 ^ (n - 1) → domain_index n (2 ^ (n - 1) + i) ≡ neg_index (unit n + 4 * unit n * i)
  -- their points are pairs of words below P
  pub below : (i : ℕ) → i < 2 ^ n → ((index_point (domain_index n i)).0 < P) × ((index_point (domain_index n i)).1 < P)
  -- their points are all different
  pub apart : (i j : ℕ) → i < 2 ^ n → j < 2 ^ n → index_point (domain_index n i) ≡ index_point (domain_index n j) → i ≡ j
  -- (x, y) is one of them exactly where x² + y² = 1 and x, put n - 1 times through 2x² - 1, gives 0, modulo P
  pub exactly : (x y : ℕ) → x < P → y < P
      → ((i : ℕ) × (i < 2 ^ n) × ((x, y) ≡ index_point (domain_index n i)))
      ↔ ((squares words31 (x, y) ≡ 1) × (iterate (n - 1) (double_x words31) x ≡ 0))

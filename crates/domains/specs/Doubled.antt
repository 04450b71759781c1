-- Doubling goes from the points of log size n + 1 to those of n; and no coordinate is zero but x at log size 1.
use Prim.Native.Nat.{ℕ, suc, ◌+◌, ◌-◌, ◌^◌, ◌<◌}
use Rattle.std.specs.Prelude.{◌≡◌}
use Rattle.algebra.specs.Doubling.{double}
use Rattle.fields.specs.Words.{words31}
use Rattle.circle.specs.Index.{index_point}
use Rattle.domains.specs.Listing.{domain_index}

-- Each point of the domain of log size n is the double of two of log size n + 1. `domain_doubled` of proofs/Doubled.antt proves it
-- for n from 1 to 29.
pub record DomainDoubled (n : ℕ) : Type 0 where
  pub first_quarter : (i : ℕ) → i < 2 ^ (n - 1) → double words31 (index_point (domain_index (suc n) i)) ≡ index_point (domain_index n i)
  pub second_quarter : (i : ℕ) → i < 2 ^ (n - 1)
      → double words31 (index_point (domain_index (suc n) (2 ^ (n - 1) + i))) ≡ index_point (domain_index n i)
  pub third_quarter : (i : ℕ) → i < 2 ^ (n - 1)
      → double words31 (index_point (domain_index (suc n) (2 ^ n + i))) ≡ index_point (domain_index n (2 ^ (n - 1) + i))
  pub fourth_quarter : (i : ℕ) → i < 2 ^ (n - 1)
      → double words31 (index_point (domain_index (suc n) (2 ^ n + (2 ^ (n - 1) + i)))) ≡ index_point (domain_index n (2 ^ (n - 1) + i))

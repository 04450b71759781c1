-- The canonic circle domain of log size n as the calls give it: the indices that it lists, in which order, and their points.
use Prim.Native.Nat.{ℕ, suc, ◌^◌, ◌≤◌, ◌<◌}
use Rattle.std.specs.Prelude.{Some, None, Ok, ◌≡◌, true}
use Rattle.circle.specs.Point.{of_point}
use Rattle.circle.specs.Index.{of_index, index_point}
use Rattle.domains.specs.Listing.{coset_index, domain_index}
use Rattle.domains.specs.Iterator.{domain_next_answer}
use Rattle.domains.specs.Domain.{of_half, size_answer, index_at_answer, at_answer, is_canonic_answer}
use Rattle.domains.specs.Domain.{iter_indices_answer, domain_iterator_of}
use Rattle.domains.specs.Canonic.{canonic_of, half_of, try_new_answer, circle_domain_answer}
use Rattle.domains.specs.Canonic as C
use Rattle.domains.specs.IteratorLaws.{domain_steps}
use Rattle.domains.specs.PointSet.{PointSet}

-- `canonic_domain` of proofs/CanonicDomain.antt proves it for every n from 1 to 30
pub record CanonicDomain (n : ℕ) : Type 0 where
  -- CanonicCoset::new(n), and circle_domain of it
  pub coset : try_new_answer n ≡ Ok (canonic_of n)
  pub domain : circle_domain_answer (canonic_of n) ≡ Ok (of_half (half_of n))
  -- the coset's k-th index is h (2k + 1) modulo 2^31
  pub coset_indices : (k : ℕ) → C.index_at_answer (canonic_of n) k ≡ Ok (of_index (coset_index n k))
  -- the domain's 2^n indices are h + 4hi, then the negatives, and its points are theirs: size, index_at, at
  pub size : size_answer (of_half (half_of n)) ≡ Ok (2 ^ n)
  pub indices : (i : ℕ) → i < 2 ^ n → index_at_answer (of_half (half_of n)) i ≡ Ok (of_index (domain_index n i))
  pub points : (i : ℕ) → i < 2 ^ n → at_answer (of_half (half_of n)) i ≡ Ok (of_point (index_point (domain_index n i)))
  -- iter_indices hands back the same indices in 2^n steps, then says done, and done again
  pub iterator : iter_indices_answer (of_half (half_of n)) ≡ Ok (domain_iterator_of (half_of n))
  pub steps : (i : ℕ) → i < 2 ^ n
      → domain_next_answer (domain_steps i (domain_iterator_of (half_of n)))
      ≡ Ok (Some (of_index (domain_index n i)), domain_steps (suc i) (domain_iterator_of (half_of n)))
  pub done : (i : ℕ) → 2 ^ n ≤ i
      → domain_next_answer (domain_steps i (domain_iterator_of (half_of n)))
      ≡ Ok (None, domain_steps (suc i) (domain_iterator_of (half_of n)))
  -- is_canonic says yes
  pub is_canonic : is_canonic_answer (of_half (half_of n)) ≡ Ok true
  -- the points are all different, and exactly those that `PointSet` names
  pub point_set : PointSet n

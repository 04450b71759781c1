-- The half coset in its own bit-reversed order, and the circle domain in bit-reversed order.
use Rattle.std.specs.Prelude.{ℕ, zero, suc, ◌+◌, ◌-◌, ◌*◌, ◌/◌, ◌%◌, ◌^◌, ◌≤◌, ◌<◌, ◌≡◌, refl}
use Rattle.std.proofs.Common.{sym, ◌∙◌, ap, ap₂, arith}
use Rattle.std.proofs.Math.Nat as N
use Rattle.std.proofs.Math.Pow as W
use Rattle.algebra.specs.Extension.{conjugate}
use Rattle.algebra.specs.M31.{P}
use Rattle.algebra.specs.Circle.{plus}
use Rattle.fields.specs.Words.{neg_p, words31}
use Rattle.circle.specs.Formulas.{antipode}
use Rattle.circle.specs.Index.{index_point}
use Rattle.circle.specs.IndexPoints.{index_reduce, index_add, index_quarter, index_add_quarter, index_antipode, index_conjugate}
use Rattle.orders.specs.BitReverse.{reverse_bits, reversed_below, reversed_even, reversed_odd}
use Rattle.orders.specs.BitReverse.{reversed_first_half, reversed_second_half, reversed_parts}
use Rattle.orders.specs.Orders.{bit_reverse_index}
use Rattle.orders.proofs.OrderLaws.{index_from_one}
use Rattle.domains.specs.Listing.{unit, domain_index}
use Rattle.domains.proofs.PointSet.{two_halves, unit-half, half_bound, domain_first, domain_second}
use Rattle.domains.specs.BitReversed.{half_index, half_point}

-- ---- position p of the domain in bit-reversed order holds point p / 2 of the half coset, conjugated where p is odd

module _ (n : ℕ) (lo : 1 ≤ n) (hi : n ≤ 30) where
  -- the half coset is the domain's first half
  pub half_element : (k : ℕ) → domain_index n (reverse_bits (n - 1) k) ≡ half_index n k
  half_element k = domain_first n lo hi (reverse_bits (n - 1) k) (reversed_below (n - 1) k)

  pub position_even : (p : ℕ) → p % 2 ≡ 0 → index_point (domain_index n (bit_reverse_index p n)) ≡ half_point n (p / 2)
  position_even p e = ap index_point (ap (domain_index n) place ∙ half_element (p / 2))
    where
      place : bit_reverse_index p n ≡ reverse_bits (n - 1) (p / 2)
      place =
          let pair : p ≡ 2 * (p / 2) = omega arith in
          let bits : n ≡ suc (n - 1) = omega arith in
          index_from_one p n lo ∙ ap₂ reverse_bits bits pair ∙ reversed_even (n - 1) (p / 2)

  pub position_odd : (p : ℕ) → p % 2 ≡ 1 → index_point (domain_index n (bit_reverse_index p n)) ≡ conjugate words31 (half_point n (p / 2))
  position_odd p e =
      ap index_point (ap (domain_index n) place ∙ domain_second n lo hi (reverse_bits (n - 1) (p / 2)) (reversed_below (n - 1) (p / 2)))
      ∙ index_conjugate (half_index n (p / 2))
      (omega (arith, half_bound n lo hi (reverse_bits (n - 1) (p / 2)) (reversed_below (n - 1) (p / 2))))
    where
      place : bit_reverse_index p n ≡ 2 ^ (n - 1) + reverse_bits (n - 1) (p / 2)
      place =
          let pair : p ≡ 2 * (p / 2) + 1 = omega arith in
          let bits : n ≡ suc (n - 1) = omega arith in
          index_from_one p n lo ∙ ap₂ reverse_bits bits pair ∙ reversed_odd (n - 1) (p / 2)

-- ---- neighbours are antipodes, so their x are negatives

module _ (n m : ℕ) (lo : 2 ≤ n) (hi : n ≤ 30) where
  pub half_index_neighbour : half_index n (2 * m + 1) ≡ half_index n (2 * m) + 2 ^ 30
  half_index_neighbour =
      let bits : n - 1 ≡ suc (n - 1 - 1) = omega arith in
      omega (
        arith,
        unit-half n (omega arith) hi,
        ap (λ (t : ℕ). unit n * t) (two_halves (n - 1) (omega arith) (omega arith)),
        ap (λ (t : ℕ). unit n * t) (ap (λ (t : ℕ). reverse_bits t (2 * m)) bits ∙ reversed_even (n - 1 - 1) m),
        ap (λ (t : ℕ). unit n * t) (ap (λ (t : ℕ). reverse_bits t (2 * m + 1)) bits ∙ reversed_odd (n - 1 - 1) m),
      )

  pub half_neighbour : half_point n (2 * m + 1) ≡ antipode words31 (half_point n (2 * m))
  half_neighbour = ap index_point half_index_neighbour ∙ index_antipode (half_index n (2 * m))

  pub half_neighbour_x : (half_point n (2 * m + 1)).0 ≡ neg_p (half_point n (2 * m)).0
  half_neighbour_x = ap (λ (p : ℕ × ℕ). p.0) half_neighbour

-- ---- 4m + 2 lies a quarter of a turn further than 4m, so its x is the other's y

module _ (n m : ℕ) (lo : 3 ≤ n) (hi : n ≤ 30) where
  half_index-add_quarter : half_index n (4 * m + 2) ≡ half_index n (4 * m) + 2 ^ 29
  half_index-add_quarter =
      omega (
        arith,
        unit-half n (omega arith) hi,
        ap (λ (t : ℕ). unit n * t) (two_halves (n - 1) (omega arith) (omega arith)),
        ap (λ (t : ℕ). unit n * t) (two_halves (n - 1 - 1) (omega arith) (omega arith)),
        ap (λ (t : ℕ). unit n * t)
            (reversed (4 * m) (2 * m) even ∙ ap (λ (t : ℕ). reverse_bits t (2 * m)) fewer ∙ reversed_even (n - 1 - 1 - 1) m),
        ap (λ (t : ℕ). unit n * t)
            (reversed (4 * m + 2) (2 * m + 1) odd ∙ ap (λ (t : ℕ). reverse_bits t (2 * m + 1)) fewer ∙ reversed_odd (n - 1 - 1 - 1) m),
      )
    where
      even : 4 * m ≡ 2 * (2 * m)
      even = omega arith

      odd : 4 * m + 2 ≡ 2 * (2 * m + 1)
      odd = omega arith

      fewer : n - 1 - 1 ≡ suc (n - 1 - 1 - 1)
      fewer = omega arith

      reversed : (p q : ℕ) → p ≡ 2 * q → reverse_bits (n - 1) p ≡ reverse_bits (n - 1 - 1) q
      reversed p q e =
          let bits : n - 1 ≡ suc (n - 1 - 1) = omega arith in
          ap₂ reverse_bits bits e ∙ reversed_even (n - 1 - 1) q

  pub half_add_quarter : half_point n (4 * m + 2) ≡ ((half_point n (4 * m)).1, neg_p (half_point n (4 * m)).0)
  half_add_quarter = ap index_point half_index-add_quarter ∙ index_add_quarter (half_index n (4 * m))

-- ---- the half coset by additions: points 2^s to 2^(s + 1) - 1 lie 2^(30 - s) further than the 2^s before them

reversed_zero : (n : ℕ) → reverse_bits n 0 ≡ 0
unfolding reverse_bits
reversed_zero zero = refl
reversed_zero (suc n) = reversed_even n 0 ∙ reversed_zero n

-- point 0
pub half_index_start : (n : ℕ) → half_index n 0 ≡ unit n
half_index_start n = omega (arith, ap (λ (t : ℕ). unit n * t) (reversed_zero (n - 1)))

module _ (n s k : ℕ) (lo : s + 2 ≤ n) (hi : n ≤ 30) (h : k < 2 ^ s) where
  pub half_index_further : half_index n (2 ^ s + k) ≡ half_index n k + 2 ^ (30 - s)
  half_index_further =
      omega (
        arith,
        distance,
        ap (λ (t : ℕ). unit n * t)
            (low_bits (2 ^ s + k) (2 * reverse_bits s k + 1) (omega (arith, N.pow-succ' 2 s)) (reversed_second_half s k h)),
        ap (λ (t : ℕ). unit n * t) (low_bits k (2 * reverse_bits s k) (omega (arith, N.pow-succ' 2 s)) (reversed_first_half s k h)),
      )
    where
      -- a number of s + 1 bits
      low_bits : (p r : ℕ) → p < 2 ^ suc s → reverse_bits (suc s) p ≡ r
          → reverse_bits (n - 1) p ≡ r * 2 ^ (n - 2 - s) + reverse_bits (n - 2 - s) 0
      low_bits p r b e =
          let bits : n - 1 ≡ suc s + (n - 2 - s) = omega arith in
          ap (λ (t : ℕ). reverse_bits t p) bits ∙ reversed_parts (suc s) (n - 2 - s) p
          ∙ ap₂ (λ (t u : ℕ). t * 2 ^ (n - 2 - s) + reverse_bits (n - 2 - s) u) e (N.div-eq_of_lt b)

      distance : 2 ^ (30 - s) ≡ 4 * (unit n * 2 ^ (n - 2 - s))
      distance =
          let bits : 30 - s ≡ 2 + (30 - n + (n - 2 - s)) = omega arith in
          ap (λ (t : ℕ). 2 ^ t) bits ∙ W.pow-add 2 2 (30 - n + (n - 2 - s)) ∙ ap (λ (t : ℕ). 4 * t) (W.pow-add 2 (30 - n) (n - 2 - s))

  pub half_further : half_point n (2 ^ s + k) ≡ plus words31 (half_point n k) (index_point (2 ^ (30 - s)))
  half_further =
      ap index_point half_index_further ∙ sym (index_reduce (half_index n k + 2 ^ (30 - s))) ∙ index_add (half_index n k) (2 ^ (30 - s))

-- the one point of log size 1
pub half_point-one : (k : ℕ) → half_point 1 k ≡ (0, P - 1)
unfolding reverse_bits
half_point-one k = index_quarter

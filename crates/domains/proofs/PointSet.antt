-- Which points the canonic circle domain of log size n holds: 2^n different ones, x and y below P, and exactly those of the
-- circle whose x becomes 0 in n - 1 doublings.
use Rattle.std.specs.Prelude.{ℕ, suc, ◌+◌, ◌-◌, ◌*◌, ◌/◌, ◌%◌, ◌^◌, ◌≤◌, ◌<◌, ◌≡◌, map, ◌↔◌, length}
use Rattle.std.proofs.Common.{sym, ◌∙◌, arith, length-append}
use Rattle.std.proofs.Math.Path.{ap}
use Rattle.std.proofs.Math.Nat as N
use Rattle.std.proofs.Math.ListN.{get_or, get_or-append, get_or-map}
use Rattle.std.proofs.lemmas.List.{length-map}
use Rattle.std.proofs.Math.Seq.{get_or-append-add}
use Rattle.std.proofs.Math.Pow as W
use Rattle.algebra.specs.Listing.{listing-length, listing-at}
use Rattle.algebra.specs.M31.{P, m31, element}
use Rattle.algebra.specs.Homomorphism.{on_pair}
use Rattle.algebra.specs.Circle.{multiple, squares, OnCircle, double_x}
use Rattle.algebra.specs.CircleHomomorphism.{to_squares}
use Rattle.algebra.specs.Doubling.{iterate}
use Rattle.algebra.specs.Generator.{G}
use Rattle.algebra.proofs.ZeroX.{OddMultiple, odd_multiples}
use Rattle.fields.specs.Words.{words31}
use Rattle.fields.specs.Elements.{element_homomorphism}
use Rattle.fields.specs.Inverse.{m31_representation}
use Rattle.circle.specs.Index.{index_point, neg_index}
use Rattle.circle.specs.IndexPoints.{to_index_point, index_below, index_unique, index_equal, index_reduce}
use Rattle.circle.specs.LogOrder.{doubled_x_below, to_doubled_x}
use Rattle.orders.specs.Orders.{to_domain, to_coset}
use Rattle.orders.proofs.OrderLaws.{by_parity, even_to_domain, odd_to_domain, to_domain_below, to_coset_below, to_domain-to_coset}
use Rattle.domains.specs.Listing.{unit, coset_index, half_indices, domain_indices, domain_index}
use Rattle.domains.specs.PointSet.{PointSet}

-- ---- proof: what stands at each place of the lists

module _ (n : ℕ) (lo : 1 ≤ n) (hi : n ≤ 30) where
  pub two_halves : 2 ^ n ≡ 2 * 2 ^ (n - 1)
  two_halves = ap (λ (t : ℕ). 2 ^ t) (omega arith) ∙ N.pow-succ' 2 (n - 1)

  pub unit-half : unit n * 2 ^ (n - 1) ≡ 2 ^ 29
  unit-half =
      let bits : 30 - n + (n - 1) ≡ 29 = omega arith in
      sym (W.pow-add 2 (30 - n) (n - 1)) ∙ ap (λ (t : ℕ). 2 ^ t) bits

  -- an index of the half coset lies between 0 and 2^31
  pub half_bound : (i : ℕ) → i < 2 ^ (n - 1) → (0 < unit n + 4 * unit n * i) × (unit n + 4 * unit n * i < 2 ^ 31)
  half_bound i h = omega (arith, W.pow_pos (30 - n), unit-half, N.mul-le-mul_left (unit n) h)

  half_length : length (half_indices n) ≡ 2 ^ (n - 1)
  half_length = listing-length (2 ^ (n - 1)) _

  pub domain_length : length (domain_indices n) ≡ 2 ^ n
  unfolding domain_indices
  domain_length = simp (length-append, length-map) (omega (arith, half_length, two_halves))

  -- the first half of the domain, and the second
  pub domain_first : (i : ℕ) → i < 2 ^ (n - 1) → domain_index n i ≡ unit n + 4 * unit n * i
  unfolding domain_indices
  domain_first i h =
      get_or-append (half_indices n) _ 0 i (omega (arith, half_length))
      ∙ listing-at 0 (2 ^ (n - 1)) (λ i. unit n + 4 * unit n * i) i h

  domain_negative : (i : ℕ) → i < 2 ^ (n - 1) → domain_index n (2 ^ (n - 1) + i) ≡ neg_index (unit n + 4 * unit n * i)
  unfolding domain_indices
  domain_negative i h =
      ap (λ (t : ℕ). get_or (domain_indices n) (t + i) 0) (sym half_length)
      ∙ get_or-append-add (half_indices n) (map neg_index (half_indices n)) i 0
      ∙ get_or-map neg_index (half_indices n) i 0
      ∙ ap neg_index (listing-at 0 (2 ^ (n - 1)) (λ i. unit n + 4 * unit n * i) i h)

  pub domain_second : (i : ℕ) → i < 2 ^ (n - 1) → domain_index n (2 ^ (n - 1) + i) ≡ 2 ^ 31 - (unit n + 4 * unit n * i)
  domain_second i h = domain_negative i h ∙ N.mod-eq_of_lt (omega (arith, half_bound i h))

  odd_bound : (k : ℕ) → k < 2 ^ n → (0 < unit n * (2 * k + 1)) × (unit n * (2 * k + 1) < 2 ^ 31)
  odd_bound k h = omega (arith, W.pow_pos (30 - n), unit-half, N.mul-le-mul_left (unit n) h, ap (λ (t : ℕ). unit n * t) two_halves)

  coset_index_lem : (k : ℕ) → k < 2 ^ n → coset_index n k ≡ unit n * (2 * k + 1)
  coset_index_lem k h = N.mod-eq_of_lt (odd_bound k h).1

  -- the coset's k-th index stands in the domain where the order map says
  pub domain_coset : (k : ℕ) → k < 2 ^ n → domain_index n (to_domain (2 ^ n) k) ≡ coset_index n k
  domain_coset k h =
      by_parity (λ k. k < 2 ^ n → domain_index n (to_domain (2 ^ n) k) ≡ unit n * (2 * k + 1)) even odd k h ∙ sym (coset_index_lem k h)
    where
      even : (x : ℕ) → 2 * x < 2 ^ n → domain_index n (to_domain (2 ^ n) (2 * x)) ≡ unit n * (2 * (2 * x) + 1)
      even x h = ap (domain_index n) (even_to_domain (2 ^ n) x) ∙ domain_first x (omega (arith, two_halves)) ∙ omega arith

      odd : (x : ℕ) → 2 * x + 1 < 2 ^ n → domain_index n (to_domain (2 ^ n) (2 * x + 1)) ≡ unit n * (2 * (2 * x + 1) + 1)
      odd x h = ap (domain_index n) (odd_to_domain (2 ^ n) x (omega arith)) ∙ upper_index (2 ^ (n - 1) - 1 - x) (omega (arith, two_halves))
        where
          upper_index : (y : ℕ) → x + suc y ≡ 2 ^ (n - 1) → domain_index n (2 ^ n - 1 - x) ≡ unit n * (2 * (2 * x + 1) + 1)
          upper_index y e =
              let place : 2 ^ n - 1 - x ≡ 2 ^ (n - 1) + y = omega (arith, two_halves) in
              ap (domain_index n) place ∙ domain_second y (omega arith) ∙ omega (arith, unit-half, ap (λ (t : ℕ). unit n * t) e)

  pub even_size : 2 ^ n % 2 ≡ 0
  even_size = omega (arith, two_halves)

  -- element i is an odd multiple of h
  pub domain_at : (i : ℕ) → i < 2 ^ n → domain_index n i ≡ unit n * (2 * to_coset (2 ^ n) i + 1)
  domain_at i h =
      let below : to_coset (2 ^ n) i < 2 ^ n = to_coset_below (2 ^ n) even_size i h in
      ap (domain_index n) (sym (to_domain-to_coset (2 ^ n) even_size i h)) ∙ domain_coset (to_coset (2 ^ n) i) below
      ∙ coset_index_lem (to_coset (2 ^ n) i) below

  pub domain_bound : (i : ℕ) → i < 2 ^ n → (0 < domain_index n i) × (domain_index n i < 2 ^ 31)
  domain_bound i h = rw (domain_at i h) (odd_bound (to_coset (2 ^ n) i) (to_coset_below (2 ^ n) even_size i h))

-- ---- proof: the points

module _ (n : ℕ) (lo : 1 ≤ n) (hi : n ≤ 30) where
  points_apart : (i j : ℕ) → i < 2 ^ n → j < 2 ^ n → index_point (domain_index n i) ≡ index_point (domain_index n j) → i ≡ j
  points_apart i j h k e =
      sym (to_domain-to_coset (2 ^ n) (even_size n lo hi) i h) ∙ ap (to_domain (2 ^ n)) places
      ∙ to_domain-to_coset (2 ^ n) (even_size n lo hi) j k
    where
      indices : domain_index n i ≡ domain_index n j
      indices =
          sym (N.mod-eq_of_lt (domain_bound n lo hi i h).1) ∙ (index_equal (domain_index n i) (domain_index n j)).0 e
          ∙ N.mod-eq_of_lt (domain_bound n lo hi j k).1

      odd : 2 * to_coset (2 ^ n) i + 1 ≡ 2 * to_coset (2 ^ n) j + 1
      odd =
          N.eq_of_mul-eq-mul_left (unit n) (W.pow_pos (30 - n)) (2 * to_coset (2 ^ n) i + 1) (2 * to_coset (2 ^ n) j + 1)
          (sym (domain_at n lo hi i h) ∙ indices ∙ domain_at n lo hi j k)

      places : to_coset (2 ^ n) i ≡ to_coset (2 ^ n) j
      places = omega (arith, odd)

  unit_is_pow : 2 ^ (29 - (n - 1)) ≡ unit n
  unit_is_pow = ap (λ (t : ℕ). 2 ^ t) (omega arith)

  -- 2^n steps along the coset lead round the circle
  coset_index-mod : (k : ℕ) → coset_index n k ≡ coset_index n (k % 2 ^ n)
  coset_index-mod k = ap (λ (t : ℕ). t % 2 ^ 31) (index_past_size (k / 2 ^ n) (k % 2 ^ n) (N.div-add-mod k (2 ^ n)))
      ∙ N.add-mul-mod_self_right (unit n * (2 * (k % 2 ^ n) + 1)) (k / 2 ^ n) (2 ^ 31)
    where
      unit_times_size : unit n * 2 ^ n ≡ 2 ^ 30
      unit_times_size = omega (arith, ap (λ (t : ℕ). unit n * t) (two_halves n lo hi), unit-half n lo hi)

      index_past_size : (q r : ℕ) → 2 ^ n * q + r ≡ k → unit n * (2 * k + 1) ≡ unit n * (2 * r + 1) + q * 2 ^ 31
      index_past_size q r e = omega (arith, ap (λ (t : ℕ). unit n * t) e, ap (λ (t : ℕ). t * q) unit_times_size)

  module _ (x y : ℕ) (b : x < P) (c : y < P) where
    is_odd_multiple : (i : ℕ) × (i < 2 ^ n) × ((x, y) ≡ index_point (domain_index n i)) → OddMultiple (n - 1) (on_pair element (x, y))
    is_odd_multiple (i, h, e) = (
      to_coset (2 ^ n) i,
      ap (on_pair element) e ∙ to_index_point (domain_index n i)
          ∙ ap (λ (t : ℕ). multiple m31 t G) (domain_at n lo hi i h ∙ ap (λ (t : ℕ). t * (2 * to_coset (2 ^ n) i + 1)) (sym unit_is_pow)),
    )

    is_element : OddMultiple (n - 1) (on_pair element (x, y)) → (i : ℕ) × (i < 2 ^ n) × ((x, y) ≡ index_point (domain_index n i))
    is_element (j, e) =
        let h : j % 2 ^ n < 2 ^ n = N.mod-lt j (W.pow_pos n) in (
          to_domain (2 ^ n) (j % 2 ^ n),
          to_domain_below (2 ^ n) (even_size n lo hi) (j % 2 ^ n) h,
          index_unique (x, y) (2 ^ (29 - (n - 1)) * (2 * j + 1)) (b, c) e ∙ ap (λ (t : ℕ). index_point (t * (2 * j + 1))) unit_is_pow
              ∙ sym (index_reduce (unit n * (2 * j + 1))) ∙ ap index_point (coset_index-mod j ∙ sym (domain_coset n lo hi (j % 2 ^ n) h)),
        )

    abbrev InField : Type 0
    InField = OnCircle m31 (on_pair element (x, y)) × (iterate (n - 1) (double_x m31) (element x) ≡ m31.zero)

    abbrev InWords : Type 0
    InWords = (squares words31 (x, y) ≡ 1) × (iterate (n - 1) (double_x words31) x ≡ 0)

    to_field : InWords → InField
    to_field (on, e) =
        (sym (to_squares words31 m31 element element_homomorphism (x, y)) ∙ ap element on, sym (to_doubled_x (n - 1) x) ∙ ap element e)

    to_words : InField → InWords
    to_words (on, e) = (
      m31_representation.injective (squares words31 (x, y)) 1 (m31_representation.add-reduced _ _) m31_representation.one_reduced
          (to_squares words31 m31 element element_homomorphism (x, y) ∙ on),
      m31_representation.injective (iterate (n - 1) (double_x words31) x) 0 (doubled_x_below (n - 1) x b) m31_representation.zero_reduced
          (to_doubled_x (n - 1) x ∙ e),
    )

    points_exactly : ((i : ℕ) × (i < 2 ^ n) × ((x, y) ≡ index_point (domain_index n i))) ↔ InWords
    points_exactly =
        let odd : OddMultiple (n - 1) (on_pair element (x, y)) ↔ InField = odd_multiples (n - 1) (omega arith) (on_pair element (x, y)) in
        (λ r. to_words (odd.0 (is_odd_multiple r)), λ r. is_element (odd.1 (to_field r)))

pub point_set_lem : (n : ℕ) → 1 ≤ n → n ≤ 30 → PointSet n
point_set_lem n lo hi = record {
  size = domain_length n lo hi;
  first_half = domain_first n lo hi;
  second_half = domain_negative n lo hi;
  below = λ i h. index_below (domain_index n i);
  apart = points_apart n lo hi;
  exactly = points_exactly n lo hi;
}

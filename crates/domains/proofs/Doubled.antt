-- Doubling goes from the points of log size n + 1 to those of n; and no coordinate is zero but x at log size 1.
use Prim.Native.Nat.{ℕ, suc, ◌+◌, ◌-◌, ◌*◌, ◌/◌, ◌%◌, ◌^◌, ◌≤◌, ◌<◌}
use Rattle.std.specs.Prelude.{◌≡◌, [], ◌∷◌, ◌⊎◌}
use Rattle.std.proofs.Math.Path.{sym, ap}
use Rattle.std.proofs.Common.{◌∙◌, ap₂, inl, inr}
use Rattle.std.proofs.Math.Nat as N
use native.Mathlib.Omega.{arith}
use Rattle.std.proofs.Math.Pow as W
use Rattle.algebra.specs.Ring.{two}
use Rattle.algebra.specs.Polynomial.{Expr, ◌:*◌, :-◌, exprs, given, v0, v1}
use Rattle.algebra.specs.Solver.{solve_from}
use Rattle.algebra.specs.M31.{m31, m31_laws, element}
use Rattle.algebra.specs.Circle.{plus, double_x}
use Rattle.algebra.specs.Doubling.{iterate, double}
use Rattle.algebra.specs.CircleHomomorphism.{to_double_x}
use Rattle.fields.specs.Words.{neg_p, mul_p, words31}
use Rattle.fields.specs.Elements.{element_homomorphism}
use Rattle.fields.specs.Representation.{solve_words}
use Rattle.fields.specs.Inverse.{m31_representation, element_minus_one}
use Rattle.circle.specs.Index.{index_point}
use Rattle.circle.specs.IndexPoints.{index_below, index_on, index_double, index_y_zero, index_x_zero}
use Rattle.circle.specs.LogOrder.{doubled_x}
use Rattle.orders.specs.BitReverse.{reverse_bits, reversed_below}
use Rattle.orders.specs.Orders.{to_coset}
use Rattle.domains.specs.Listing.{unit, domain_index}
use Rattle.domains.proofs.PointSet.{two_halves, unit-half, half_bound, domain_first, domain_second, domain_at, domain_bound}
use Rattle.domains.specs.BitReversed.{half_index, half_point}
use Rattle.domains.proofs.BitReversed.{half_element, half_point-one}
use Rattle.domains.specs.Doubled.{DomainDoubled}

module _ (n : ℕ) (lo : 1 ≤ n) (hi : n ≤ 29) where
  -- twice the indices of the half coset's elements i and 2^(n - 1) + i
  twice_index : (c i : ℕ) → 2 * (unit (suc n) + 4 * unit (suc n) * (c * 2 ^ (n - 1) + i)) ≡ unit n + 4 * unit n * i + c * 2 ^ 31
  twice_index c i = shape (unit n) (unit (suc n)) (2 ^ (n - 1)) (unit-half n lo (omega arith)) units
    where
      units : unit n ≡ 2 * unit (suc n)
      units =
          let bits : 30 - n ≡ suc (30 - suc n) = omega arith in
          ap (λ (t : ℕ). 2 ^ t) bits ∙ N.pow-succ' 2 (30 - suc n)

      shape : (u v h : ℕ) → u * h ≡ 2 ^ 29 → u ≡ 2 * v → 2 * (v + 4 * v * (c * h + i)) ≡ u + 4 * u * i + c * 2 ^ 31
      shape u v h e f = omega (arith, ap (λ (t : ℕ). t * c) e, ap (λ (t : ℕ). t * h * c) f, ap (λ (t : ℕ). t * i) f)

  suc-minus_one : suc n - 1 ≡ n
  suc-minus_one = omega arith

  first_half_doubles : (c i j : ℕ) → i < 2 ^ (n - 1) → j < 2 ^ n → j ≡ c * 2 ^ (n - 1) + i
      → double words31 (index_point (domain_index (suc n) j)) ≡ index_point (domain_index n i)
  first_half_doubles c i j h b e =
      index_double (domain_index (suc n) j) (domain_index n i) c
      (ap (λ (t : ℕ). 2 * t) (domain_first (suc n) (omega arith) (omega arith) j (rw suc-minus_one b)
      ∙ ap (λ (t : ℕ). unit (suc n) + 4 * unit (suc n) * t) e)
      ∙ twice_index c i ∙ ap (λ (t : ℕ). t + c * 2 ^ 31) (sym (domain_first n lo (omega arith) i h)))

  second_half_doubles : (c i j : ℕ) → c ≤ 1 → i < 2 ^ (n - 1) → j < 2 ^ n → j ≡ c * 2 ^ (n - 1) + i
      → double words31 (index_point (domain_index (suc n) (2 ^ n + j))) ≡ index_point (domain_index n (2 ^ (n - 1) + i))
  second_half_doubles c i j a h b e =
      index_double (domain_index (suc n) (2 ^ n + j)) (domain_index n (2 ^ (n - 1) + i)) (1 - c)
      (omega (
        arith,
        rw suc-minus_one at (domain_second (suc n) (omega arith) (omega arith) j (rw suc-minus_one b)),
        domain_second n lo (omega arith) i h,
        half_bound n lo (omega arith) i h,
        ap (λ (t : ℕ). unit (suc n) * t) e,
        twice_index c i,
      ))

  pub domain_doubled : DomainDoubled n
  domain_doubled =
      let two : 2 ^ n ≡ 2 * 2 ^ (n - 1) = two_halves n lo (omega arith) in
      record {
        first_quarter = λ i h. first_half_doubles 0 i i h (omega arith) (omega arith);
        second_quarter = λ i h. first_half_doubles 1 i (2 ^ (n - 1) + i) h (omega arith) (omega arith);
        third_quarter = λ i h. second_half_doubles 0 i i (omega arith) h (omega arith) (omega arith);
        fourth_quarter = λ i h. second_half_doubles 1 i (2 ^ (n - 1) + i) (omega arith) h (omega arith) (omega arith);
      }

  -- point k of the half coset in bit-reversed order doubles to point k / 2
  pub half_double : (k : ℕ) → double words31 (half_point (suc n) k) ≡ half_point n (k / 2)
  unfolding reverse_bits
  half_double k =
      index_double (half_index (suc n) k) (half_index n (k / 2)) (k % 2)
      (ap (λ (t : ℕ). 2 * (unit (suc n) + 4 * unit (suc n) * reverse_bits t k)) bits ∙ twice_index (k % 2) (reverse_bits (n - 1) (k / 2)))
    where
      bits : suc n - 1 ≡ suc (n - 1)
      bits = omega arith

  -- x doubles to 2x² - 1
  pub half_double_x : (k : ℕ) → double_x words31 (half_point (suc n) k).0 ≡ (half_point n (k / 2)).0
  unfolding iterate
  half_double_x k =
      sym (doubled_x (half_point (suc n) k) (index_below (half_index (suc n) k)) (index_on (half_index (suc n) k)) 1)
      ∙ ap (λ (p : ℕ × ℕ). p.0) (half_double k)

  -- y doubles to 2xy
  pub half_double_y : (k : ℕ) → mul_p 2 (mul_p (half_point (suc n) k).0 (half_point (suc n) k).1) ≡ (half_point n (k / 2)).1
  half_double_y k =
      solve_words words31 m31 m31_representation ((half_point (suc n) k).0 ∷ (half_point (suc n) k).1 ∷ [])
      (two exprs :* (v0 :* v1)) (plus exprs (v0, v1) (v0, v1)).1 (m31_representation.mul-reduced _ _)
      (m31_representation.add-reduced _ _) tt
      ∙ ap (λ (p : ℕ × ℕ). p.1) (half_double k)

-- at log size 2, where 2x² = 1 and 2xy = -1, y is -x
pub half_two : (k : ℕ) → (half_point 2 k).1 ≡ neg_p (half_point 2 k).0
half_two k =
    m31_representation.injective y (neg_p x) (index_below (half_index 2 k)).1 (m31_representation.neg-reduced x)
    (solve_from m31 m31_laws (element x ∷ element y ∷ [])
    (given (:- v1) (double_x exprs v0) Expr.:0 ∷ given v0 (two exprs :* (v0 :* v1)) (:- Expr.:1) ∷ []) (x_zero, (xy_minus, tt)) v1
    (:- v0) tt
    ∙ sym (element_homomorphism.to_neg x))
  where
    x : ℕ
    x = (half_point 2 k).0

    y : ℕ
    y = (half_point 2 k).1

    x_zero : double_x m31 (element x) ≡ m31.zero
    x_zero = sym (to_double_x words31 m31 element element_homomorphism x)
        ∙ ap element (half_double_x 1 (omega arith) (omega arith) k ∙ ap (λ (p : ℕ × ℕ). p.0) (half_point-one (k / 2)))

    xy_minus : m31.mul (two m31) (m31.mul (element x) (element y)) ≡ m31.neg m31.one
    xy_minus =
        ap₂ m31.mul (sym (element_homomorphism.to_add 1 1)) (sym (element_homomorphism.to_mul x y))
        ∙ sym (element_homomorphism.to_mul 2 (mul_p x y))
        ∙ ap element (half_double_y 1 (omega arith) (omega arith) k ∙ ap (λ (p : ℕ × ℕ). p.1) (half_point-one (k / 2))) ∙ element_minus_one

-- ---- y = 0 holds at no point of a domain, and x = 0 only at those of log size 1

module _ (n : ℕ) (lo : 1 ≤ n) (hi : n ≤ 30) where
  -- an element's index is h times an odd number, and 2^29 is h 2^(n - 1)
  cofactor : (i c : ℕ) → i < 2 ^ n → domain_index n i ≡ 2 ^ 29 * c → 2 * to_coset (2 ^ n) i + 1 ≡ 2 ^ (n - 1) * c
  cofactor i c h e =
      N.eq_of_mul-eq-mul_left (unit n) (W.pow_pos (30 - n)) (2 * to_coset (2 ^ n) i + 1) (2 ^ (n - 1) * c)
      (sym (domain_at n lo hi i h) ∙ e ∙ ap (λ (t : ℕ). t * c) (sym (unit-half n lo hi)) ∙ N.mul_assoc (unit n) (2 ^ (n - 1)) c)

  pub domain_y_nonzero : (i : ℕ) → i < 2 ^ n → ¬ ((index_point (domain_index n i)).1 ≡ 0)
  domain_y_nonzero i h e =
      let b = domain_bound n lo hi i h in
      omega (arith, cofactor i 2 h (index_y_zero (domain_index n i) b.0 b.1 e))

  pub domain_x_nonzero : 2 ≤ n → (i : ℕ) → i < 2 ^ n → ¬ ((index_point (domain_index n i)).0 ≡ 0)
  domain_x_nonzero more i h e = let b = domain_bound n lo hi i h in neither (index_x_zero (domain_index n i) b.0 b.1 e)
    where
      half_is_two_quarters : 2 ^ (n - 1) ≡ 2 * 2 ^ (n - 1 - 1)
      half_is_two_quarters = two_halves (n - 1) (omega arith) (omega arith)

      neither : (domain_index n i ≡ 2 ^ 29) ⊎ (domain_index n i ≡ 3 * 2 ^ 29) → ⊥
      neither (inl w) = omega (arith, cofactor i 1 h w ∙ ap (λ (t : ℕ). t * 1) half_is_two_quarters)
      neither (inr w) = omega (arith, cofactor i 3 h w ∙ ap (λ (t : ℕ). t * 3) half_is_two_quarters)

  half_below : (k : ℕ) → reverse_bits (n - 1) k < 2 ^ n
  half_below k = omega (arith, reversed_below (n - 1) k, two_halves n lo hi)

  pub half_y_nonzero : (k : ℕ) → ¬ ((half_point n k).1 ≡ 0)
  half_y_nonzero k e =
      domain_y_nonzero (reverse_bits (n - 1) k) (half_below k) (ap (λ (t : ℕ). (index_point t).1) (half_element n lo hi k) ∙ e)

  pub half_x_nonzero : 2 ≤ n → (k : ℕ) → ¬ ((half_point n k).0 ≡ 0)
  half_x_nonzero more k e =
      domain_x_nonzero more (reverse_bits (n - 1) k) (half_below k) (ap (λ (t : ℕ). (index_point t).0) (half_element n lo hi k) ∙ e)

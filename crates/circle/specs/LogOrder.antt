-- On the circle `log_order` is the least count of doublings that reach zero, and it is at most 31.
use Rattle.std.specs.Prelude.{◌≡◌, ℕ, zero, suc, ◌<◌, ◌≤◌, Bool, true, false, cond, ◌&&◌, ◌==◌, nat_eq, refl}
use Rattle.std.proofs.Common.{sym, ◌∙◌, ap, ap₂, true≢false, arith, eqb-true}
use Rattle.std.proofs.Math.Bool.{and-eq-true_iff}
use Rattle.std.proofs.Math.Nat as N
use Rattle.algebra.specs.M31.{P, m31, m31_laws, element}
use Rattle.algebra.proofs.M31.{m31_field}
use Rattle.algebra.specs.Homomorphism.{on_pair}
use Rattle.algebra.specs.Circle.{zero_point, OnCircle, double_x}
use Rattle.algebra.specs.CircleHomomorphism.{to_squares, to_doublings, to_doublings_x}
use Rattle.algebra.specs.Doubling.{iterate, double, on_doublings, doublings_x, zero_by_x}
use Rattle.algebra.proofs.Doubling.{doublings_31}
use Rattle.fields.specs.Words.{words31}
use Rattle.fields.specs.Elements.{element_homomorphism}
use Rattle.fields.specs.Inverse.{m31_representation}
use Rattle.fields.specs.Search.{first}
use Rattle.circle.specs.Point.{is_zero, log_order}
use Rattle.circle.specs.Points.{PointReduced, point_injective, doublings_reduced}

-- n doublings of a point
abbrev pub doubled : ℕ → ℕ × ℕ → ℕ × ℕ
doubled n p = iterate n (double words31) p

abbrev Words : ℕ × ℕ → Type 0
Words p = PointReduced words31 m31 m31_representation p

-- n doublings of an x reach 1
abbrev pub is_one_after : ℕ → ℕ → Bool
is_one_after x n = iterate n (double_x words31) x == 1

pub doubled_x_below : (n x : ℕ) → x < P → iterate n (double_x words31) x < P
unfolding iterate
doubled_x_below zero x h = h
doubled_x_below (suc n) x h = doubled_x_below n (double_x words31 x) (m31_representation.add-reduced _ _)

pub to_doubled_x : (n x : ℕ) → element (iterate n (double_x words31) x) ≡ iterate n (double_x m31) (element x)
to_doubled_x = to_doublings_x words31 m31 element element_homomorphism

first_same : (s t : ℕ → Bool) (n : ℕ) → ((k : ℕ) → s k ≡ t k) → first s n ≡ first t n
unfolding first
first_same s t zero e = refl
first_same s t (suc n) e =
    ap₂ (λ (u : Bool) (m : ℕ). cond u 0 (suc m)) (e 0) (first_same (λ k. s (suc k)) (λ k. t (suc k)) n (λ k. e (suc k)))

least_case : (test : ℕ → Bool) (m j : ℕ) (t : Bool) → test 0 ≡ t → ((i : ℕ) → i < m → test (suc i) ≡ false) → j < cond t 0 (suc m)
    → test j ≡ false
least_case test m j true e r l = absurd (N.not-suc-le-zero l)
least_case test m zero false e r l = e
least_case test m (suc j) false e r l = r j (N.le_of_suc-le-suc l)

first_least : (test : ℕ → Bool) (n j : ℕ) → j < first test n → test j ≡ false
unfolding first
first_least test zero j l = absurd (N.not-suc-le-zero l)
first_least test (suc n) j l = least_case test (first (λ k. test (suc k)) n) j (test 0) refl (first_least (λ k. test (suc k)) n) l

most_case : (t : Bool) (m n : ℕ) → m ≤ n → cond t 0 (suc m) ≤ suc n
most_case true m n h = omega arith
most_case false m n h = omega arith

first_most : (test : ℕ → Bool) (n : ℕ) → first test n ≤ n
unfolding first
first_most test zero = omega arith
first_most test (suc n) = most_case (test 0) (first (λ k. test (suc k)) n) n (first_most (λ k. test (suc k)) n)

reaches_case : (test : ℕ → Bool) (m : ℕ) (t : Bool) → test 0 ≡ t → test (suc m) ≡ true → test (cond t 0 (suc m)) ≡ true
reaches_case test m true e h = e
reaches_case test m false e h = h

-- where the test holds at n, it holds at the first place
first_reaches : (test : ℕ → Bool) (n : ℕ) → test n ≡ true → test (first test n) ≡ true
unfolding first
first_reaches test zero h = h
first_reaches test (suc n) h = reaches_case test (first (λ k. test (suc k)) n) (test 0) refl (first_reaches (λ k. test (suc k)) n h)

is_zero_lem : (p : ℕ × ℕ) → is_zero p ≡ true → p ≡ zero_point words31
is_zero_lem p e = let h = (and-eq-true_iff (p.0 == 1) (p.1 == 0)).0 e in λ i. (eqb-true p.0 1 h.0 i, eqb-true p.1 0 h.1 i)

is_zero_holds : (p : ℕ × ℕ) → p ≡ zero_point words31 → is_zero p ≡ true
is_zero_holds p e = ap is_zero e

module _ (p : ℕ × ℕ) (h : Words p) (on : OnCircle words31 p) where
  on_field : OnCircle m31 (on_pair element p)
  on_field = sym (to_squares words31 m31 element element_homomorphism p) ∙ ap element on

  to_doubled : (n : ℕ) → on_pair element (doubled n p) ≡ iterate n (double m31) (on_pair element p)
  to_doubled n = to_doublings words31 m31 element element_homomorphism n p

  is_zero_point : (n : ℕ) → iterate n (double m31) (on_pair element p) ≡ zero_point m31 → doubled n p ≡ zero_point words31
  is_zero_point n e =
      point_injective words31 m31 m31_representation (doubled n p) (zero_point words31)
      (doublings_reduced words31 m31 m31_representation n p h)
      (m31_representation.one_reduced, m31_representation.zero_reduced) (to_doubled n ∙ e)

  -- 31 doublings reach zero
  doubled_31 : doubled 31 p ≡ zero_point words31
  doubled_31 = is_zero_point 31 (doublings_31 (on_pair element p) on_field)

  -- on the circle x alone tells zero
  zero_where_one : (n : ℕ) → (doubled n p).0 ≡ 1 → doubled n p ≡ zero_point words31
  zero_where_one n e =
      is_zero_point n
      (zero_by_x m31 m31_field (iterate n (double m31) (on_pair element p)) (on_doublings m31 m31_laws n (on_pair element p) on_field)
      (sym (ap (λ t. t.0) (to_doubled n)) ∙ ap element e))

  -- on the circle the x of the doubled points needs no y
  pub doubled_x : (n : ℕ) → (doubled n p).0 ≡ iterate n (double_x words31) p.0
  doubled_x n =
      m31_representation.injective (doubled n p).0 (iterate n (double_x words31) p.0)
      (doublings_reduced words31 m31 m31_representation n p h).0
      (doubled_x_below n p.0 h.0)
      (ap (λ t. t.0) (to_doubled n) ∙ doublings_x m31 m31_laws n (on_pair element p) on_field ∙ sym (to_doubled_x n p.0))

  zero_test : (n : ℕ) (t : Bool) → is_one_after p.0 n ≡ t → is_zero (doubled n p) ≡ t
  zero_test n true e = is_zero_holds (doubled n p) (zero_where_one n (doubled_x n ∙ eqb-true (iterate n (double_x words31) p.0) 1 e))
  zero_test n false e = ap (λ (u : Bool). u && (doubled n p).1 == 0) (ap (λ (x : ℕ). nat_eq x 1) (doubled_x n) ∙ e)

  -- on the circle x alone gives the log order
  pub log_order_x : log_order p ≡ first (is_one_after p.0) 31
  unfolding log_order
  log_order_x = first_same (λ n. is_zero (doubled n p)) (is_one_after p.0) 31 (λ n. zero_test n (is_one_after p.0 n) refl)

  pub log_order_reaches : doubled (log_order p) p ≡ zero_point words31
  unfolding log_order
  log_order_reaches =
      is_zero_lem (doubled (log_order p) p) (first_reaches (λ n. is_zero (doubled n p)) 31 (is_zero_holds (doubled 31 p) doubled_31))

-- for any point, on the circle or off it
pub log_order-least : (p : ℕ × ℕ) (n : ℕ) → n < log_order p → ¬ (doubled n p ≡ zero_point words31)
unfolding log_order
log_order-least p n l e = true≢false (sym (is_zero_holds (doubled n p) e) ∙ first_least (λ m. is_zero (doubled m p)) 31 n l)

pub log_order_most : (p : ℕ × ℕ) → log_order p ≤ 31
unfolding log_order
log_order_most p = first_most (λ n. is_zero (doubled n p)) 31

-- The circle group over a ring: the pairs (x, y) with x² + y² = 1. They are the elements of norm 1 of O[i].
use Prim.Native.Nat.{ℕ, zero, suc, ◌+◌, ◌*◌, ◌/◌, ◌%◌}
use Rattle.std.specs.Prelude.{◌≡◌, [], ◌∷◌}
use Rattle.std.proofs.Math.Path.{refl, ap}
use Rattle.std.proofs.Common.{sym, ◌∙◌, ap₂, arith}
use Rattle.algebra.specs.Ring.{Ops, Laws, sub, two}
use Rattle.algebra.specs.Polynomial.{Expr, ◌:*◌, :-◌, exprs, given, v0, v1, v2, v3, v4, v5}
use Rattle.algebra.specs.Solver.{solve, solve_pair, solve_from}
use Rattle.algebra.specs.Power.{pow, pow-add, pow-mul, one-pow}
use Rattle.algebra.specs.Extension.{conjugate, norm}
use Rattle.algebra.specs.Tower.{complex, complex_laws}

-- (x, y) + (z, w) = (xz - yw, xw + yz)
abbrev pub plus : (O : Ops) → O.El × O.El → O.El × O.El → O.El × O.El
plus O p q = (sub O (O.mul p.0 q.0) (O.mul p.1 q.1), O.add (O.mul p.0 q.1) (O.mul p.1 q.0))

-- (1, 0)
abbrev pub zero_point : (O : Ops) → O.El × O.El
zero_point O = (O.one, O.zero)

-- p added k times to zero
unfoldable pub multiple : (O : Ops) → ℕ → O.El × O.El → O.El × O.El
multiple O zero p = zero_point O
multiple O (suc k) p = plus O p (multiple O k p)

-- x² + y²
abbrev pub squares : (O : Ops) → O.El × O.El → O.El
squares O p = O.add (O.mul p.0 p.0) (O.mul p.1 p.1)

abbrev pub OnCircle : (O : Ops) → O.El × O.El → Type 0
OnCircle O p = squares O p ≡ O.one

-- 2x² - 1
abbrev pub double_x : (O : Ops) → O.El → O.El
double_x O x = sub O (O.mul (two O) (O.mul x x)) O.one

module _ (O : Ops) (L : Laws O) where
  -- for all pairs, on the circle or off it
  pub plus_assoc : (p q s : O.El × O.El) → plus O (plus O p q) s ≡ plus O p (plus O q s)
  plus_assoc p q s =
      solve_pair O L (p.0 ∷ p.1 ∷ q.0 ∷ q.1 ∷ s.0 ∷ s.1 ∷ [])
      (plus exprs (plus exprs (v0, v1) (v2, v3)) (v4, v5)) (plus exprs (v0, v1) (plus exprs (v2, v3) (v4, v5))) (tt, tt)

  pub plus_comm : (p q : O.El × O.El) → plus O p q ≡ plus O q p
  plus_comm p q = solve_pair O L (p.0 ∷ p.1 ∷ q.0 ∷ q.1 ∷ []) (plus exprs (v0, v1) (v2, v3)) (plus exprs (v2, v3) (v0, v1)) (tt, tt)

  pub plus-zero : (p : O.El × O.El) → plus O p (zero_point O) ≡ p
  plus-zero p = solve_pair O L (p.0 ∷ p.1 ∷ []) (plus exprs (v0, v1) (zero_point exprs)) (v0, v1) (tt, tt)

  -- the sum is the product of O[i], so a multiple is a power there
  pub plus-mul : (p q : O.El × O.El) → plus O p q ≡ (complex O).mul p q
  plus-mul p q =
      solve_pair O L (p.0 ∷ p.1 ∷ q.0 ∷ q.1 ∷ []) (plus exprs (v0, v1) (v2, v3)) ((complex exprs).mul (v0, v1) (v2, v3)) (tt, tt)

  pub multiple-pow : (k : ℕ) (p : O.El × O.El) → multiple O k p ≡ pow (complex O) p k
  unfolding multiple pow
  multiple-pow zero p = refl
  multiple-pow (suc k) p = ap (plus O p) (multiple-pow k p) ∙ plus-mul p (pow (complex O) p k)

  pub multiple-add : (m n : ℕ) (p : O.El × O.El) → multiple O (m + n) p ≡ plus O (multiple O m p) (multiple O n p)
  multiple-add m n p =
      multiple-pow (m + n) p ∙ pow-add (complex O) (complex_laws O L) p m n ∙ sym (plus-mul (pow (complex O) p m) (pow (complex O) p n))
      ∙ sym (ap₂ (plus O) (multiple-pow m p) (multiple-pow n p))

  pub multiple-mul : (m n : ℕ) (p : O.El × O.El) → multiple O (m * n) p ≡ multiple O m (multiple O n p)
  multiple-mul m n p =
      multiple-pow (m * n) p ∙ pow-mul (complex O) (complex_laws O L) p m n
      ∙ sym (multiple-pow m (multiple O n p) ∙ ap (λ t. pow (complex O) t m) (multiple-pow n p))

  pub multiple-one : (p : O.El × O.El) → multiple O 1 p ≡ p
  unfolding multiple
  multiple-one p = plus-zero p

  pub multiple-two : (p : O.El × O.El) → multiple O 2 p ≡ plus O p p
  unfolding multiple
  multiple-two p = ap (plus O p) (plus-zero p)

  -- one step of double-and-add: the lowest bit of the count is used, and the point doubled
  pub double_and_add : (a p : O.El × O.El) (n : ℕ)
      → plus O (plus O a (multiple O (n % 2) p)) (multiple O (n / 2) (plus O p p)) ≡ plus O a (multiple O n p)
  double_and_add a p n =
      plus_assoc a (multiple O (n % 2) p) (multiple O (n / 2) (plus O p p))
      ∙ ap (plus O a) (ap (λ t. plus O (multiple O (n % 2) p) (multiple O (n / 2) t)) (sym (multiple-two p))
      ∙ ap (plus O (multiple O (n % 2) p)) (sym (multiple-mul (n / 2) 2 p)) ∙ sym (multiple-add (n % 2) (n / 2 * 2) p)
      ∙ ap (λ t. multiple O t p) div-mod_2)
    where
      div-mod_2 : n % 2 + n / 2 * 2 ≡ n
      div-mod_2 = omega arith

  pub multiple-zero_point : (m : ℕ) → multiple O m (zero_point O) ≡ zero_point O
  multiple-zero_point m = multiple-pow m (zero_point O) ∙ one-pow (complex O) (complex_laws O L) m

  -- x² + y² is the norm of x + yi
  pub squares-norm : (p : O.El × O.El) → squares O p ≡ norm O (O.neg O.one) p
  squares-norm p = solve O L (p.0 ∷ p.1 ∷ []) (squares exprs (v0, v1)) (norm exprs (:- Expr.:1) (v0, v1)) tt

  -- the circle is a group, in which the conjugate is the inverse
  pub on_zero : OnCircle O (zero_point O)
  on_zero = solve O L [] (squares exprs (zero_point exprs)) Expr.:1 tt

  pub on_plus : (p q : O.El × O.El) → OnCircle O p → OnCircle O q → OnCircle O (plus O p q)
  on_plus p q h k =
      solve O L (p.0 ∷ p.1 ∷ q.0 ∷ q.1 ∷ []) (squares exprs (plus exprs (v0, v1) (v2, v3)))
      (squares exprs (v0, v1) :* squares exprs (v2, v3)) tt
      ∙ ap₂ O.mul h k ∙ L.mul-one O.one

  pub on_multiple : (k : ℕ) (p : O.El × O.El) → OnCircle O p → OnCircle O (multiple O k p)
  unfolding multiple
  on_multiple zero p h = on_zero
  on_multiple (suc k) p h = on_plus p (multiple O k p) h (on_multiple k p h)

  pub on_conjugate : (p : O.El × O.El) → OnCircle O p → OnCircle O (conjugate O p)
  on_conjugate p h = solve O L (p.0 ∷ p.1 ∷ []) (squares exprs (conjugate exprs (v0, v1))) (squares exprs (v0, v1)) tt ∙ h

  pub plus-conjugate : (p : O.El × O.El) → OnCircle O p → plus O p (conjugate O p) ≡ zero_point O
  plus-conjugate p h = λ i. (x_is_one i, y_is_zero i)
    where
      x_is_one : (plus O p (conjugate O p)).0 ≡ O.one
      x_is_one =
          solve_from O L (p.0 ∷ p.1 ∷ []) (given Expr.:1 (squares exprs (v0, v1)) Expr.:1 ∷ []) (h, tt)
          (plus exprs (v0, v1) (conjugate exprs (v0, v1))).0 Expr.:1 tt

      y_is_zero : (plus O p (conjugate O p)).1 ≡ O.zero
      y_is_zero = solve O L (p.0 ∷ p.1 ∷ []) (plus exprs (v0, v1) (conjugate exprs (v0, v1))).1 Expr.:0 tt

  -- the x of p + p, on the circle
  pub plus_self_x : (p : O.El × O.El) → OnCircle O p → (plus O p p).0 ≡ double_x O p.0
  plus_self_x p h =
      solve_from O L (p.0 ∷ p.1 ∷ []) (given (:- Expr.:1) (squares exprs (v0, v1)) Expr.:1 ∷ []) (h, tt)
      (plus exprs (v0, v1) (v0, v1)).0 (double_x exprs v0) tt

-- The extension of a field by a square root of a non-square is a field.
use Rattle.std.specs.Prelude.{◌≡◌, [], ◌∷◌}
use Rattle.std.proofs.Common.{ap}
use Rattle.algebra.specs.Ring.{Ops}
use Rattle.algebra.specs.Polynomial.{Expr, ◌:+◌, ◌:*◌, :-◌, exprs, given, v0, v1, v2, v3}
use Rattle.algebra.specs.Solver.{solve, solve_from}
use Rattle.algebra.specs.Extension.{ext, ext_laws, norm, ext_inverse}
use Rattle.algebra.specs.Field.{Field, square_zero}

-- (a + b t)(a s - b s t), with s the inverse of the norm
abbrev product : Expr × Expr
product = (ext exprs v3).mul (v0, v1) (v0 :* v2, :- (v1 :* v2))

module _ (O : Ops) (F : Field O) (r : O.El) (nonsquare : (x : O.El) → ¬ (O.mul x x ≡ r)) where
  open O use {El, zero as 𝟘, one as 𝟙, mul as ◌⊗◌, neg as ⊖◌}
  open F use {laws as L, inv, mul_inv, one_nonzero, is_zero}

  infixl 70 ◌⊗◌
  infix 80 ⊖◌
  -- a² = r b² with b ≠ 0 would make a b⁻¹ a root of r
  second_zero : (p : El × El) → norm O r p ≡ 𝟘 → p.1 ≡ 𝟘
  second_zero p h = elim (is_zero p.1) [ yes z ↦ z | no n ↦ absurd (nonsquare (p.0 ⊗ inv p.1) (root n)) ]
    where
      root : ¬ (p.1 ≡ 𝟘) → p.0 ⊗ inv p.1 ⊗ (p.0 ⊗ inv p.1) ≡ r
      root n =
          solve_from O L (p.0 ∷ p.1 ∷ inv p.1 ∷ r ∷ [])
          (given (v2 :* v2) (norm exprs v3 (v0, v1)) Expr.:0 ∷ given (v3 :* (v1 :* v2 :+ Expr.:1)) (v1 :* v2) Expr.:1 ∷ [])
          (h, (mul_inv p.1 n, tt))
          (v0 :* v2 :* (v0 :* v2)) v3 tt

  pub norm-zero : (p : El × El) → norm O r p ≡ 𝟘 → p ≡ (𝟘, 𝟘)
  norm-zero p h = λ i. (first_zero i, second_zero p h i)
    where
      first_zero : p.0 ≡ 𝟘
      first_zero =
          square_zero O F p.0
          (solve_from O L (p.0 ∷ p.1 ∷ r ∷ [])
          (given Expr.:1 (norm exprs v2 (v0, v1)) Expr.:0 ∷ given (v2 :* v1) v1 Expr.:0 ∷ []) (h, (second_zero p h, tt))
          (v0 :* v0) Expr.:0 tt)

  pub ext-mul_inv : (p : El × El) → ¬ (p ≡ (𝟘, 𝟘)) → (ext O r).mul p (ext_inverse O r inv p) ≡ (𝟙, 𝟘)
  ext-mul_inv p np = λ i. (first_is_one i, second_is_zero i)
    where
      inverse : norm O r p ⊗ inv (norm O r p) ≡ 𝟙
      inverse = mul_inv (norm O r p) (λ z. np (norm-zero p z))

      first_is_one : ((ext O r).mul p (ext_inverse O r inv p)).0 ≡ 𝟙
      first_is_one =
          solve_from O L (p.0 ∷ p.1 ∷ inv (norm O r p) ∷ r ∷ [])
          (given Expr.:1 (norm exprs v3 (v0, v1) :* v2) Expr.:1 ∷ []) (inverse, tt) product.0 Expr.:1 tt

      second_is_zero : ((ext O r).mul p (ext_inverse O r inv p)).1 ≡ 𝟘
      second_is_zero = solve O L (p.0 ∷ p.1 ∷ inv (norm O r p) ∷ r ∷ []) product.1 Expr.:0 tt

  pub both_zero : (p : El × El) → Dec (p.0 ≡ 𝟘) → Dec (p.1 ≡ 𝟘) → Dec (p ≡ (𝟘, 𝟘))
  both_zero p (yes x) (yes y) = yes (λ i. (x i, y i))
  both_zero p (no n) d = no (λ e. n (ap (λ q. q.0) e))
  both_zero p (yes x) (no n) = no (λ e. n (ap (λ q. q.1) e))

  abbrev pub ext_field : Field (ext O r)
  ext_field = record {
    laws = ext_laws O L r;
    inv = ext_inverse O r inv;
    mul_inv = ext-mul_inv;
    one_nonzero = λ e. one_nonzero (ap (λ p. p.0) e);
    is_zero = λ p. both_zero p (is_zero p.0) (is_zero p.1);
  }

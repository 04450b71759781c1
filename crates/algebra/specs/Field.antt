-- Fields, and what holds in every field.
use Rattle.std.specs.Prelude.{◌≡◌, [], ◌∷◌, ◌⊎◌}
use Rattle.std.proofs.Common.{sym, ◌∙◌, ap, ap₂, inl, inr}
use Rattle.algebra.specs.Ring.{Ops, Laws}
use Rattle.algebra.specs.Ring as R
use Rattle.algebra.specs.Polynomial.{Expr, ◌:+◌, ◌:*◌, :-◌, given, v0, v1, v2, v3}
use Rattle.algebra.specs.Solver.{solve_from}

pub record Field (O : Ops) : Type 0 where
  pub laws : Laws O
  pub inv : O.El → O.El
  pub mul_inv : (a : O.El) → ¬ (a ≡ O.zero) → O.mul a (inv a) ≡ O.one
  pub one_nonzero : ¬ (O.one ≡ O.zero)
  pub is_zero : (a : O.El) → Dec (a ≡ O.zero)

module _ (O : Ops) (F : Field O) where
  open O use {El, zero as 𝟘, one as 𝟙, add as ◌⊕◌, mul as ◌⊗◌, neg as ⊖◌}
  open F use {laws as L, inv, mul_inv, one_nonzero, is_zero}

  infixl 65 ◌⊕◌
  infixl 70 ◌⊗◌
  infix 80 ⊖◌
  -- no zero divisors: b = (a⁻¹ a) b = a⁻¹ (a b) = 0
  pub zero_factor : (a b : El) → ¬ (a ≡ 𝟘) → a ⊗ b ≡ 𝟘 → b ≡ 𝟘
  zero_factor a b na h =
      solve_from O L (a ∷ b ∷ inv a ∷ [])
      (given (:- v1) (v0 :* v2) Expr.:1 ∷ given v2 (v0 :* v1) Expr.:0 ∷ []) (mul_inv a na, (h, tt)) v1 Expr.:0 tt

  pub mul-nonzero : (a b : El) → ¬ (a ≡ 𝟘) → ¬ (b ≡ 𝟘) → ¬ (a ⊗ b ≡ 𝟘)
  mul-nonzero a b na nb h = nb (zero_factor a b na h)

  pub square_zero : (a : El) → a ⊗ a ≡ 𝟘 → a ≡ 𝟘
  square_zero a h = elim (is_zero a) [ yes z ↦ z | no n ↦ zero_factor a a n h ]

  -- a and b have one square only where a = b or a = - b: (a - b)(a + b) = 0
  pub square_equal : (a b : El) → a ⊗ a ≡ b ⊗ b → (a ≡ b) ⊎ (a ≡ ⊖ b)
  square_equal a b h = elim (is_zero (a ⊕ ⊖ b)) [
    | yes z ↦ inl (R.equal_of_sub_zero O L a b z)
    | no n ↦ inr (solve_from O L (a ∷ b ∷ []) (given Expr.:1 (v0 :+ v1) Expr.:0 ∷ []) (sum-zero n, tt) v0 (:- v1) tt)
  ]
    where
      sum-zero : ¬ (a ⊕ ⊖ b ≡ 𝟘) → a ⊕ b ≡ 𝟘
      sum-zero n =
          zero_factor (a ⊕ ⊖ b) (a ⊕ b) n
          (solve_from O L (a ∷ b ∷ []) (given Expr.:1 (v0 :* v0) (v1 :* v1) ∷ []) (h, tt) ((v0 :+ :- v1) :* (v0 :+ v1)) Expr.:0 tt)

  pub cancel : (a b c : El) → ¬ (a ≡ 𝟘) → a ⊗ b ≡ a ⊗ c → b ≡ c
  cancel a b c na h =
      solve_from O L (a ∷ b ∷ c ∷ inv a ∷ [])
      (given (v2 :+ :- v1) (v0 :* v3) Expr.:1 ∷ given v3 (v0 :* v1) (v0 :* v2) ∷ []) (mul_inv a na, (h, tt)) v1 v2 tt

  pub nonzero_of_inverse : (a b : El) → a ⊗ b ≡ 𝟙 → ¬ (a ≡ 𝟘)
  nonzero_of_inverse a b h z = one_nonzero (sym h ∙ ap (λ t. t ⊗ b) z ∙ R.zero-mul O L b)

  pub inv_unique : (a b : El) → a ⊗ b ≡ 𝟙 → b ≡ inv a
  inv_unique a b h = cancel a b (inv a) na (h ∙ sym (mul_inv a na))
    where
      na : ¬ (a ≡ 𝟘)
      na = nonzero_of_inverse a b h

  pub inv_mul : (a b : El) → ¬ (a ≡ 𝟘) → ¬ (b ≡ 𝟘) → inv (a ⊗ b) ≡ inv a ⊗ inv b
  inv_mul a b na nb =
      sym (inv_unique (a ⊗ b) (inv a ⊗ inv b)
      (R.mul_swap O L a b (inv a) (inv b) ∙ ap₂ ◌⊗◌ (mul_inv a na) (mul_inv b nb) ∙ L.mul-one 𝟙))

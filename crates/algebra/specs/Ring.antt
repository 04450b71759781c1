-- Commutative rings: the operations, the laws over them, and what follows from the laws at once.
use Rattle.std.specs.Prelude.{◌≡◌}
use Rattle.std.proofs.Common.{sym, ◌∙◌, ap, ap₂}

-- operations alone, with no laws: words modulo P and expressions have them too
pub record Ops : Type 1 where
  pub El : Type 0
  pub zero : El
  pub one : El
  pub add : El → El → El
  pub mul : El → El → El
  pub neg : El → El

-- a + (- b)
abbrev pub sub : (O : Ops) → O.El → O.El → O.El
sub O a b = O.add a (O.neg b)

-- 1 + 1
abbrev pub two : (O : Ops) → O.El
two O = O.add O.one O.one

module _ (O : Ops) where
  open O use {El, zero as 𝟘, one as 𝟙, add as ◌⊕◌, mul as ◌⊗◌, neg as ⊖◌}

  infixl 65 ◌⊕◌
  infixl 70 ◌⊗◌
  infix 80 ⊖◌
  pub record Laws : Type 0 where
    pub add_assoc : (a b c : El) → a ⊕ b ⊕ c ≡ a ⊕ (b ⊕ c)
    pub add_comm : (a b : El) → a ⊕ b ≡ b ⊕ a
    pub add-zero : (a : El) → a ⊕ 𝟘 ≡ a
    pub add-neg : (a : El) → a ⊕ ⊖ a ≡ 𝟘
    pub mul_assoc : (a b c : El) → a ⊗ b ⊗ c ≡ a ⊗ (b ⊗ c)
    pub mul_comm : (a b : El) → a ⊗ b ≡ b ⊗ a
    pub mul-one : (a : El) → a ⊗ 𝟙 ≡ a
    pub mul-add : (a b c : El) → a ⊗ (b ⊕ c) ≡ a ⊗ b ⊕ a ⊗ c

-- what the solver rests on
module _ (O : Ops) (L : Laws O) where
  open O use {El, zero as 𝟘, one as 𝟙, add as ◌⊕◌, mul as ◌⊗◌, neg as ⊖◌}
  open L use {add_assoc, add_comm, add-zero, add-neg, mul_assoc, mul_comm, mul-one, mul-add}

  infixl 65 ◌⊕◌
  infixl 70 ◌⊗◌
  infix 80 ⊖◌
  pub zero-add : (a : El) → 𝟘 ⊕ a ≡ a
  zero-add a = add_comm 𝟘 a ∙ add-zero a

  pub one-mul : (a : El) → 𝟙 ⊗ a ≡ a
  one-mul a = mul_comm 𝟙 a ∙ mul-one a

  pub add-mul : (a b c : El) → (a ⊕ b) ⊗ c ≡ a ⊗ c ⊕ b ⊗ c
  add-mul a b c = mul_comm (a ⊕ b) c ∙ mul-add c a b ∙ ap₂ ◌⊕◌ (mul_comm c a) (mul_comm c b)

  pub add_left_comm : (a b c : El) → a ⊕ (b ⊕ c) ≡ b ⊕ (a ⊕ c)
  add_left_comm a b c = sym (add_assoc a b c) ∙ ap (λ t. t ⊕ c) (add_comm a b) ∙ add_assoc b a c

  pub mul_left_comm : (a b c : El) → a ⊗ (b ⊗ c) ≡ b ⊗ (a ⊗ c)
  mul_left_comm a b c = sym (mul_assoc a b c) ∙ ap (λ t. t ⊗ c) (mul_comm a b) ∙ mul_assoc b a c

  pub add_swap : (a b c d : El) → a ⊕ b ⊕ (c ⊕ d) ≡ a ⊕ c ⊕ (b ⊕ d)
  add_swap a b c d = add_assoc a b (c ⊕ d) ∙ ap (◌⊕◌ a) (add_left_comm b c d) ∙ sym (add_assoc a c (b ⊕ d))

  pub mul_swap : (a b c d : El) → a ⊗ b ⊗ (c ⊗ d) ≡ a ⊗ c ⊗ (b ⊗ d)
  mul_swap a b c d = mul_assoc a b (c ⊗ d) ∙ ap (◌⊗◌ a) (mul_left_comm b c d) ∙ sym (mul_assoc a c (b ⊗ d))

  pub add_cancel : (a b c : El) → a ⊕ c ≡ b ⊕ c → a ≡ b
  add_cancel a b c p = sym (back a) ∙ ap (λ t. t ⊕ ⊖ c) p ∙ back b
    where
      back : (x : El) → x ⊕ c ⊕ ⊖ c ≡ x
      back x = add_assoc x c (⊖ c) ∙ ap (◌⊕◌ x) (add-neg c) ∙ add-zero x

  pub mul-zero : (a : El) → a ⊗ 𝟘 ≡ 𝟘
  mul-zero a = add_cancel (a ⊗ 𝟘) 𝟘 (a ⊗ 𝟘) (sym (mul-add a 𝟘 𝟘) ∙ ap (◌⊗◌ a) (add-zero 𝟘) ∙ sym (zero-add (a ⊗ 𝟘)))

  pub zero-mul : (a : El) → 𝟘 ⊗ a ≡ 𝟘
  zero-mul a = mul_comm 𝟘 a ∙ mul-zero a

  -- what a takes to 0 is - a
  pub neg_unique : (a b : El) → a ⊕ b ≡ 𝟘 → b ≡ ⊖ a
  neg_unique a b p = add_cancel b (⊖ a) a (add_comm b a ∙ p ∙ sym (add-neg a) ∙ add_comm a (⊖ a))

  pub neg-zero : ⊖ 𝟘 ≡ 𝟘
  neg-zero = sym (neg_unique 𝟘 𝟘 (add-zero 𝟘))

  pub neg-add : (a b : El) → ⊖ (a ⊕ b) ≡ ⊖ a ⊕ ⊖ b
  neg-add a b = sym (neg_unique (a ⊕ b) (⊖ a ⊕ ⊖ b) (add_swap a b (⊖ a) (⊖ b) ∙ ap₂ ◌⊕◌ (add-neg a) (add-neg b) ∙ add-zero 𝟘))

  pub neg-neg : (a : El) → ⊖ ⊖ a ≡ a
  neg-neg a = sym (neg_unique (⊖ a) a (add_comm (⊖ a) a ∙ add-neg a))

  pub neg-mul : (a b : El) → ⊖ a ⊗ b ≡ ⊖ (a ⊗ b)
  neg-mul a b = neg_unique (a ⊗ b) (⊖ a ⊗ b) (sym (add-mul a (⊖ a) b) ∙ ap (λ t. t ⊗ b) (add-neg a) ∙ zero-mul b)

  pub mul-neg : (a b : El) → a ⊗ ⊖ b ≡ ⊖ (a ⊗ b)
  mul-neg a b = mul_comm a (⊖ b) ∙ neg-mul b a ∙ ap ⊖◌ (mul_comm b a)

  pub equal_of_sub_zero : (a b : El) → a ⊕ ⊖ b ≡ 𝟘 → a ≡ b
  equal_of_sub_zero a b p = add_cancel a b (⊖ b) (p ∙ sym (add-neg b))

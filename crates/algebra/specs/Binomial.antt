-- Binomial coefficients, and the binomial theorem for 1 + x in a ring.
use Prim.Native.Nat.{ℕ, zero, suc, ◌+◌, ◌*◌, ◌<◌}
use Rattle.std.specs.Prelude.{◌≡◌, [], ◌∷◌}
use Rattle.std.proofs.Math.Path.{refl, ap, ap₂, sym}
use Rattle.std.proofs.Common.{◌∙◌, arith}
use Rattle.std.proofs.Math.Nat as N
use Rattle.algebra.specs.Ring.{Ops, Laws}
use Rattle.algebra.specs.Polynomial.{Expr, ◌:+◌, ◌:*◌, v0, v1, v2, v3, v4}
use Rattle.algebra.specs.Solver.{solve}
use Rattle.algebra.specs.Power.{pow}

-- n over k
unfoldable pub choose : ℕ → ℕ → ℕ
choose n zero = 1
choose zero (suc k) = 0
choose (suc n) (suc k) = choose n k + choose n (suc k)

-- (k + 1) (n + 1 over k + 1) = (n + 1) (n over k)
pub choose_absorb : (n k : ℕ) → suc k * choose (suc n) (suc k) ≡ suc n * choose n k
unfolding choose
choose_absorb zero zero = refl
choose_absorb zero (suc k) = omega arith
choose_absorb (suc n) zero = omega (arith, choose_absorb n zero)
choose_absorb (suc n) (suc k) = omega (arith, choose_absorb n k, choose_absorb n (suc k))

choose_above : (n k : ℕ) → n < k → choose n k ≡ 0
unfolding choose
choose_above n zero h = absurd (N.not-suc-le-zero h)
choose_above zero (suc k) h = refl
choose_above (suc n) (suc k) h = omega (arith, choose_above n k (omega arith), choose_above n (suc k) (omega arith))

pub choose_all : (n : ℕ) → choose n n ≡ 1
unfolding choose
choose_all zero = refl
choose_all (suc n) = omega (arith, choose_all n, choose_above n (suc n) (omega arith))

module _ (O : Ops) where
  open O use {El, zero as 𝟘, add as ◌⊕◌, mul as ◌⊗◌}

  infixl 65 ◌⊕◌
  infixl 70 ◌⊗◌
  -- f 0 + f 1 x + f 2 x² + .., j terms
  unfoldable pub series : ℕ → (ℕ → El) → El → El
  series zero f x = 𝟘
  series (suc j) f x = f zero ⊕ x ⊗ series j (λ k. f (suc k)) x

module _ (O : Ops) (L : Laws O) where
  open O use {El, zero as 𝟘, one as 𝟙, add as ◌⊕◌, mul as ◌⊗◌}

  infixl 65 ◌⊕◌
  infixl 70 ◌⊗◌
  series-add : (j : ℕ) (f g : ℕ → El) (x : El) → series O j (λ k. f k ⊕ g k) x ≡ series O j f x ⊕ series O j g x
  unfolding series
  series-add zero f g x = sym (L.add-zero 𝟘)
  series-add (suc j) f g x =
      ap (λ t. f zero ⊕ g zero ⊕ x ⊗ t) (series-add j (λ k. f (suc k)) (λ k. g (suc k)) x)
      ∙ solve O L (f zero ∷ g zero ∷ x ∷ series O j (λ k. f (suc k)) x ∷ series O j (λ k. g (suc k)) x ∷ [])
      (v0 :+ v1 :+ v2 :* (v3 :+ v4)) (v0 :+ v2 :* v3 :+ (v1 :+ v2 :* v4)) tt

  series-zero : (j : ℕ) (f : ℕ → El) (x : El) → ((k : ℕ) → k < j → f k ≡ 𝟘) → series O j f x ≡ 𝟘
  unfolding series
  series-zero zero f x h = refl
  series-zero (suc j) f x h =
      ap₂ (λ s t. s ⊕ x ⊗ t) (h zero (omega arith)) (series-zero j (λ k. f (suc k)) x (λ k l. h (suc k) (omega arith)))
      ∙ solve O L (x ∷ []) (Expr.:0 :+ v0 :* Expr.:0) Expr.:0 tt

  -- where all terms but the last are 0
  pub series-last : (q : ℕ) (f : ℕ → El) (x : El) → ((k : ℕ) → k < q → f k ≡ 𝟘) → series O (suc q) f x ≡ f q ⊗ pow O x q
  unfolding series pow
  series-last zero f x h = solve O L (f zero ∷ x ∷ []) (v0 :+ v1 :* Expr.:0) (v0 :* Expr.:1) tt
  series-last (suc q) f x h =
      ap₂ (λ s t. s ⊕ x ⊗ t) (h zero (omega arith)) (series-last q (λ k. f (suc k)) x (λ k l. h (suc k) (omega arith)))
      ∙ solve O L (x ∷ f (suc q) ∷ pow O x q ∷ []) (Expr.:0 :+ v0 :* (v1 :* v2)) (v1 :* (v0 :* v2)) tt

  -- for any map of the numbers into the ring that keeps sums, 0 and 1
  module _ (embed : ℕ → El) (embed-zero : embed 0 ≡ 𝟘) (embed-one : embed 1 ≡ 𝟙)
      (embed-add : (a b : ℕ) → embed (a + b) ≡ embed a ⊕ embed b) where
    pub binomial : (n j : ℕ) (x : El) → n < j → series O j (λ k. embed (choose n k)) x ≡ pow O (𝟙 ⊕ x) n
    unfolding series pow choose
    binomial zero zero x h = absurd (N.not-suc-le-zero h)
    binomial zero (suc j) x h =
        ap₂ (λ s t. s ⊕ x ⊗ t) embed-one (series-zero j (λ k. embed (choose zero (suc k))) x (λ k l. embed-zero))
        ∙ solve O L (x ∷ []) (Expr.:1 :+ v0 :* Expr.:0) Expr.:1 tt
    binomial (suc n) zero x h = absurd (N.not-suc-le-zero h)
    binomial (suc n) (suc j) x h =
        ap (λ t. embed 1 ⊕ x ⊗ t)
        (ap (λ f. series O j f x) (λ i k. embed-add (choose n k) (choose n (suc k)) i)
        ∙ series-add j (λ k. embed (choose n k)) (λ k. embed (choose n (suc k))) x)
        ∙ solve O L (embed 1 ∷ x ∷ series O j (λ k. embed (choose n k)) x ∷ series O j (λ k. embed (choose n (suc k))) x ∷ [])
        (v0 :+ v1 :* (v2 :+ v3)) (v1 :* v2 :+ (v0 :+ v1 :* v3)) tt
        ∙ ap₂ (λ s t. x ⊗ s ⊕ t) (binomial n j x (omega arith)) (binomial n (suc j) x (omega arith))
        ∙ solve O L (x ∷ pow O (𝟙 ⊕ x) n ∷ []) (v0 :* v1 :+ v1) ((Expr.:1 :+ v0) :* v1) tt

-- Primes, and trial division that computes.
use Rattle.std.specs.Prelude.{ℕ, zero, suc, ◌+◌, ◌*◌, ◌/◌, ◌%◌, ◌<◌, ◌≤◌, ◌≡◌, refl, Bool, true, false, T}
use Rattle.std.proofs.Common.{sym, ◌∙◌, ap, arith}
use Rattle.std.proofs.Math.Nat as N
use Rattle.std.proofs.Math.Decide.{dec_le}

-- no number between 1 and p divides p
abbrev pub Prime : ℕ → Type 0
Prime p = (a : ℕ) → 1 < a → a < p → ¬ (p % a ≡ 0)

-- none of the k numbers from d on divides n
abbrev pub undivided : ℕ → ℕ → ℕ → Bool
undivided zero d n = true
undivided (suc k) d n = elim (n % d) [ zero ↦ false | suc r ↦ undivided k (suc d) n ]

undivided_ok : (k d n : ℕ) → T (undivided k d n) → (e : ℕ) → d ≤ e → e < d + k → ¬ (n % e ≡ 0)
undivided_ok zero d n t e h l z = omega arith
undivided_ok (suc k) d n t e h l z = go (n % d) refl (λ u m. undivided_ok k (suc d) n u e m (omega arith) z) t
  where
    same : e ≡ d → n % d ≡ 0
    same w = ap (λ x. n % x) (sym w) ∙ z

    differ : (s : ℕ) → n % d ≡ suc s → n % d ≡ 0 → ⊥
    differ s q w = omega arith

    go : (r : ℕ) → n % d ≡ r → (T (undivided k (suc d) n) → suc d ≤ e → ⊥) → T (elim r [ zero ↦ false | suc s ↦ undivided k (suc d) n ]) → ⊥
    go zero q f u = absurd u
    go (suc s) q f u = elim (dec_le (suc d) e) [ yes m ↦ f u m | no m ↦ differ s q (same (omega arith)) ]

-- a divisor of p or its quotient is at most k + 1, where (k + 2)² is above p
pub prime_by_trial : (p k : ℕ) → p < (k + 2) * (k + 2) → T (undivided k 2 p) → Prime p
prime_by_trial p k big t a h l z =
    elim (dec_le a (k + 1)) [ yes m ↦ undivided_ok k 2 p t a (omega arith) (omega arith) z | no m ↦ large (p / a) refl (omega arith) ]
  where
    divisor_times_quotient : a * (p / a) ≡ p
    divisor_times_quotient = sym (N.add-zero (a * (p / a))) ∙ ap (λ t. a * (p / a) + t) (sym z) ∙ N.div-add-mod p a

    large : (b : ℕ) → p / a ≡ b → k + 2 ≤ a → ⊥
    large b e m = elim (dec_le b (k + 1)) [ yes n ↦ small n | no n ↦ both (omega arith) ]
      where
        product : a * b ≡ p
        product = ap (λ t. a * t) (sym e) ∙ divisor_times_quotient

        both : k + 2 ≤ b → ⊥
        both n = omega (arith, N.mul-le-mul m n, product)

        two : (c : ℕ) → b ≡ c → 2 ≤ b
        two zero w = absurd (let f : a * b ≡ 0 = ap (λ t. a * t) w ∙ N.mul-zero a in omega (arith, product))
        two (suc zero) w = absurd (let f : a * b ≡ a = ap (λ t. a * t) w ∙ N.mul-one a in omega (arith, product))
        two (suc (suc c)) w = omega arith

        small : b ≤ k + 1 → ⊥
        small n = undivided_ok k 2 p t b (two b refl) (omega arith) (ap (λ t. t % b) (sym product) ∙ N.mul-mod_left a b)

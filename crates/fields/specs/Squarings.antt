-- Squaring has period 30 in M31: the power 2^31 of an element is its square, since a^P = a.
use Rattle.std.specs.Prelude.{◌≡◌, ℕ, zero, suc, ◌+◌, ◌-◌, ◌*◌, ◌/◌, ◌%◌, ◌^◌, ◌<◌, Bool, true, false, cond, nat_le, refl}
use Rattle.std.proofs.Common.{sym, ◌∙◌, ap, arith, leb-false}
use Rattle.std.proofs.Math.Nat as N
use Rattle.std.proofs.Math.Pow as W
use Rattle.algebra.specs.Power.{pow, pow-add, pow-mul, pow-one, pow-two}
use Rattle.algebra.specs.ZMod.{Z}
use Rattle.algebra.specs.M31.{P, m31, m31_laws, element}
use Rattle.algebra.proofs.M31.{m31_fermat}
use Rattle.fields.specs.Words.{pow_p}
use Rattle.fields.specs.Elements.{element_pow, pow_p_below, pow_p_unique}

-- the fewest squarings that give the same as n of them
abbrev pub squarings_of : ℕ → ℕ
squarings_of n = cond (nat_le n 30) n (1 + (n - 1) % 30)

square_31 : (x : Z P) → pow m31 x (2 ^ 31) ≡ pow m31 x 2
square_31 x =
    pow-add m31 m31_laws x 1 P ∙ ap (m31.mul (pow m31 x 1)) (m31_fermat x) ∙ ap (λ t. m31.mul t x) (pow-one m31 m31_laws x)
    ∙ sym (pow-two m31 m31_laws x)

square_period : (x : Z P) (k : ℕ) → pow m31 x (2 ^ (k + 31)) ≡ pow m31 x (2 ^ (k + 1))
square_period x k =
    ap (pow m31 x) (W.pow-add 2 k 31) ∙ pow-mul m31 m31_laws x (2 ^ k) (2 ^ 31) ∙ ap (λ t. pow m31 t (2 ^ k)) (square_31 x)
    ∙ sym (pow-mul m31 m31_laws x (2 ^ k) 2) ∙ ap (pow m31 x) (sym (W.pow-add 2 k 1))

square_periods : (x : Z P) (k q : ℕ) → pow m31 x (2 ^ (k + q * 30 + 1)) ≡ pow m31 x (2 ^ (k + 1))
square_periods x k zero = ap (λ (t : ℕ). pow m31 x (2 ^ (t + 1))) (ap (λ (t : ℕ). k + t) (N.zero-mul 30) ∙ N.add-zero k)
square_periods x k (suc q) = ap (λ (t : ℕ). pow m31 x (2 ^ t)) shape ∙ square_period x (k + q * 30) ∙ square_periods x k q
  where
    shape : k + suc q * 30 + 1 ≡ k + q * 30 + 31
    shape = omega arith

squarings_above_30 : (a n : ℕ) → 30 < n → pow_p a (2 ^ (1 + (n - 1) % 30)) ≡ pow_p a (2 ^ n)
squarings_above_30 a n h =
    pow_p_unique (pow_p a (2 ^ (1 + (n - 1) % 30))) a (2 ^ n) (pow_p_below a (2 ^ (1 + (n - 1) % 30)))
    (element_pow a (2 ^ (1 + (n - 1) % 30)) ∙ ap (λ (t : ℕ). pow m31 (element a) (2 ^ t)) (N.add_comm 1 ((n - 1) % 30))
    ∙ sym (square_periods (element a) ((n - 1) % 30) ((n - 1) / 30)) ∙ ap (λ (t : ℕ). pow m31 (element a) (2 ^ t)) periods_and_rest)
  where
    periods_and_rest : (n - 1) % 30 + (n - 1) / 30 * 30 + 1 ≡ n
    periods_and_rest = omega arith

pub squarings_same : (a n : ℕ) → pow_p a (2 ^ squarings_of n) ≡ pow_p a (2 ^ n)
squarings_same a n = go (nat_le n 30) refl
  where
    go : (b : Bool) → nat_le n 30 ≡ b → pow_p a (2 ^ cond b n (1 + (n - 1) % 30)) ≡ pow_p a (2 ^ n)
    go true e = refl
    go false e = squarings_above_30 a n (leb-false n 30 e)

-- Steps of the loops and chains that compute powers modulo P.
use Rattle.std.proofs.Common.{◌≡◌, ℕ, ◌+◌, ◌*◌, ◌^◌, ◌<◌, sym, ap, ◌∙◌, ap₂}
use native.Mathlib.Nat as N
use Rattle.algebra.specs.Power.{pow, pow-one, pow-add, pow-mul}
use Rattle.algebra.specs.M31.{P, P_pos, m31, m31_laws, element}
use Rattle.fields.specs.Words.{mul_p, pow_p}
use Rattle.fields.specs.Elements.{element_homomorphism, element_pow, pow_p_below, pow_p_unique}

mul_p_below : (a b : ℕ) → mul_p a b < P
mul_p_below a b = N.mod-lt (a * b) P_pos

pub pow_p-one : (a : ℕ) → a < P → pow_p a 1 ≡ a
pow_p-one a h = sym (pow_p_unique a a 1 h (sym (pow-one m31 m31_laws (element a))))

-- steps of an addition chain: the exponents are computed
pub chain_mul : (x i j : ℕ) {a b r : ℕ} → a ≡ pow_p x i → b ≡ pow_p x j → r ≡ mul_p a b → r ≡ pow_p x (i + j)
chain_mul x i j {a} {b} {r} e f g =
    g ∙ pow_p_unique (mul_p a b) x (i + j) (mul_p_below a b)
    (element_homomorphism.to_mul a b ∙ ap₂ m31.mul (ap element e ∙ element_pow x i) (ap element f ∙ element_pow x j)
    ∙ sym (pow-add m31 m31_laws (element x) i j))

pub chain_square : (x i n : ℕ) {a r : ℕ} → a ≡ pow_p x i → r ≡ pow_p a (2 ^ n) → r ≡ pow_p x (2 ^ n * i)
chain_square x i n {a} {r} e g =
    g ∙ pow_p_unique (pow_p a (2 ^ n)) x (2 ^ n * i) (pow_p_below a (2 ^ n))
    (element_pow a (2 ^ n) ∙ ap (λ t. pow m31 t (2 ^ n)) (ap element e ∙ element_pow x i) ∙ sym (pow-mul m31 m31_laws (element x) (2 ^ n) i))

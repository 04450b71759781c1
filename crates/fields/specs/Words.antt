-- Arithmetic modulo P on numbers, and on pairs of them: what the contracts of the fields speak of.
use Rattle.std.specs.Prelude.{ℕ, ◌+◌, ◌-◌, ◌*◌, ◌%◌, ◌^◌}
use Rattle.algebra.specs.Ring.{Ops}
use Rattle.algebra.specs.Extension.{ext_inverse}
use Rattle.algebra.specs.Tower.{complex, two_plus_i, quartic}
use Rattle.algebra.specs.M31.{P}

-- a + b modulo P
abbrev pub add_p : ℕ → ℕ → ℕ
add_p a b = (a + b) % P

-- the number below P that gives a multiple of P when a is added
abbrev pub neg_p : ℕ → ℕ
neg_p a = (P - a % P) % P

-- a - b modulo P
abbrev pub sub_p : ℕ → ℕ → ℕ
sub_p a b = add_p a (neg_p b)

-- a times b modulo P
abbrev pub mul_p : ℕ → ℕ → ℕ
mul_p a b = (a * b) % P

-- 0 to the power 0 is 1
abbrev pub pow_p : ℕ → ℕ → ℕ
pow_p a n = (a ^ n) % P

-- a to the power P - 2, which is the inverse of a for a from 1 to P - 1 (proved in `Inverse.antt`)
abbrev pub inv_p : ℕ → ℕ
inv_p a = pow_p a (P - 2)

-- the operations modulo P, without laws
abbrev pub words31 : Ops
words31 = record { El = ℕ; zero = 0; one = 1; add = add_p; mul = mul_p; neg = neg_p }

-- a + bi with i² = -1, as the pair (a, b)
abbrev pub complex_words : Ops
complex_words = complex words31

-- (a - bi) / (a² + b²), which is the inverse of a + bi ≠ 0 (proved in `Inverse.antt`)
abbrev pub complex_inverse : ℕ × ℕ → ℕ × ℕ
complex_inverse = ext_inverse words31 (neg_p 1) inv_p

-- p + qu with u² = 2 + i, as the pair (p, q) of pairs (a, b) that stand for a + bi
abbrev pub quartic_words : Ops
quartic_words = quartic words31

-- (p - qu) / (p² - (2 + i) q²), which is the inverse of p + qu ≠ 0 (proved in `Inverse.antt`)
abbrev pub quartic_inverse : (ℕ × ℕ) × (ℕ × ℕ) → (ℕ × ℕ) × (ℕ × ℕ)
quartic_inverse = ext_inverse complex_words (two_plus_i words31) complex_inverse

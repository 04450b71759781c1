-- P = 2^31 - 1 is prime, so the integers modulo P are a field: M31.
use Rattle.std.specs.Prelude.{◌≡◌}
use Rattle.std.proofs.Common.{lit<}
use Rattle.algebra.specs.Power.{pow}
use Rattle.algebra.specs.ZMod.{Z}
use Rattle.algebra.specs.Field.{Field}
use Rattle.algebra.specs.Prime.{Prime, prime_by_trial}
use Rattle.algebra.specs.PrimeField as PF
use Rattle.algebra.specs.M31.{P, P_pos, m31}

-- 46341² is above P
pub P_prime : Prime P
P_prime = prime_by_trial P 46339 (lit< tt) tt

pub m31_field : Field m31
m31_field = PF.zmod_field 2147483646 P_pos (lit< tt) P_prime

-- a^P = a
pub m31_fermat : (a : Z P) → pow m31 a P ≡ a
m31_fermat = PF.fermat 2147483646 P_pos (lit< tt) P_prime

-- a^(P - 1) = 1 for a ≠ 0
pub m31_fermat_one : (a : Z P) → ¬ (a ≡ m31.zero) → pow m31 a 2147483646 ≡ m31.one
m31_fermat_one = PF.fermat_one 2147483646 P_pos (lit< tt) P_prime

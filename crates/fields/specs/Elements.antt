-- Numbers as elements of the field M31: the operations modulo P are the field's.
use Rattle.std.specs.Prelude.{◌≡◌, ℕ, zero, suc, ◌+◌, ◌-◌, ◌*◌, ◌%◌, ◌^◌, ◌<◌, ◌≤◌, refl}
use Rattle.std.proofs.Common.{sym, ◌∙◌, ap, arith}
use Rattle.std.proofs.Math.Nat as N
use Rattle.algebra.specs.Power.{pow}
use Rattle.algebra.specs.ZMod.{residue-mod, residue-add, residue-mul, residue-neg, residue_injective}
use Rattle.algebra.specs.M31.{P, P_pos, m31, m31_laws, element}
use Rattle.algebra.specs.Homomorphism.{Homomorphism}
use Rattle.fields.specs.Words.{words31, pow_p}

pub element_homomorphism : Homomorphism words31 m31 element
element_homomorphism = record {
  to_zero = refl;
  to_one = refl;
  to_add = λ x y. residue-mod P P_pos (x + y) ∙ residue-add P P_pos x y;
  to_mul = λ x y. residue-mod P P_pos (x * y) ∙ residue-mul P P_pos x y;
  to_neg = λ x. residue-mod P P_pos (P - x % P) ∙ residue-neg P P_pos (x % P) (mod_P_most x) ∙ ap m31.neg (residue-mod P P_pos x);
}
  where
    mod_P_most : (x : ℕ) → x % P ≤ P
    mod_P_most x = omega arith

pub element_injective : (a b : ℕ) → a < P → b < P → element a ≡ element b → a ≡ b
element_injective = residue_injective P P_pos

element_power : (a n : ℕ) → element (a ^ n) ≡ pow m31 (element a) n
unfolding pow
element_power a zero = ap element (N.pow-zero a)
element_power a (suc n) =
    ap element (N.pow-suc a n) ∙ residue-mul P P_pos (a ^ n) a ∙ m31_laws.mul_comm (element (a ^ n)) (element a)
    ∙ ap (m31.mul (element a)) (element_power a n)

pub element_pow : (a n : ℕ) → element (pow_p a n) ≡ pow m31 (element a) n
element_pow a n = residue-mod P P_pos (a ^ n) ∙ element_power a n

pub pow_p_below : (a n : ℕ) → pow_p a n < P
pow_p_below a n = N.mod-lt (a ^ n) P_pos

-- the word below P of the power is pow_p
pub pow_p_unique : (r a n : ℕ) → r < P → element r ≡ pow m31 (element a) n → r ≡ pow_p a n
pow_p_unique r a n l e = element_injective r (pow_p a n) l (pow_p_below a n) (e ∙ sym (element_pow a n))

-- M31, CM31 and QM31 on words stand for the fields, and the inverse of each is its only inverse.
use Rattle.std.specs.Prelude.{◌≡◌, ℕ, ◌+◌, ◌-◌, ◌*◌, ◌%◌, ◌<◌}
use Rattle.std.proofs.Common.{sym, ◌∙◌, ap, lit<}
use Rattle.std.proofs.Math.Nat as N
use Rattle.algebra.specs.Power.{pow, pow-add, pow-one}
use Rattle.algebra.specs.Field.{inv_unique}
use Rattle.algebra.specs.M31.{P, P_pos, m31, m31_laws, element}
use Rattle.algebra.proofs.M31.{m31_field, m31_fermat_one}
use Rattle.algebra.specs.Tower.{cm31, qm31, two_plus_i}
use Rattle.algebra.proofs.Tower.{minus_one_nonsquare, two_plus_i_nonsquare}
use Rattle.algebra.specs.Homomorphism.{on_pair}
use Rattle.fields.specs.Words.{mul_p, inv_p, neg_p, words31, complex_words, complex_inverse, quartic_words, quartic_inverse}
use Rattle.fields.specs.Elements.{element_homomorphism, element_injective, element_pow, pow_p_below}
use Rattle.fields.specs.Representation.{Representation, extension, mul_inverse, inverse_unique}

-- a^(P - 2) a = a^(P - 1) = 1
pub m31_inverse_element : (a : ℕ) → ¬ (element a ≡ m31.zero) → element (inv_p a) ≡ m31_field.inv (element a)
m31_inverse_element a n =
    inv_unique m31 m31_field (element a) (element (inv_p a))
    (ap (m31.mul (element a)) (element_pow a 2147483645)
    ∙ ap (λ t. m31.mul t (pow m31 (element a) 2147483645)) (sym (pow-one m31 m31_laws (element a)))
    ∙ sym (pow-add m31 m31_laws (element a) 1 2147483645)
    ∙ m31_fermat_one (element a) n)

abbrev pub m31_representation : Representation words31 m31
m31_representation = record {
  field = m31_field;
  element = element;
  homomorphism = element_homomorphism;
  Reduced = λ a. a < P;
  injective = element_injective;
  zero_reduced = P_pos;
  one_reduced = lit< tt;
  add-reduced = λ a b. N.mod-lt (a + b) P_pos;
  mul-reduced = λ a b. N.mod-lt (a * b) P_pos;
  neg-reduced = λ a. N.mod-lt (P - a % P) P_pos;
  inverse = inv_p;
  inverse_reduced = λ a. pow_p_below a 2147483645;
  inverse_element = m31_inverse_element;
}

pub element_minus_one : element (neg_p 1) ≡ m31.neg m31.one
element_minus_one = element_homomorphism.to_neg 1

abbrev pub cm31_representation : Representation complex_words cm31
cm31_representation = extension words31 m31 m31_representation (neg_p 1) (m31.neg m31.one) element_minus_one minus_one_nonsquare

pub element_two_plus_i : on_pair element (two_plus_i words31) ≡ two_plus_i m31
element_two_plus_i = λ i. (element_homomorphism.to_add 1 1 i, element 1)

abbrev pub qm31_representation : Representation quartic_words qm31
qm31_representation =
    extension complex_words cm31 cm31_representation (two_plus_i words31) (two_plus_i m31) element_two_plus_i two_plus_i_nonsquare

pub m31-mul_inverse : (a : ℕ) → a < P → ¬ (a ≡ 0) → mul_p a (inv_p a) ≡ 1
m31-mul_inverse a h n = mul_inverse words31 m31 m31_representation a (h, n)

pub m31_inverse_unique : (a b : ℕ) → b < P → mul_p a b ≡ 1 → b ≡ inv_p a
m31_inverse_unique = inverse_unique words31 m31 m31_representation

pub cm31-mul_inverse : (a : ℕ × ℕ) → (a.0 < P) × (a.1 < P) → ¬ (a ≡ (0, 0)) → complex_words.mul a (complex_inverse a) ≡ (1, 0)
cm31-mul_inverse a h n = mul_inverse complex_words cm31 cm31_representation a (h, n)

pub cm31_inverse_unique : (a b : ℕ × ℕ) → (b.0 < P) × (b.1 < P) → complex_words.mul a b ≡ (1, 0) → b ≡ complex_inverse a
cm31_inverse_unique = inverse_unique complex_words cm31 cm31_representation

pub qm31-mul_inverse : (a : (ℕ × ℕ) × (ℕ × ℕ)) → qm31_representation.Reduced a → ¬ (a ≡ ((0, 0), (0, 0)))
    → quartic_words.mul a (quartic_inverse a) ≡ ((1, 0), (0, 0))
qm31-mul_inverse a h n = mul_inverse quartic_words qm31 qm31_representation a (h, n)

pub qm31_inverse_unique : (a b : (ℕ × ℕ) × (ℕ × ℕ)) → qm31_representation.Reduced b → quartic_words.mul a b ≡ ((1, 0), (0, 0))
    → b ≡ quartic_inverse a
qm31_inverse_unique = inverse_unique quartic_words qm31 qm31_representation

-- What a field's operations on words have in common: they stand for those of a field, and give words below P.
use Rattle.std.specs.Prelude.{◌≡◌, ◌==◌, ◌&&◌, ℕ, true, nat_lt, Result, Ok, refl}
use Rattle.std.proofs.Common.{sym, ap, ◌∙◌, eqb-true, ltb-true}
use Rattle.std.proofs.Math.Bool.{and-eq-true_iff}
use Rattle.algebra.specs.Ring.{Ops}
use Rattle.algebra.specs.Power.{pow}
use Rattle.algebra.specs.Homomorphism.{to_pow}
use Rattle.algebra.specs.M31.{P, m31, element}
use Rattle.algebra.specs.Tower.{cm31, qm31}
use Rattle.fields.specs.Words.{words31, pow_p}
use Rattle.fields.specs.Check.{outcome}
use Rattle.fields.specs.CheckLaws.{hold_at}
use Rattle.fields.specs.Field.{FieldOf, words}
use Rattle.fields.specs.M31.{m31_field}
use Rattle.fields.specs.CM31.{cm31_field, pair_of}
use Rattle.fields.specs.CM31 as C
use Rattle.fields.specs.QM31.{qm31_field, pairs_of}
use Rattle.fields.specs.QM31 as Q
use Rattle.fields.specs.Representation.{Representation, pow-reduced}
use Rattle.fields.specs.Elements.{element_homomorphism, element_injective, element_pow, pow_p_below}
use Rattle.fields.specs.Inverse.{m31_representation, cm31_representation, qm31_representation}
use Rattle.fields.specs.declared.cm31.CM31.{CM31}
use Rattle.fields.specs.declared.qm31.QM31.{QM31}
use Rattle.fields.specs.declared.refusal.Refusal.{Refusal}

pub record Lawful {A : Type 0} (F : FieldOf A) : Type 1 where
  -- the field that the words stand for
  pub K : Ops
  pub representation : Representation F.words K
  pub to_reduced : (a : A) → F.Reduced a → representation.Reduced (F.value a)
  pub below : (a : A) → F.reduced a ≡ true → F.Reduced a
  pub zero_reduced : F.Reduced (F.of F.words.zero)
  pub one_reduced : F.Reduced (F.of F.words.one)
  pub value_of : (w : F.words.El) → F.value (F.of w) ≡ w
  pub of_value : (a : A) → F.of (F.value a) ≡ a
  pub power : (w : F.words.El) (n : ℕ) → F.power w n ≡ pow F.words w n
  pub inverse : (w : F.words.El) → F.inverse w ≡ representation.inverse w
  -- the test for zero tells zero, and nothing else
  pub zero_found : (a : A) → F.is_zero a ≡ true → F.value a ≡ F.words.zero
  pub zero_is_found : (a : A) → F.value a ≡ F.words.zero → F.is_zero a ≡ true

-- an element that the checks passed has its words below P
pub below_where_checked : {A : Type 0} {F : FieldOf A} (L : Lawful F) (a : A) (r : Result (Unit {0}) Refusal) (u : Unit {0})
    → r ≡ outcome (words F a) → r ≡ Ok u → F.Reduced a
below_where_checked {F = F} L a r u e h = L.below a (hold_at (words F a) r u e h).0

-- powers modulo P as powers of the operations on words
pub pow_p-pow : (a n : ℕ) → pow_p a n ≡ pow words31 a n
pow_p-pow a n =
    element_injective (pow_p a n) (pow words31 a n) (pow_p_below a n) (pow-reduced words31 m31 m31_representation a n)
    (element_pow a n ∙ sym (to_pow words31 m31 element element_homomorphism a n))

abbrev pub m31_lawful : Lawful m31_field
m31_lawful = record {
  K = m31;
  representation = m31_representation;
  to_reduced = λ a h. h;
  below = λ a e. ltb-true a.0 P e;
  zero_reduced = m31_representation.zero_reduced;
  one_reduced = m31_representation.one_reduced;
  value_of = λ w. refl;
  of_value = λ a. refl;
  power = pow_p-pow;
  inverse = λ w. refl;
  zero_found = λ a e. eqb-true a.0 0 e;
  zero_is_found = λ a e. ap (λ (w : ℕ). w == 0) e;
}

pub pair_below : (a : CM31) → C.reduced a ≡ true → C.Reduced a
pair_below a e = let h = (and-eq-true_iff (nat_lt a.0.0 P) (nat_lt a.1.0 P)).0 e in (ltb-true a.0.0 P h.0, ltb-true a.1.0 P h.1)

pub both_zero : (a : CM31) → C.is_zero a ≡ true → pair_of a ≡ (0, 0)
both_zero a e = let h = (and-eq-true_iff (a.0.0 == 0) (a.1.0 == 0)).0 e in λ i. (eqb-true a.0.0 0 h.0 i, eqb-true a.1.0 0 h.1 i)

abbrev pub cm31_lawful : Lawful cm31_field
cm31_lawful = record {
  K = cm31;
  representation = cm31_representation;
  to_reduced = λ a h. h;
  below = pair_below;
  zero_reduced = cm31_representation.zero_reduced;
  one_reduced = cm31_representation.one_reduced;
  value_of = λ w. refl;
  of_value = λ a. refl;
  power = λ w n. refl;
  inverse = λ w. refl;
  zero_found = both_zero;
  zero_is_found = λ a e. ap (λ (p : ℕ × ℕ). p.0 == 0 && p.1 == 0) e;
}

pub pairs_below : (a : QM31) → Q.reduced a ≡ true → Q.Reduced a
pairs_below a e = let h = (and-eq-true_iff (C.reduced a.0) (C.reduced a.1)).0 e in (pair_below a.0 h.0, pair_below a.1 h.1)

pub all_zero : (a : QM31) → Q.is_zero a ≡ true → pairs_of a ≡ ((0, 0), (0, 0))
all_zero a e = let h = (and-eq-true_iff (C.is_zero a.0) (C.is_zero a.1)).0 e in λ i. (both_zero a.0 h.0 i, both_zero a.1 h.1 i)

abbrev pub qm31_lawful : Lawful qm31_field
qm31_lawful = record {
  K = qm31;
  representation = qm31_representation;
  to_reduced = λ a h. h;
  below = pairs_below;
  zero_reduced = qm31_representation.zero_reduced;
  one_reduced = qm31_representation.one_reduced;
  value_of = λ w. refl;
  of_value = λ a. refl;
  power = λ w n. refl;
  inverse = λ w. refl;
  zero_found = all_zero;
  zero_is_found = λ a e. ap (λ (p : (ℕ × ℕ) × (ℕ × ℕ)). p.0.0 == 0 && p.0.1 == 0 && (p.1.0 == 0 && p.1.1 == 0)) e;
}

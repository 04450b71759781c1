-- What each call of CM31 answers: the refusals of the table in docs/CALLS.md in its order, then its pair formulas, i² = -1.
use Rattle.std.specs.Prelude.{ℕ, ◌<◌, Bool, ◌&&◌, ◌++◌, ◌==◌, nat_lt, Result}
use Rattle.algebra.specs.Power.{pow}
use Rattle.algebra.specs.Extension.{embed, conjugate}
use Rattle.algebra.specs.M31.{P}
use Rattle.fields.specs.Check.{Checks, need, checked}
use Rattle.fields.specs.Field.{FieldOf}
use Rattle.fields.specs.Field as F
use Rattle.fields.specs.Extension as E
use Rattle.fields.specs.Words.{words31, complex_words, complex_inverse}
use Rattle.fields.specs.declared.m31.M31.{M31}
use Rattle.fields.specs.declared.cm31.CM31.{CM31}
use Rattle.fields.specs.declared.refusal.Refusal.{Refusal}
use Rattle.fields.specs.declared.refusal.Refusal.TheVariants.{Narrowing}

-- the words a and b of a + bi
abbrev pub pair_of : CM31 → ℕ × ℕ
pair_of a = (a.0.0, a.1.0)

-- the CM31 of the words a and b
abbrev pub of_pair : ℕ × ℕ → CM31
of_pair p = record { 0 = record { 0 = p.0 }; 1 = record { 0 = p.1 } }

-- both words are below P
abbrev pub Reduced : CM31 → Type 0
Reduced a = (a.0.0 < P) × (a.1.0 < P)

-- whether both words are below P
abbrev pub reduced : CM31 → Bool
reduced a = nat_lt a.0.0 P && nat_lt a.1.0 P

-- whether both words are 0
abbrev pub is_zero : CM31 → Bool
is_zero a = a.0.0 == 0 && a.1.0 == 0

-- pairs with i² = -1; the conjugate of a + bi is a - bi
abbrev pub cm31_field : FieldOf CM31
cm31_field = record {
  words = complex_words;
  value = pair_of;
  of = of_pair;
  reduced = reduced;
  Reduced = Reduced;
  is_zero = is_zero;
  power = pow complex_words;
  inverse = complex_inverse;
  conjugate = conjugate words31;
}

-- the words are below P, else number 1
abbrev pub words : CM31 → Checks
words = F.words cm31_field

-- a isn't zero, else number 3
abbrev pub nonzero : CM31 → Checks
nonzero = F.nonzero cm31_field

abbrev pub from_pair_answer : ℕ × ℕ → Result CM31 Refusal
from_pair_answer p = checked (words (of_pair p)) (of_pair p)

abbrev pub is_zero_answer : CM31 → Result Bool Refusal
is_zero_answer = F.is_zero_answer cm31_field

abbrev pub add_answer : CM31 → CM31 → Result CM31 Refusal
add_answer = F.add_answer cm31_field

abbrev pub sub_answer : CM31 → CM31 → Result CM31 Refusal
sub_answer = F.sub_answer cm31_field

abbrev pub neg_answer : CM31 → Result CM31 Refusal
neg_answer = F.neg_answer cm31_field

abbrev pub mul_answer : CM31 → CM31 → Result CM31 Refusal
mul_answer = F.mul_answer cm31_field

abbrev pub square_answer : CM31 → Result CM31 Refusal
square_answer = F.square_answer cm31_field

abbrev pub pow_answer : CM31 → ℕ → Result CM31 Refusal
pow_answer = F.pow_answer cm31_field

abbrev pub inverse_answer : CM31 → Result CM31 Refusal
inverse_answer = F.inverse_answer cm31_field

abbrev pub div_answer : CM31 → CM31 → Result CM31 Refusal
div_answer = F.div_answer cm31_field

abbrev pub conjugate_answer : CM31 → Result CM31 Refusal
conjugate_answer = F.conjugate_answer cm31_field

-- number 12 where b isn't zero in a + bi
abbrev pub narrow_answer : CM31 → Result M31 Refusal
narrow_answer a = checked (words a ++ need (a.1.0 == 0) Narrowing) a.0

-- m + 0i
abbrev pub of_base : ℕ → CM31
of_base m = of_pair (embed words31 m)

abbrev pub from_base_answer : M31 → Result CM31 Refusal
from_base_answer = E.from_base_answer cm31_field of_base

abbrev pub add_base_answer : CM31 → M31 → Result CM31 Refusal
add_base_answer = E.add_base_answer cm31_field of_base

abbrev pub sub_base_answer : CM31 → M31 → Result CM31 Refusal
sub_base_answer = E.sub_base_answer cm31_field of_base

abbrev pub mul_base_answer : CM31 → M31 → Result CM31 Refusal
mul_base_answer = E.mul_base_answer cm31_field of_base

abbrev pub div_base_answer : CM31 → M31 → Result CM31 Refusal
div_base_answer = E.div_base_answer cm31_field of_base

abbrev pub base_sub_answer : M31 → CM31 → Result CM31 Refusal
base_sub_answer = E.base_sub_answer cm31_field of_base

abbrev pub base_div_answer : M31 → CM31 → Result CM31 Refusal
base_div_answer = E.base_div_answer cm31_field of_base

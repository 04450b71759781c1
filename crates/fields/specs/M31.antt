-- What each call of M31 answers: the refusals of the table in docs/CALLS.md in its order, then arithmetic modulo P.
use Rattle.std.specs.Prelude.{ℕ, suc, ◌*◌, ◌%◌, ◌^◌, ◌<◌, ℤ, pos, negsuc, ◌==◌, nat_lt, Result, Bool}
use Rattle.algebra.specs.M31.{P}
use Rattle.fields.specs.Check.{Checks, need, checked}
use Rattle.fields.specs.Field.{FieldOf}
use Rattle.fields.specs.Field as F
use Rattle.fields.specs.Words.{neg_p, pow_p, inv_p, words31}
use Rattle.fields.specs.declared.m31.M31.{M31}
use Rattle.fields.specs.declared.refusal.Refusal.{Refusal}
use Rattle.fields.specs.declared.refusal.Refusal.TheVariants.{Reduction}

-- the M31 of a word
abbrev pub of_word : ℕ → M31
of_word word = record { 0 = word }

-- arithmetic modulo P; an element is its own conjugate
abbrev pub m31_field : FieldOf M31
m31_field = record {
  words = words31;
  value = λ a. a.0;
  of = of_word;
  reduced = λ a. nat_lt a.0 P;
  Reduced = λ a. a.0 < P;
  is_zero = λ a. a.0 == 0;
  power = pow_p;
  inverse = inv_p;
  conjugate = λ a. a;
}

-- the word is below P, else number 1
abbrev pub words : M31 → Checks
words = F.words m31_field

-- a isn't zero, else number 3
abbrev pub nonzero : M31 → Checks
nonzero = F.nonzero m31_field

-- an integer modulo P; negsuc n is - (n + 1)
abbrev pub residue_of : ℤ → ℕ
residue_of (pos n) = n % P
residue_of (negsuc n) = neg_p (suc n)

-- below 2P, else number 2
abbrev pub partial_reduce_answer : ℕ → Result M31 Refusal
partial_reduce_answer n = checked (need (nat_lt n (2 * P)) Reduction) (of_word (n % P))

-- below P², else number 2
abbrev pub reduce_answer : ℕ → Result M31 Refusal
reduce_answer n = checked (need (nat_lt n (P * P)) Reduction) (of_word (n % P))

abbrev pub from_word_answer : ℕ → Result M31 Refusal
from_word_answer word = checked (words (of_word word)) (of_word word)

abbrev pub is_zero_answer : M31 → Result Bool Refusal
is_zero_answer = F.is_zero_answer m31_field

abbrev pub add_answer : M31 → M31 → Result M31 Refusal
add_answer = F.add_answer m31_field

abbrev pub sub_answer : M31 → M31 → Result M31 Refusal
sub_answer = F.sub_answer m31_field

abbrev pub neg_answer : M31 → Result M31 Refusal
neg_answer = F.neg_answer m31_field

abbrev pub mul_answer : M31 → M31 → Result M31 Refusal
mul_answer = F.mul_answer m31_field

abbrev pub square_answer : M31 → Result M31 Refusal
square_answer = F.square_answer m31_field

abbrev pub pow_answer : M31 → ℕ → Result M31 Refusal
pow_answer = F.pow_answer m31_field

-- n squarings
abbrev pub sqn_answer : M31 → ℕ → Result M31 Refusal
sqn_answer a n = checked (words a) (of_word (pow_p a.0 (2 ^ n)))

abbrev pub inverse_answer : M31 → Result M31 Refusal
inverse_answer = F.inverse_answer m31_field

abbrev pub div_answer : M31 → M31 → Result M31 Refusal
div_answer = F.div_answer m31_field

abbrev pub conjugate_answer : M31 → Result M31 Refusal
conjugate_answer = F.conjugate_answer m31_field

-- What each call of QM31 answers: the refusals of the table in docs/CALLS.md in its order, then its pair formulas, u² = 2 + i.
use Rattle.std.specs.Prelude.{ℕ, Bool, ◌&&◌, List, [], ◌∷◌, ◌++◌, get_or, ◌==◌, slice_index_or, Result, Ok, Err}
use Rattle.algebra.specs.Power.{pow}
use Rattle.algebra.specs.Extension.{embed, conjugate}
use Rattle.fields.specs.Check.{Checks, need, checked}
use Rattle.fields.specs.Field.{FieldOf}
use Rattle.fields.specs.Field as F
use Rattle.fields.specs.Extension as E
use Rattle.fields.specs.Words.{words31, complex_words, quartic_words, quartic_inverse}
use Rattle.fields.specs.M31.{of_word, reduce_answer}
use Rattle.fields.specs.CM31.{pair_of, of_pair}
use Rattle.fields.specs.CM31 as C
use Rattle.fields.specs.declared.m31.M31.{M31}
use Rattle.fields.specs.declared.cm31.CM31.{CM31}
use Rattle.fields.specs.declared.qm31.QM31.{QM31}
use Rattle.fields.specs.declared.refusal.Refusal.{Refusal}
use Rattle.fields.specs.declared.refusal.Refusal.TheVariants.{Narrowing}

-- the parts p and q of p + qu, each by its words
abbrev pub pairs_of : QM31 → (ℕ × ℕ) × (ℕ × ℕ)
pairs_of a = (pair_of a.0, pair_of a.1)

-- the QM31 of the parts p and q, each by its words
abbrev pub of_pairs : (ℕ × ℕ) × (ℕ × ℕ) → QM31
of_pairs p = record { 0 = of_pair p.0; 1 = of_pair p.1 }

-- all words are below P
abbrev pub Reduced : QM31 → Type 0
Reduced a = C.Reduced a.0 × C.Reduced a.1

pub record AllReduced (a b c d : QM31) : Type 0 where
  pub first : Reduced a
  pub second : Reduced b
  pub third : Reduced c
  pub fourth : Reduced d

-- whether all words are below P
abbrev pub reduced : QM31 → Bool
reduced a = C.reduced a.0 && C.reduced a.1

-- whether all words are 0
abbrev pub is_zero : QM31 → Bool
is_zero a = C.is_zero a.0 && C.is_zero a.1

-- pairs with u² = 2 + i; the conjugate of p + qu is p - qu
abbrev pub qm31_field : FieldOf QM31
qm31_field = record {
  words = quartic_words;
  value = pairs_of;
  of = of_pairs;
  reduced = reduced;
  Reduced = Reduced;
  is_zero = is_zero;
  power = pow quartic_words;
  inverse = quartic_inverse;
  conjugate = conjugate complex_words;
}

-- the words are below P, else number 1
abbrev pub words : QM31 → Checks
words = F.words qm31_field

-- a isn't zero, else number 3
abbrev pub nonzero : QM31 → Checks
nonzero = F.nonzero qm31_field

-- m as (m + 0i) + 0u
abbrev pub of_base : ℕ → (ℕ × ℕ) × (ℕ × ℕ)
of_base m = embed complex_words (embed words31 m)

abbrev pub from_pairs_answer : (ℕ × ℕ) × (ℕ × ℕ) → Result QM31 Refusal
from_pairs_answer p = checked (words (of_pairs p)) (of_pairs p)

-- word k of a list of elements of M31
abbrev pub word_at : List M31 → ℕ → ℕ
word_at array k = (get_or array k (of_word 0)).0

abbrev pub from_array_answer : List M31 → Result QM31 Refusal
from_array_answer array = from_pairs_answer ((word_at array 0, word_at array 1), (word_at array 2, word_at array 3))

-- the four words, as M31
abbrev pub to_array_answer : QM31 → Result (List M31) Refusal
to_array_answer a = checked (words a) (a.0.0 ∷ a.0.1 ∷ a.1.0 ∷ a.1.1 ∷ [])

-- an answer of M31 as one of QM31
abbrev pub of_base_answer : Result M31 Refusal → Result QM31 Refusal
of_base_answer (Ok a) = Ok (of_pairs (of_base a.0))
of_base_answer (Err why) = Err why

-- number 2 from P² on
abbrev pub from_number_answer : ℕ → Result QM31 Refusal
from_number_answer n = of_base_answer (reduce_answer n)

abbrev pub is_zero_answer : QM31 → Result Bool Refusal
is_zero_answer = F.is_zero_answer qm31_field

abbrev pub add_answer : QM31 → QM31 → Result QM31 Refusal
add_answer = F.add_answer qm31_field

abbrev pub sub_answer : QM31 → QM31 → Result QM31 Refusal
sub_answer = F.sub_answer qm31_field

abbrev pub neg_answer : QM31 → Result QM31 Refusal
neg_answer = F.neg_answer qm31_field

abbrev pub mul_answer : QM31 → QM31 → Result QM31 Refusal
mul_answer = F.mul_answer qm31_field

-- with an element b of CM31, as b + 0u
abbrev pub mul_complex_answer : QM31 → CM31 → Result QM31 Refusal
mul_complex_answer a b = checked (words a ++ C.words b) (of_pairs (quartic_words.mul (pairs_of a) (embed complex_words (pair_of b))))

abbrev pub square_answer : QM31 → Result QM31 Refusal
square_answer = F.square_answer qm31_field

abbrev pub pow_answer : QM31 → ℕ → Result QM31 Refusal
pow_answer = F.pow_answer qm31_field

abbrev pub inverse_answer : QM31 → Result QM31 Refusal
inverse_answer = F.inverse_answer qm31_field

abbrev pub div_answer : QM31 → QM31 → Result QM31 Refusal
div_answer = F.div_answer qm31_field

abbrev pub conjugate_answer : QM31 → Result QM31 Refusal
conjugate_answer = F.conjugate_answer qm31_field

-- number 12 where another part than the first word isn't zero
abbrev pub narrow_answer : QM31 → Result M31 Refusal
narrow_answer a = checked (words a ++ need (C.is_zero a.1) Narrowing ++ need (a.0.1.0 == 0) Narrowing) a.0.0

-- a + bi + cu + diu, of elements a, b, c and d of QM31
unfoldable pub partial_evals : (a b c d : (ℕ × ℕ) × (ℕ × ℕ)) → (ℕ × ℕ) × (ℕ × ℕ)
partial_evals a b c d =
    quartic_words.add (quartic_words.add (quartic_words.add a
    (quartic_words.mul b ((0, 1), (0, 0)))) (quartic_words.mul c ((0, 0), (1, 0)))) (quartic_words.mul d ((0, 0), (0, 1)))

-- element k of a list
abbrev pub element_at : List QM31 → ℕ → QM31
element_at evals k = slice_index_or evals k (of_pairs quartic_words.zero)

-- what `from_partial_evals` answers of four elements
abbrev pub checked_evals : (a b c d : QM31) → Result QM31 Refusal
checked_evals a b c d =
    checked (words a ++ words b ++ words c ++ words d)
    (of_pairs (partial_evals (pairs_of a) (pairs_of b) (pairs_of c) (pairs_of d)))

abbrev pub partial_evals_answer : List QM31 → Result QM31 Refusal
partial_evals_answer evals = checked_evals (element_at evals 0) (element_at evals 1) (element_at evals 2) (element_at evals 3)

abbrev pub from_base_answer : M31 → Result QM31 Refusal
from_base_answer = E.from_base_answer qm31_field (λ m. of_pairs (of_base m))

abbrev pub add_base_answer : QM31 → M31 → Result QM31 Refusal
add_base_answer = E.add_base_answer qm31_field (λ m. of_pairs (of_base m))

abbrev pub sub_base_answer : QM31 → M31 → Result QM31 Refusal
sub_base_answer = E.sub_base_answer qm31_field (λ m. of_pairs (of_base m))

abbrev pub mul_base_answer : QM31 → M31 → Result QM31 Refusal
mul_base_answer = E.mul_base_answer qm31_field (λ m. of_pairs (of_base m))

abbrev pub div_base_answer : QM31 → M31 → Result QM31 Refusal
div_base_answer = E.div_base_answer qm31_field (λ m. of_pairs (of_base m))

abbrev pub base_sub_answer : M31 → QM31 → Result QM31 Refusal
base_sub_answer = E.base_sub_answer qm31_field (λ m. of_pairs (of_base m))

abbrev pub base_div_answer : M31 → QM31 → Result QM31 Refusal
base_div_answer = E.base_div_answer qm31_field (λ m. of_pairs (of_base m))

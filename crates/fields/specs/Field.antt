-- What the calls of a field answer, for any field: the refusals of the table in docs/CALLS.md in its order, then the operations
-- on the words of its elements.
use Rattle.std.specs.Prelude.{ℕ, Bool, not, ◌++◌, Result}
use Rattle.algebra.specs.Ring.{Ops, sub}
use Rattle.fields.specs.Check.{Checks, need, checked}
use Rattle.fields.specs.declared.refusal.Refusal.{Refusal}
use Rattle.fields.specs.declared.refusal.Refusal.TheVariants.{Word, Inverse}

-- a field whose elements are values of A: the words of each, and the operations on words
pub record FieldOf (A : Type 0) : Type 1 where
  pub words : Ops
  -- the words of an element, and the element of words
  pub value : A → words.El
  pub of : words.El → A
  -- whether all words are below P, and that they are
  pub reduced : A → Bool
  pub Reduced : A → Type 0
  -- whether all words are 0
  pub is_zero : A → Bool
  pub power : words.El → ℕ → words.El
  pub inverse : words.El → words.El
  pub conjugate : words.El → words.El

module _ {A : Type 0} (F : FieldOf A) where
  open F use {value, of}
  open F.words use {add, mul, neg}

  -- the words of two elements
  abbrev pub values : A → A → F.words.El × F.words.El
  values a b = (value a, value b)

  -- the words are below P, else number 1
  abbrev pub words : A → Checks
  words a = need (F.reduced a) (Word 0)

  -- a isn't zero, else number 3
  abbrev pub nonzero : A → Checks
  nonzero a = need (not (F.is_zero a)) (Inverse 0)

  abbrev pub is_zero_answer : A → Result Bool Refusal
  is_zero_answer a = checked (words a) (F.is_zero a)

  abbrev pub add_answer : A → A → Result A Refusal
  add_answer a b = checked (words a ++ words b) (of (add (value a) (value b)))

  abbrev pub sub_answer : A → A → Result A Refusal
  sub_answer a b = checked (words a ++ words b) (of (sub F.words (value a) (value b)))

  abbrev pub neg_answer : A → Result A Refusal
  neg_answer a = checked (words a) (of (neg (value a)))

  abbrev pub mul_answer : A → A → Result A Refusal
  mul_answer a b = checked (words a ++ words b) (of (mul (value a) (value b)))

  abbrev pub square_answer : A → Result A Refusal
  square_answer a = checked (words a) (of (mul (value a) (value a)))

  -- 0 to the power 0 is 1
  abbrev pub pow_answer : A → ℕ → Result A Refusal
  pow_answer a n = checked (words a) (of (F.power (value a) n))

  abbrev pub inverse_answer : A → Result A Refusal
  inverse_answer a = checked (words a ++ nonzero a) (of (F.inverse (value a)))

  abbrev pub div_answer : A → A → Result A Refusal
  div_answer a b = checked (words a ++ words b ++ nonzero b) (of (mul (value a) (F.inverse (value b))))

  abbrev pub conjugate_answer : A → Result A Refusal
  conjugate_answer a = checked (words a) (of (F.conjugate (value a)))

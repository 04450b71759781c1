-- What the calls of an extension of M31 answer that take an element of M31 too, for any extension.
use Rattle.std.specs.Prelude.{ℕ, ◌++◌, Result}
use Rattle.algebra.specs.Ring.{sub}
use Rattle.fields.specs.Check.{checked}
use Rattle.fields.specs.Field.{FieldOf, words, nonzero}
use Rattle.fields.specs.M31 as M31
use Rattle.fields.specs.Words.{inv_p}
use Rattle.fields.specs.declared.m31.M31.{M31}
use Rattle.fields.specs.declared.refusal.Refusal.{Refusal}

-- F is the extension, and embed m the element of M31 with the word m in it
module _ {A : Type 0} (F : FieldOf A) (embed : ℕ → A) where
  open F use {value, of}
  open F.words use {add, mul, neg}

  abbrev pub from_base_answer : M31 → Result A Refusal
  from_base_answer m = checked (M31.words m) (embed m.0)

  abbrev pub add_base_answer : A → M31 → Result A Refusal
  add_base_answer a m = checked (words F a ++ M31.words m) (of (add (value a) (value (embed m.0))))

  abbrev pub sub_base_answer : A → M31 → Result A Refusal
  sub_base_answer a m = checked (words F a ++ M31.words m) (of (sub F.words (value a) (value (embed m.0))))

  abbrev pub mul_base_answer : A → M31 → Result A Refusal
  mul_base_answer a m = checked (words F a ++ M31.words m) (of (mul (value a) (value (embed m.0))))

  abbrev pub div_base_answer : A → M31 → Result A Refusal
  div_base_answer a m = checked (words F a ++ M31.words m ++ M31.nonzero m) (of (mul (value a) (value (embed (inv_p m.0)))))

  -- m - a is - a + m
  abbrev pub base_sub_answer : M31 → A → Result A Refusal
  base_sub_answer m a = checked (M31.words m ++ words F a) (of (add (neg (value a)) (value (embed m.0))))

  -- m / a is the inverse of a times m
  abbrev pub base_div_answer : M31 → A → Result A Refusal
  base_div_answer m a = checked (M31.words m ++ words F a ++ nonzero F a) (of (mul (F.inverse (value a)) (value (embed m.0))))

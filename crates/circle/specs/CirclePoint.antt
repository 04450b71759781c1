-- What the calls of points answer, over any field: the refusals of the table in docs/CALLS.md in its order, then the formulas on the
-- words of x and of y.
use Rattle.std.specs.Prelude.{ℕ, Bool, not, ◌&&◌, ◌++◌, ℤ, Result}
use Rattle.algebra.specs.Extension.{conjugate}
use Rattle.algebra.specs.Circle.{plus, multiple, double_x}
use Rattle.algebra.specs.Doubling.{iterate, double}
use Rattle.fields.specs.Check.{Checks, need, checked}
use Rattle.fields.specs.Field.{FieldOf}
use Rattle.fields.specs.Field as E
use Rattle.fields.specs.declared.refusal.Refusal.{Refusal}
use Rattle.fields.specs.declared.refusal.Refusal.TheVariants.{Scalar, Word}
use Rattle.circle.specs.Formulas.{minus, antipode, signed_multiple, least}
use Rattle.circle.specs.declared.point.CirclePoint.{CirclePoint}

-- not -2^63, else number 11
abbrev pub scalar : ℤ → Checks
scalar k = need (not (least k)) Scalar

module _ {A : Type 0} (F : FieldOf A) where
  open F use {value, of}
  open F use {words as W}

  -- the words of x and those of y
  abbrev pub point_of : CirclePoint A → W.El × W.El
  point_of p = (value p.x, value p.y)

  -- the point of the words of x and of y
  abbrev pub of_point : W.El × W.El → CirclePoint A
  of_point p = record { x = of p.0; y = of p.1 }

  -- all words are below P
  abbrev pub Reduced : CirclePoint A → Type 0
  Reduced p = F.Reduced p.x × F.Reduced p.y

  -- whether all words are below P
  abbrev pub reduced : CirclePoint A → Bool
  reduced p = F.reduced p.x && F.reduced p.y

  -- the words are below P, else number 1
  abbrev pub words : CirclePoint A → Checks
  words p = need (reduced p) (Word 0)

  abbrev pub add_answer : CirclePoint A → CirclePoint A → Result (CirclePoint A) Refusal
  add_answer p q = checked (words p ++ words q) (of_point (plus W (point_of p) (point_of q)))

  abbrev pub sub_answer : CirclePoint A → CirclePoint A → Result (CirclePoint A) Refusal
  sub_answer p q = checked (words p ++ words q) (of_point (minus W (point_of p) (point_of q)))

  abbrev pub double_answer : CirclePoint A → Result (CirclePoint A) Refusal
  double_answer p = checked (words p) (of_point (double W (point_of p)))

  -- 2x² - 1
  abbrev pub double_x_answer : A → Result A Refusal
  double_x_answer x = checked (E.words F x) (of (double_x W (value x)))

  -- p added k times to zero
  abbrev pub mul_answer : CirclePoint A → ℕ → Result (CirclePoint A) Refusal
  mul_answer p k = checked (words p) (of_point (multiple W k (point_of p)))

  abbrev pub mul_signed_answer : CirclePoint A → ℤ → Result (CirclePoint A) Refusal
  mul_signed_answer p k = checked (scalar k ++ words p) (of_point (signed_multiple W k (point_of p)))

  -- n doublings
  abbrev pub repeated_double_answer : CirclePoint A → ℕ → Result (CirclePoint A) Refusal
  repeated_double_answer p n = checked (words p) (of_point (iterate n (double W) (point_of p)))

  -- (x, -y)
  abbrev pub conjugate_answer : CirclePoint A → Result (CirclePoint A) Refusal
  conjugate_answer p = checked (words p) (of_point (conjugate W (point_of p)))

  abbrev pub antipode_answer : CirclePoint A → Result (CirclePoint A) Refusal
  antipode_answer p = checked (words p) (of_point (antipode W (point_of p)))

  -- the complex conjugates of x and y
  abbrev pub complex_conjugate_answer : CirclePoint A → Result (CirclePoint A) Refusal
  complex_conjugate_answer p = checked (words p) (of_point (F.conjugate (value p.x), F.conjugate (value p.y)))

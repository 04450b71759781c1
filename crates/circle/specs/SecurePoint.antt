-- What each call of points over QM31 answers: the refusals of the table in docs/CALLS.md in its order, then its formulas.
use Rattle.std.specs.Prelude.{ℕ, ◌-◌, ◌^◌, ℤ, nat_lt, Result}
use Rattle.algebra.specs.M31.{P}
use Rattle.algebra.specs.Circle.{multiple}
use Rattle.fields.specs.Check.{Checks, need, checked}
use Rattle.fields.specs.Words.{quartic_words}
use Rattle.fields.specs.QM31.{qm31_field, of_base}
use Rattle.fields.specs.declared.m31.M31.{M31}
use Rattle.fields.specs.declared.qm31.QM31.{QM31}
use Rattle.fields.specs.declared.refusal.Refusal.{Refusal}
use Rattle.fields.specs.declared.refusal.Refusal.TheVariants.{Scalar}
use Rattle.circle.specs.CirclePoint as C
use Rattle.circle.specs.Point as M
use Rattle.circle.specs.declared.point.CirclePoint.{CirclePoint}

-- the words of x, by pairs, and those of y
abbrev pub point_of : CirclePoint QM31 → quartic_words.El × quartic_words.El
point_of = C.point_of qm31_field

-- the point of the words of x and of y, by pairs
abbrev pub of_point : quartic_words.El × quartic_words.El → CirclePoint QM31
of_point = C.of_point qm31_field

-- all words are below P
abbrev pub Reduced : CirclePoint QM31 → Type 0
Reduced = C.Reduced qm31_field

-- the words are below P, else number 1
abbrev pub words : CirclePoint QM31 → Checks
words = C.words qm31_field

-- SECURE_FIELD_CIRCLE_GEN of circle.rs
abbrev pub generator : quartic_words.El × quartic_words.El
generator = (((1, 0), (478637715, 513582971)), ((992285211, 649143431), (740191619, 1186584352)))

abbrev pub add_answer : CirclePoint QM31 → CirclePoint QM31 → Result (CirclePoint QM31) Refusal
add_answer = C.add_answer qm31_field

abbrev pub sub_answer : CirclePoint QM31 → CirclePoint QM31 → Result (CirclePoint QM31) Refusal
sub_answer = C.sub_answer qm31_field

abbrev pub double_answer : CirclePoint QM31 → Result (CirclePoint QM31) Refusal
double_answer = C.double_answer qm31_field

-- 2x² - 1
abbrev pub double_x_answer : QM31 → Result QM31 Refusal
double_x_answer = C.double_x_answer qm31_field

-- p added k times to zero
abbrev pub mul_answer : CirclePoint QM31 → ℕ → Result (CirclePoint QM31) Refusal
mul_answer = C.mul_answer qm31_field

abbrev pub mul_signed_answer : CirclePoint QM31 → ℤ → Result (CirclePoint QM31) Refusal
mul_signed_answer = C.mul_signed_answer qm31_field

-- n doublings
abbrev pub repeated_double_answer : CirclePoint QM31 → ℕ → Result (CirclePoint QM31) Refusal
repeated_double_answer = C.repeated_double_answer qm31_field

-- (x, -y)
abbrev pub conjugate_answer : CirclePoint QM31 → Result (CirclePoint QM31) Refusal
conjugate_answer = C.conjugate_answer qm31_field

abbrev pub antipode_answer : CirclePoint QM31 → Result (CirclePoint QM31) Refusal
antipode_answer = C.antipode_answer qm31_field

-- the complex conjugates of x and y
abbrev pub complex_conjugate_answer : CirclePoint QM31 → Result (CirclePoint QM31) Refusal
complex_conjugate_answer = C.complex_conjugate_answer qm31_field

-- below P^4 - 1, else number 11
abbrev pub get_point_answer : ℕ → Result (CirclePoint QM31) Refusal
get_point_answer k = checked (need (nat_lt k (P ^ 4 - 1)) Scalar) (of_point (multiple quartic_words k generator))

-- a point over M31 as one over QM31
abbrev pub into_ef_answer : CirclePoint M31 → Result (CirclePoint QM31) Refusal
into_ef_answer p = checked (M.words p) (of_point (of_base p.x.0, of_base p.y.0))

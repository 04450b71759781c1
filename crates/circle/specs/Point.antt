-- What each call of points over M31 answers: the refusals of the table in docs/CALLS.md in its order, then its formulas modulo P.
use Rattle.std.specs.Prelude.{ℕ, Bool, ◌&&◌, ◌++◌, ℤ, ◌==◌, Result}
use Rattle.algebra.specs.Circle.{zero_point, squares}
use Rattle.algebra.specs.Doubling.{iterate, double}
use Rattle.fields.specs.Check.{Checks, need, checked}
use Rattle.fields.specs.Words.{words31}
use Rattle.fields.specs.M31.{m31_field}
use Rattle.fields.specs.Search.{first}
use Rattle.fields.specs.declared.m31.M31.{M31}
use Rattle.fields.specs.declared.refusal.Refusal.{Refusal}
use Rattle.fields.specs.declared.refusal.Refusal.TheVariants.{Circle}
use Rattle.circle.specs.CirclePoint as C
use Rattle.circle.specs.declared.point.CirclePoint.{CirclePoint}

-- the words x and y
abbrev pub point_of : CirclePoint M31 → ℕ × ℕ
point_of = C.point_of m31_field

-- the point of the words x and y
abbrev pub of_point : ℕ × ℕ → CirclePoint M31
of_point = C.of_point m31_field

-- both words are below P
abbrev pub Reduced : CirclePoint M31 → Type 0
Reduced = C.Reduced m31_field

-- the words are below P, else number 1
abbrev pub words : CirclePoint M31 → Checks
words = C.words m31_field

-- G
abbrev pub generator : ℕ × ℕ
generator = (2, 1268011823)

abbrev pub add_answer : CirclePoint M31 → CirclePoint M31 → Result (CirclePoint M31) Refusal
add_answer = C.add_answer m31_field

abbrev pub sub_answer : CirclePoint M31 → CirclePoint M31 → Result (CirclePoint M31) Refusal
sub_answer = C.sub_answer m31_field

abbrev pub double_answer : CirclePoint M31 → Result (CirclePoint M31) Refusal
double_answer = C.double_answer m31_field

-- 2x² - 1
abbrev pub double_x_answer : M31 → Result M31 Refusal
double_x_answer = C.double_x_answer m31_field

-- p added k times to zero
abbrev pub mul_answer : CirclePoint M31 → ℕ → Result (CirclePoint M31) Refusal
mul_answer = C.mul_answer m31_field

abbrev pub mul_signed_answer : CirclePoint M31 → ℤ → Result (CirclePoint M31) Refusal
mul_signed_answer = C.mul_signed_answer m31_field

-- n doublings
abbrev pub repeated_double_answer : CirclePoint M31 → ℕ → Result (CirclePoint M31) Refusal
repeated_double_answer = C.repeated_double_answer m31_field

-- (x, -y)
abbrev pub conjugate_answer : CirclePoint M31 → Result (CirclePoint M31) Refusal
conjugate_answer = C.conjugate_answer m31_field

abbrev pub antipode_answer : CirclePoint M31 → Result (CirclePoint M31) Refusal
antipode_answer = C.antipode_answer m31_field

-- an element of M31 is its own complex conjugate
abbrev pub complex_conjugate_answer : CirclePoint M31 → Result (CirclePoint M31) Refusal
complex_conjugate_answer = C.complex_conjugate_answer m31_field

-- whether a point is zero, (1, 0)
abbrev pub is_zero : ℕ × ℕ → Bool
is_zero p = p.0 == (zero_point words31).0 && p.1 == (zero_point words31).1

-- the least count of doublings that reach zero; 31 where fewer don't (`LogOrder.antt` proves that on the circle 31 reach it)
unfoldable pub log_order : ℕ × ℕ → ℕ
log_order p = first (λ n. is_zero (iterate n (double words31) p)) 31

-- x² + y² = 1, else number 10
abbrev pub on_circle : CirclePoint M31 → Checks
on_circle p = need (squares words31 (point_of p) == 1) Circle

abbrev pub log_order_answer : CirclePoint M31 → Result ℕ Refusal
log_order_answer p = checked (words p ++ on_circle p) (log_order (point_of p))

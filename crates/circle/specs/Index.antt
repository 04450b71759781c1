-- What each call of point indices answers: the refusals of the table in docs/CALLS.md in its order, then numbers modulo 2^31.
use Rattle.std.specs.Prelude.{ℕ, ◌+◌, ◌-◌, ◌*◌, ◌/◌, ◌%◌, ◌^◌, ◌<◌, Bool, ◌&&◌, ◌++◌, ◌==◌, nat_le, nat_lt, Result}
use Rattle.algebra.specs.Circle.{multiple}
use Rattle.fields.specs.Check.{Checks, need, checked}
use Rattle.fields.specs.Search.{first}
use Rattle.fields.specs.Words.{words31}
use Rattle.fields.specs.declared.m31.M31.{M31}
use Rattle.fields.specs.declared.refusal.Refusal.{Refusal}
use Rattle.fields.specs.declared.refusal.Refusal.TheVariants.{LogSize, Index, Halving}
use Rattle.circle.specs.Point.{point_of, of_point, words, on_circle, generator}
use Rattle.circle.specs.declared.point.CirclePoint.{CirclePoint}
use Rattle.circle.specs.declared.index.CirclePointIndex.{CirclePointIndex}

-- the point index of a number
abbrev pub of_index : ℕ → CirclePointIndex
of_index k = record { 0 = k }

-- a point index is below 2^31
abbrev pub IsIndex : CirclePointIndex → Type 0
IsIndex k = k.0 < 2 ^ 31

-- whether a point index is below 2^31
abbrev pub is_index : CirclePointIndex → Bool
is_index k = nat_lt k.0 (2 ^ 31)

-- an index in range, else number 4
abbrev pub in_range : CirclePointIndex → Checks
in_range k = need (is_index k) Index

-- the point of index k: G added k times to zero
abbrev pub index_point : ℕ → ℕ × ℕ
index_point k = multiple words31 k generator

-- whether p is the point of index k
abbrev pub is_point_of : ℕ × ℕ → ℕ → Bool
is_point_of p k = p.0 == (index_point k).0 && p.1 == (index_point k).1

-- the first index below 2^31 whose point is p (`IndexOfPoint.antt` proves that on the circle there is one, and no other)
unfoldable pub index_of : ℕ × ℕ → ℕ
index_of p = first (is_point_of p) (2 ^ 31)

-- a generator of the subgroup of 2^n points: 2^(31 - n) modulo 2^31, so 0 for n = 0
abbrev pub subgroup_gen : ℕ → ℕ
subgroup_gen n = 2 ^ (31 - n) % 2 ^ 31

-- the negative of an index
abbrev pub neg_index : ℕ → ℕ
neg_index k = (2 ^ 31 - k) % 2 ^ 31

abbrev pub reduce_answer : CirclePointIndex → Result CirclePointIndex Refusal
reduce_answer k = checked (in_range k) (of_index (k.0 % 2 ^ 31))

-- a log size of at most 31, else number 6
abbrev pub subgroup_gen_answer : ℕ → Result CirclePointIndex Refusal
subgroup_gen_answer n = checked (need (nat_le n 31) LogSize) (of_index (subgroup_gen n))

abbrev pub to_point_answer : CirclePointIndex → Result (CirclePoint M31) Refusal
to_point_answer k = checked (in_range k) (of_point (index_point k.0))

abbrev pub from_point_answer : CirclePoint M31 → Result CirclePointIndex Refusal
from_point_answer p = checked (words p ++ on_circle p) (of_index (index_of (point_of p)))

-- an even index, else number 5
abbrev pub half_answer : CirclePointIndex → Result CirclePointIndex Refusal
half_answer k = checked (in_range k ++ need (k.0 % 2 == 0) Halving) (of_index (k.0 / 2))

abbrev pub add_answer : CirclePointIndex → CirclePointIndex → Result CirclePointIndex Refusal
add_answer j k = checked (in_range j ++ in_range k) (of_index ((j.0 + k.0) % 2 ^ 31))

abbrev pub sub_answer : CirclePointIndex → CirclePointIndex → Result CirclePointIndex Refusal
sub_answer j k = checked (in_range j ++ in_range k) (of_index ((j.0 + 2 ^ 31 - k.0) % 2 ^ 31))

abbrev pub neg_answer : CirclePointIndex → Result CirclePointIndex Refusal
neg_answer k = checked (in_range k) (of_index (neg_index k.0))

-- modulo 2^64, then modulo 2^31
abbrev pub mul_answer : CirclePointIndex → ℕ → Result CirclePointIndex Refusal
mul_answer k n = checked (in_range k) (of_index ((k.0 * n) % 2 ^ 64 % 2 ^ 31))

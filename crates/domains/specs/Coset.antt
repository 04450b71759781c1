-- What each call of cosets answers: the refusals of its records, then the others of the table in docs/CALLS.md, then its formulas.
use Rattle.std.specs.Prelude.{Result, ℕ, ◌+◌, ◌-◌, ◌*◌, ◌%◌, ◌^◌, Bool, ◌&&◌, ◌++◌, leb, eqb}
use Rattle.algebra.specs.Doubling.{iterate, double}
use Rattle.fields.specs.Check.{Checks, need, checked}
use Rattle.fields.specs.Words.{words31}
use Rattle.fields.specs.declared.refusal.Refusal.{Refusal}
use Rattle.fields.specs.declared.refusal.Refusal.TheVariants.{LogSize, Doublings}
use Rattle.circle.specs.Point.{of_point, point_of}
use Rattle.circle.specs.Index.{of_index, in_range, index_point, subgroup_gen, neg_index}
use Rattle.fields.specs.declared.m31.M31.{M31}
use Rattle.circle.specs.declared.point.CirclePoint.{CirclePoint}
use Rattle.circle.specs.declared.index.CirclePointIndex.{CirclePointIndex}
use Rattle.domains.specs.declared.coset.Coset.{Coset}
use Rattle.domains.specs.declared.iterator.CosetIterator.{CosetIterator}
use Rattle.domains.specs.Record.{same_point, check, check_two, check_with_index}

-- 2^n points from index k on
unfoldable pub coset_of : ℕ → ℕ → Coset
coset_of k n = record {
  initial_index = of_index k;
  initial = of_point (index_point k);
  step_size = of_index (subgroup_gen n);
  step = of_point (index_point (subgroup_gen n));
  log_size = n;
}

abbrev pub new_answer : CirclePointIndex → ℕ → Result Coset Refusal
new_answer k n = checked (need (leb n 31) LogSize ++ in_range k) (coset_of k.0 n)

abbrev pub subgroup_answer : ℕ → Result Coset Refusal
subgroup_answer n = checked (need (leb n 31) LogSize) (coset_of 0 n)

abbrev pub odds_answer : ℕ → Result Coset Refusal
odds_answer n = checked (need (leb n 30) LogSize) (coset_of (subgroup_gen (n + 1)) n)

abbrev pub half_odds_answer : ℕ → Result Coset Refusal
half_odds_answer n = checked (need (leb n 29) LogSize) (coset_of (subgroup_gen (n + 2)) n)

-- by the indices, for any i
unfoldable pub index_at : Coset → ℕ → ℕ
index_at c i = (c.initial_index.0 + c.step_size.0 * i) % 2 ^ 31

-- what a coset answers whose record has these checks, also that of a canonic coset

abbrev pub size_by : Checks → Coset → Result ℕ Refusal
size_by checks c = checked checks (2 ^ c.log_size)

abbrev pub log_size_by : Checks → Coset → Result ℕ Refusal
log_size_by checks c = checked checks c.log_size

abbrev pub index_at_by : Checks → Coset → ℕ → Result CirclePointIndex Refusal
index_at_by checks c i = checked checks (of_index (index_at c i))

abbrev pub at_by : Checks → Coset → ℕ → Result (CirclePoint M31) Refusal
at_by checks c i = checked checks (of_point (index_point (index_at c i)))

abbrev pub size_answer : Coset → Result ℕ Refusal
size_answer c = size_by (check c) c

abbrev pub log_size_answer : Coset → Result ℕ Refusal
log_size_answer c = log_size_by (check c) c

abbrev pub index_at_answer : Coset → ℕ → Result CirclePointIndex Refusal
index_at_answer c i = index_at_by (check c) c i

abbrev pub at_answer : Coset → ℕ → Result (CirclePoint M31) Refusal
at_answer c i = at_by (check c) c i

abbrev pub initial_answer : Coset → Result (CirclePoint M31) Refusal
initial_answer c = checked (check c) c.initial

-- indices and points each by themselves
unfoldable pub doubled : Coset → Coset
doubled c = record {
  initial_index = of_index ((c.initial_index.0 * 2) % 2 ^ 31);
  initial = of_point (double words31 (point_of c.initial));
  step_size = of_index ((c.step_size.0 * 2) % 2 ^ 31);
  step = of_point (double words31 (point_of c.step));
  log_size = c.log_size - 1;
}

-- no more doublings than the log size, else number 7
abbrev pub repeated_double_answer : Coset → ℕ → Result Coset Refusal
repeated_double_answer c n = checked (check c ++ need (leb n c.log_size) Doublings) (iterate n doubled c)

abbrev pub double_answer : Coset → Result Coset Refusal
double_answer c = repeated_double_answer c 1

-- field by field
unfoldable pub same_coset : Coset → Coset → Bool
same_coset c d =
    eqb c.initial_index.0 d.initial_index.0 && eqb c.step_size.0 d.step_size.0
    && (same_point c.initial d.initial && same_point c.step d.step)
    && eqb c.log_size d.log_size

-- whether c is d, doubled as often as their log sizes differ
unfoldable pub is_doubling_of : Coset → Coset → Bool
is_doubling_of c d = leb c.log_size d.log_size && same_coset c (iterate (d.log_size - c.log_size) doubled d)

abbrev pub is_doubling_of_answer : Coset → Coset → Result Bool Refusal
is_doubling_of_answer c d = checked (check_two c d) (is_doubling_of c d)

-- the initial point is that of the new index; the step's point stays
unfoldable pub shifted : Coset → ℕ → Coset
shifted c k = record {
  initial_index = of_index ((c.initial_index.0 + k) % 2 ^ 31);
  initial = of_point (index_point ((c.initial_index.0 + k) % 2 ^ 31));
  step_size = c.step_size;
  step = c.step;
  log_size = c.log_size;
}

abbrev pub shift_answer : Coset → CirclePointIndex → Result Coset Refusal
shift_answer c k = checked (check_with_index c k) (shifted c k.0)

-- both points are those of the negative indices
unfoldable pub conjugated : Coset → Coset
conjugated c = record {
  initial_index = of_index (neg_index c.initial_index.0);
  initial = of_point (index_point (neg_index c.initial_index.0));
  step_size = of_index (neg_index c.step_size.0);
  step = of_point (index_point (neg_index c.step_size.0));
  log_size = c.log_size;
}

abbrev pub conjugate_answer : Coset → Result Coset Refusal
conjugate_answer c = checked (check c) (conjugated c)

-- the indices as they are stored, and as many steps as the size
unfoldable pub iterator_of : Coset → CosetIterator
iterator_of c = record { cur = c.initial_index; step = c.step_size; remaining = 2 ^ c.log_size }

abbrev pub iter_indices_answer : Coset → Result CosetIterator Refusal
iter_indices_answer c = checked (check c) (iterator_of c)

-- What each call of canonic cosets answers: the refusals of the table in docs/CALLS.md in its order, then its formulas.
use Rattle.std.specs.Prelude.{Result, ℕ, ◌+◌, ◌-◌}
use Rattle.fields.specs.Check.{need, checked}
use Rattle.fields.specs.LogSize.{is_log_size}
use Rattle.fields.specs.declared.refusal.Refusal.{Refusal}
use Rattle.fields.specs.declared.refusal.Refusal.TheVariants.{LogSize}
use Rattle.circle.specs.Index.{subgroup_gen}
use Rattle.fields.specs.declared.m31.M31.{M31}
use Rattle.circle.specs.declared.point.CirclePoint.{CirclePoint}
use Rattle.circle.specs.declared.index.CirclePointIndex.{CirclePointIndex}
use Rattle.domains.specs.declared.coset.Coset.{Coset}
use Rattle.domains.specs.declared.canonic.CanonicCoset.{CanonicCoset}
use Rattle.domains.specs.declared.domain.CircleDomain.{CircleDomain}
use Rattle.domains.specs.Record.{check_canonic}
use Rattle.domains.specs.Coset.{coset_of, size_by, log_size_by, index_at_by, at_by}
use Rattle.domains.specs.Domain.{of_half}

-- odds(n)
unfoldable pub canonic_of : ℕ → CanonicCoset
canonic_of n = record { coset = coset_of (subgroup_gen (n + 1)) n }

-- half_odds(n - 1)
unfoldable pub half_of : ℕ → Coset
half_of n = coset_of (subgroup_gen (n - 1 + 2)) (n - 1)

abbrev pub try_new_answer : ℕ → Result CanonicCoset Refusal
try_new_answer n = checked (need (is_log_size n) LogSize) (canonic_of n)

abbrev pub coset_answer : CanonicCoset → Result Coset Refusal
coset_answer c = checked (check_canonic c) c.coset

-- by the log size alone
abbrev pub half_coset_answer : CanonicCoset → Result Coset Refusal
half_coset_answer c = checked (check_canonic c) (half_of c.coset.log_size)

abbrev pub circle_domain_answer : CanonicCoset → Result CircleDomain Refusal
circle_domain_answer c = checked (check_canonic c) (of_half (half_of c.coset.log_size))

abbrev pub log_size_answer : CanonicCoset → Result ℕ Refusal
log_size_answer c = log_size_by (check_canonic c) c.coset

abbrev pub size_answer : CanonicCoset → Result ℕ Refusal
size_answer c = size_by (check_canonic c) c.coset

abbrev pub initial_index_answer : CanonicCoset → Result CirclePointIndex Refusal
initial_index_answer c = checked (check_canonic c) c.coset.initial_index

abbrev pub step_size_answer : CanonicCoset → Result CirclePointIndex Refusal
step_size_answer c = checked (check_canonic c) c.coset.step_size

abbrev pub step_answer : CanonicCoset → Result (CirclePoint M31) Refusal
step_answer c = checked (check_canonic c) c.coset.step

abbrev pub index_at_answer : CanonicCoset → ℕ → Result CirclePointIndex Refusal
index_at_answer c i = index_at_by (check_canonic c) c.coset i

abbrev pub at_answer : CanonicCoset → ℕ → Result (CirclePoint M31) Refusal
at_answer c i = at_by (check_canonic c) c.coset i

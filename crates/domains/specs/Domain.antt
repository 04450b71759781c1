-- What each call of circle domains answers: the refusals of its record, then the others of the table in docs/CALLS.md, then its formulas.
use Rattle.std.specs.Prelude.{Result, Ok, Err}
use Rattle.std.specs.Prelude.{ℕ, ◌+◌, ◌-◌, ◌*◌, ◌%◌, ◌^◌, ◌≤◌, ◌<◌, ◌≡◌, Bool, true, cond, ◌||◌, List, ◌++◌, leb, ltb, eqb, drop}
use Rattle.std.proofs.Common.{lt-ltb, le-ltb, eq-eqb, ne_eqb}
use Rattle.algebra.specs.Listing.{listing}
use Rattle.fields.specs.Check.{need, checked}
use Rattle.fields.specs.declared.refusal.Refusal.{Refusal}
use Rattle.fields.specs.declared.refusal.Refusal.TheVariants.{Length, Doublings}
use Rattle.circle.specs.Point.{of_point}
use Rattle.circle.specs.Index.{of_index, index_point, neg_index}
use Rattle.fields.specs.declared.m31.M31.{M31}
use Rattle.circle.specs.declared.point.CirclePoint.{CirclePoint}
use Rattle.circle.specs.declared.index.CirclePointIndex.{CirclePointIndex}
use Rattle.domains.specs.declared.coset.Coset.{Coset}
use Rattle.domains.specs.declared.domain.CircleDomain.{CircleDomain}
use Rattle.domains.specs.declared.iterator.CircleDomainIndexIterator.{CircleDomainIndexIterator}
use Rattle.domains.specs.Record.{check, check_with_index}
use Rattle.domains.specs.Coset.{coset_of, index_at, shifted, conjugated, iterator_of}

-- the domain of a half coset
abbrev pub of_half : Coset → CircleDomain
of_half c = record { half_coset = c }

abbrev pub new_answer : Coset → Result CircleDomain Refusal
new_answer c = checked (check c) (of_half c)

-- 2^32 for a half coset of log size 31
abbrev pub size_answer : CircleDomain → Result ℕ Refusal
size_answer d = checked (check d.half_coset) (2 ^ (d.half_coset.log_size + 1))

abbrev pub log_size_answer : CircleDomain → Result ℕ Refusal
log_size_answer d = checked (check d.half_coset) (d.half_coset.log_size + 1)

-- the half coset's indices, and from its size on the negatives, for any i
unfoldable pub domain_index_at : Coset → ℕ → ℕ
domain_index_at c i = cond (ltb i (2 ^ c.log_size)) (index_at c i) (neg_index (index_at c (i - 2 ^ c.log_size)))

abbrev pub index_at_answer : CircleDomain → ℕ → Result CirclePointIndex Refusal
index_at_answer d i = checked (check d.half_coset) (of_index (domain_index_at d.half_coset i))

abbrev pub at_answer : CircleDomain → ℕ → Result (CirclePoint M31) Refusal
at_answer d i = checked (check d.half_coset) (of_point (index_point (domain_index_at d.half_coset i)))

-- of a half coset's initial and step indices: where the step is 0, whether the initial index is 2^29 or 3 times 2^29; elsewhere
-- whether 4 times the initial index, modulo 2^31, equals the step
unfoldable pub is_canonic : ℕ → ℕ → Bool
is_canonic initial step = cond (eqb step 0) (eqb initial (2 ^ 29) || eqb initial (3 * 2 ^ 29)) (eqb ((initial * 4) % 2 ^ 31) step)

-- by the two indices alone
abbrev pub is_canonic_answer : CircleDomain → Result Bool Refusal
is_canonic_answer d =
    checked (check d.half_coset) (is_canonic d.half_coset.initial_index.0 d.half_coset.step_size.0)

-- the half coset's iterator, then the conjugate's
unfoldable pub domain_iterator_of : Coset → CircleDomainIndexIterator
domain_iterator_of c = record { first = iterator_of c; second = iterator_of (conjugated c) }

abbrev pub iter_indices_answer : CircleDomain → Result CircleDomainIndexIterator Refusal
iter_indices_answer d = checked (check d.half_coset) (domain_iterator_of d.half_coset)

abbrev pub shift_answer : CircleDomain → CirclePointIndex → Result CircleDomain Refusal
shift_answer d k = checked (check_with_index d.half_coset k) (of_half (shifted d.half_coset k.0))

-- into 2^n parts, the shifts into so many words: no more parts than the half coset has points, else number 7; then no fewer
-- words than parts, else number 8
abbrev pub split_answer : CircleDomain → ℕ → ℕ → Result CircleDomain Refusal
split_answer d n words =
    checked (check d.half_coset ++ (need (leb n d.half_coset.log_size) Doublings ++ need (leb (2 ^ n) words) Length))
    (of_half (coset_of d.half_coset.initial_index.0 (d.half_coset.log_size - n)))

-- what a call with this answer leaves in the lent slice: the step times 0, 1, .., modulo 2^31
unfoldable pub split_exit : Result CircleDomain Refusal → CircleDomain → ℕ → List ℕ → List ℕ
split_exit (Ok part) d n shifts = listing (2 ^ n) (λ i. (d.half_coset.step_size.0 * i) % 2 ^ 31) ++ drop (2 ^ n) shifts
split_exit (Err why) d n shifts = shifts

-- ---- laws: the positions are not periodic; from the half coset's size on, every one is on the conjugate's side

pub index_second : (c : Coset) (i : ℕ) → 2 ^ c.log_size ≤ i → domain_index_at c i ≡ neg_index (index_at c (i - 2 ^ c.log_size))
unfolding domain_index_at
index_second c i h = rw (le-ltb i (2 ^ c.log_size) h)

pub index_first : (c : Coset) (i : ℕ) → i < 2 ^ c.log_size → domain_index_at c i ≡ index_at c i
unfolding domain_index_at
index_first c i h = rw (lt-ltb i (2 ^ c.log_size) h)

-- ---- laws: the three cases of `is_canonic`

pub canonic_by_step : (k s : ℕ) → (s ≡ 0 → ⊥) → is_canonic k s ≡ eqb ((k * 4) % 2 ^ 31) s
unfolding is_canonic
canonic_by_step k s h = rw (ne_eqb s 0 h)

pub canonic_at_quarter : (k s : ℕ) → s ≡ 0 → k ≡ 2 ^ 29 → is_canonic k s ≡ true
unfolding is_canonic
canonic_at_quarter k s h e = rw (eq-eqb s 0 h, eq-eqb k (2 ^ 29) e)

pub canonic_beside_quarter : (k s : ℕ) → s ≡ 0 → (k ≡ 2 ^ 29 → ⊥) → is_canonic k s ≡ eqb k (3 * 2 ^ 29)
unfolding is_canonic
canonic_beside_quarter k s h e = rw (eq-eqb s 0 h, ne_eqb k (2 ^ 29) e)

-- What a step of an iterator answers: the index and the iterator after it, or done.
use Rattle.std.specs.Prelude.{Result, Option, Some, None, ◌+◌, ◌-◌, ◌%◌, ◌^◌, cond, ◌++◌, eqb}
use Rattle.fields.specs.Check.{Checks, checked}
use Rattle.circle.specs.Index.{of_index, in_range}
use Rattle.fields.specs.declared.refusal.Refusal.{Refusal}
use Rattle.circle.specs.declared.index.CirclePointIndex.{CirclePointIndex}
use Rattle.domains.specs.declared.iterator.CosetIterator.{CosetIterator}
use Rattle.domains.specs.declared.iterator.CircleDomainIndexIterator.{CircleDomainIndexIterator}

-- both indices in range, else number 4, also where none remain
abbrev pub check : CosetIterator → Checks
check it = in_range it.cur ++ in_range it.step

-- the checks of the first iterator, then those of the second
abbrev pub check_both : CircleDomainIndexIterator → Checks
check_both it = check it.first ++ check it.second

-- one step further
unfoldable pub advanced : CosetIterator → CosetIterator
advanced it = record { cur = of_index ((it.cur.0 + it.step.0) % 2 ^ 31); step = it.step; remaining = it.remaining - 1 }

-- the index and the iterator after it, or none and the iterator as it was
abbrev pub stepped : CosetIterator → Option CirclePointIndex × CosetIterator
stepped it = cond (eqb it.remaining 0) (None, it) (Some it.cur, advanced it)

abbrev pub next_answer : CosetIterator → Result (Option CirclePointIndex × CosetIterator) Refusal
next_answer it = checked (check it) (stepped it)

-- the first iterator, then the second, then done
abbrev pub domain_next_answer : CircleDomainIndexIterator → Result (Option CirclePointIndex × CircleDomainIndexIterator) Refusal
domain_next_answer it =
    checked (check_both it)
    (cond (eqb it.first.remaining 0)
    (cond (eqb it.second.remaining 0) (None, it)
    (Some it.second.cur, record { first = it.first; second = advanced it.second }))
    (Some it.first.cur, record { first = advanced it.first; second = it.second }))

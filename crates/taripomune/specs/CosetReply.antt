-- Cosets, domains and their iterators as the numbers that cross the C interface.
use Rattle.std.specs.Prelude.{ℕ, Option, Some, None, Result, Ok, Err}
use Rattle.fields.specs.Refusal.{number_of, position_of}
use Rattle.fields.specs.declared.refusal.Refusal.{Refusal}
use Rattle.circle.specs.Point.{of_point}
use Rattle.circle.specs.Index.{of_index}
use Rattle.circle.specs.declared.index.CirclePointIndex.{CirclePointIndex}
use Rattle.domains.specs.declared.coset.Coset.{Coset}
use Rattle.domains.specs.declared.canonic.CanonicCoset.{CanonicCoset}
use Rattle.domains.specs.declared.domain.CircleDomain.{CircleDomain}
use Rattle.domains.specs.declared.iterator.CosetIterator.{CosetIterator}
use Rattle.domains.specs.declared.iterator.CircleDomainIndexIterator.{CircleDomainIndexIterator}
use Rattle.taripomune.specs.declared.coset_reply.CosetReply.{CosetReply}
use Rattle.taripomune.specs.declared.coset_reply.CosetIteratorReply.{CosetIteratorReply}
use Rattle.taripomune.specs.declared.coset_reply.CosetStepReply.{CosetStepReply}
use Rattle.taripomune.specs.declared.coset_reply.CircleDomainIndexIteratorReply.{CircleDomainIndexIteratorReply}
use Rattle.taripomune.specs.declared.coset_reply.CircleDomainStepReply.{CircleDomainStepReply}

-- ---- the numbers that a call takes

-- initial index, x and y; step index, x and y; log size
abbrev pub of_numbers : ℕ → ℕ → ℕ → ℕ → ℕ → ℕ → ℕ → Coset
of_numbers k x y s u v n = record {
  initial_index = of_index k;
  initial = of_point (x, y);
  step_size = of_index s;
  step = of_point (u, v);
  log_size = n;
}

-- a canonic coset as its coset
abbrev pub canonic_of_numbers : ℕ → ℕ → ℕ → ℕ → ℕ → ℕ → ℕ → CanonicCoset
canonic_of_numbers k x y s u v n = record { coset = of_numbers k x y s u v n }

-- a circle domain as its half coset
abbrev pub domain_of_numbers : ℕ → ℕ → ℕ → ℕ → ℕ → ℕ → ℕ → CircleDomain
domain_of_numbers k x y s u v n = record { half_coset = of_numbers k x y s u v n }

-- the index to hand back next, the step, how many remain
abbrev pub iterator_of_numbers : ℕ → ℕ → ℕ → CosetIterator
iterator_of_numbers cur step remaining = record { cur = of_index cur; step = of_index step; remaining = remaining }

-- the half coset's iterator, then its conjugate's
abbrev pub index_iterator_of_numbers : ℕ → ℕ → ℕ → ℕ → ℕ → ℕ → CircleDomainIndexIterator
index_iterator_of_numbers a b c d e f = record { first = iterator_of_numbers a b c; second = iterator_of_numbers d e f }

-- ---- replies

-- the seven numbers of a coset
abbrev pub coset_reply : Result Coset Refusal → CosetReply
coset_reply (Ok c) = record {
  number = 0;
  position = 0;
  initial_index = c.initial_index.0;
  initial_x = c.initial.x.0;
  initial_y = c.initial.y.0;
  step_index = c.step_size.0;
  step_x = c.step.x.0;
  step_y = c.step.y.0;
  log_size = c.log_size;
}
coset_reply (Err why) = record {
  number = number_of why;
  position = position_of why;
  initial_index = 0;
  initial_x = 0;
  initial_y = 0;
  step_index = 0;
  step_x = 0;
  step_y = 0;
  log_size = 0;
}

-- its coset
abbrev pub canonic_coset_reply : Result CanonicCoset Refusal → CosetReply
canonic_coset_reply (Ok c) = coset_reply (Ok c.coset)
canonic_coset_reply (Err why) = coset_reply (Err why)

-- its half coset
abbrev pub circle_domain_reply : Result CircleDomain Refusal → CosetReply
circle_domain_reply (Ok d) = coset_reply (Ok d.half_coset)
circle_domain_reply (Err why) = coset_reply (Err why)

-- the index to hand back next, the step, how many remain
abbrev pub coset_iterator_reply : Result CosetIterator Refusal → CosetIteratorReply
coset_iterator_reply (Ok it) = record {
  number = 0;
  position = 0;
  cur = it.cur.0;
  step = it.step.0;
  remaining = it.remaining;
}
coset_iterator_reply (Err why) = record {
  number = number_of why;
  position = position_of why;
  cur = 0;
  step = 0;
  remaining = 0;
}

-- done or not, the index, the iterator after the step
abbrev pub coset_step_reply : Result (Option CirclePointIndex × CosetIterator) Refusal → CosetStepReply
coset_step_reply (Ok (Some index, it)) = record {
  number = 0;
  position = 0;
  done = 0;
  index = index.0;
  cur = it.cur.0;
  step = it.step.0;
  remaining = it.remaining;
}
coset_step_reply (Ok (None, it)) = record {
  number = 0;
  position = 0;
  done = 1;
  index = 0;
  cur = it.cur.0;
  step = it.step.0;
  remaining = it.remaining;
}
coset_step_reply (Err why) = record {
  number = number_of why;
  position = position_of why;
  done = 0;
  index = 0;
  cur = 0;
  step = 0;
  remaining = 0;
}

-- the numbers of the half coset's iterator, then of its conjugate's
abbrev pub index_iterator_reply : Result CircleDomainIndexIterator Refusal → CircleDomainIndexIteratorReply
index_iterator_reply (Ok it) = record {
  number = 0;
  position = 0;
  first_cur = it.first.cur.0;
  first_step = it.first.step.0;
  first_remaining = it.first.remaining;
  second_cur = it.second.cur.0;
  second_step = it.second.step.0;
  second_remaining = it.second.remaining;
}
index_iterator_reply (Err why) = record {
  number = number_of why;
  position = position_of why;
  first_cur = 0;
  first_step = 0;
  first_remaining = 0;
  second_cur = 0;
  second_step = 0;
  second_remaining = 0;
}

-- done or not, the index, both iterators after the step
abbrev pub circle_domain_step_reply : Result (Option CirclePointIndex × CircleDomainIndexIterator) Refusal → CircleDomainStepReply
circle_domain_step_reply (Ok (Some index, it)) = record {
  number = 0;
  position = 0;
  done = 0;
  index = index.0;
  first_cur = it.first.cur.0;
  first_step = it.first.step.0;
  first_remaining = it.first.remaining;
  second_cur = it.second.cur.0;
  second_step = it.second.step.0;
  second_remaining = it.second.remaining;
}
circle_domain_step_reply (Ok (None, it)) = record {
  number = 0;
  position = 0;
  done = 1;
  index = 0;
  first_cur = it.first.cur.0;
  first_step = it.first.step.0;
  first_remaining = it.first.remaining;
  second_cur = it.second.cur.0;
  second_step = it.second.step.0;
  second_remaining = it.second.remaining;
}
circle_domain_step_reply (Err why) = record {
  number = number_of why;
  position = position_of why;
  done = 0;
  index = 0;
  first_cur = 0;
  first_step = 0;
  first_remaining = 0;
  second_cur = 0;
  second_step = 0;
  second_remaining = 0;
}

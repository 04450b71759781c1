-- Walks of the iterators: as many steps as the size, each with its index, then done, and done again.
use Prim.Native.Nat.{ℕ, zero, suc, ◌+◌, ◌-◌, ◌*◌, ◌%◌, ◌^◌, ◌≤◌, ◌<◌}
use Rattle.std.specs.Prelude.{◌≡◌, true, false, eqb, Option, Some, None, Result, Ok, Err}
use Rattle.std.proofs.Math.Path.{refl, sym, ap, ap₂}
use Rattle.std.proofs.Common.{◌∙◌}
use Rattle.std.proofs.Math.Nat as N
use native.Mathlib.Omega.{arith}
use borrow.Author.Tests.{eq-eqb, ne_eqb}
use Rattle.algebra.specs.Doubling.{iterate, iterate-suc, iterate-add}
use Rattle.fields.specs.CheckLaws.{Hold, hold_both, hold_passes}
use Rattle.circle.specs.Index.{of_index, in_range}
use Rattle.domains.specs.declared.coset.Coset.{Coset}
use Rattle.fields.specs.declared.refusal.Refusal.{Refusal}
use Rattle.circle.specs.declared.index.CirclePointIndex.{CirclePointIndex}
use Rattle.domains.specs.declared.iterator.CosetIterator.{CosetIterator}
use Rattle.domains.specs.declared.iterator.CircleDomainIndexIterator.{CircleDomainIndexIterator}
use Rattle.domains.specs.Record.{Fits}
use Rattle.domains.specs.RecordLaws.{index_passes}
use Rattle.domains.specs.Coset.{index_at, conjugated, iterator_of}
use Rattle.domains.specs.CosetLaws.{index_at_index, index_at-zero, conjugate_fits}
use Rattle.domains.specs.Iterator.{check, check_both, advanced, next_answer, domain_next_answer}
use Rattle.domains.specs.Domain.{domain_iterator_of}

-- the iterator that a step hands back; itself where the step is refused
unfoldable pub after : CosetIterator → Result (Option CirclePointIndex × CosetIterator) Refusal → CosetIterator
after it (Ok step) = step.1
after it (Err why) = it

unfoldable pub domain_after : CircleDomainIndexIterator → Result (Option CirclePointIndex × CircleDomainIndexIterator) Refusal
    → CircleDomainIndexIterator
domain_after it (Ok step) = step.1
domain_after it (Err why) = it

-- the iterators that so many steps hand back
abbrev pub steps : ℕ → CosetIterator → CosetIterator
steps k it = iterate k (λ it. after it (next_answer it)) it

abbrev pub domain_steps : ℕ → CircleDomainIndexIterator → CircleDomainIndexIterator
domain_steps k it = iterate k (λ it. domain_after it (domain_next_answer it)) it

-- what the iterator of a coset hands back; `coset_walk` proves it for every coset that fits
pub record CosetWalk (c : Coset) : Type 0 where
  pub index : (k : ℕ) → k < 2 ^ c.log_size
      → next_answer (steps k (iterator_of c)) ≡ Ok (Some (of_index (index_at c k)), steps (suc k) (iterator_of c))
  pub done : (k : ℕ) → 2 ^ c.log_size ≤ k → next_answer (steps k (iterator_of c)) ≡ Ok (None, steps (suc k) (iterator_of c))

-- what the iterator of a domain hands back; `domain_walk` proves it for every half coset that fits
pub record DomainWalk (c : Coset) : Type 0 where
  pub first_half : (k : ℕ) → k < 2 ^ c.log_size
      → domain_next_answer (domain_steps k (domain_iterator_of c))
      ≡ Ok (Some (of_index (index_at c k)), domain_steps (suc k) (domain_iterator_of c))
  pub second_half : (k : ℕ) → k < 2 ^ c.log_size
      → domain_next_answer (domain_steps (2 ^ c.log_size + k) (domain_iterator_of c))
      ≡ Ok (Some (of_index (index_at (conjugated c) k)), domain_steps (suc (2 ^ c.log_size + k)) (domain_iterator_of c))
  pub done : (k : ℕ) → 2 * 2 ^ c.log_size ≤ k
      → domain_next_answer (domain_steps k (domain_iterator_of c)) ≡ Ok (None, domain_steps (suc k) (domain_iterator_of c))

abbrev handed : {S : Type 0} → Option CirclePointIndex → S → Result (Option CirclePointIndex × S) Refusal
handed index rest = Ok (index, rest)

-- ---- a walk through known states

module _ {S : Type 0} (f : S → S) (at : ℕ → S) (size : ℕ) (next : (k : ℕ) → k < size → f (at k) ≡ at (suc k)) where
  iterate_walked : (k : ℕ) → k ≤ size → iterate k f (at 0) ≡ at k
  unfolding iterate
  iterate_walked zero h = refl
  iterate_walked (suc k) h = iterate-suc k f (at 0) ∙ ap f (iterate_walked k (omega arith)) ∙ next k (omega arith)

  iterate_ended : f (at size) ≡ at size → (k : ℕ) → iterate (size + k) f (at 0) ≡ at size
  unfolding iterate
  iterate_ended e zero = ap (λ (t : ℕ). iterate t f (at 0)) (N.add-zero size) ∙ iterate_walked size (omega arith)
  iterate_ended e (suc k) =
      ap (λ (t : ℕ). iterate t f (at 0)) (N.add-suc size k) ∙ iterate-suc (size + k) f (at 0) ∙ ap f (iterate_ended e k) ∙ e

-- ---- the coset's iterator

-- its state after k steps, while there are any
unfoldable state_at : Coset → ℕ → CosetIterator
state_at c k = record { cur = of_index (index_at c k); step = c.step_size; remaining = 2 ^ c.log_size - k }

state_index : (c : Coset) (k : ℕ) → (state_at c k).cur ≡ of_index (index_at c k)
unfolding state_at
state_index c k = refl

module _ (c : Coset) (f : Fits c) where
  iterator_start : iterator_of c ≡ state_at c 0
  unfolding state_at iterator_of
  iterator_start = λ i. record {
    cur = of_index (sym (index_at-zero c f) i);
    step = c.step_size;
    remaining = sym (N.sub-zero (2 ^ c.log_size)) i;
  }

  state_holds : (k : ℕ) → Hold (check (state_at c k))
  unfolding state_at
  state_holds k =
      hold_both (in_range (of_index (index_at c k))) (in_range c.step_size)
      (index_passes (of_index (index_at c k)) (index_at_index c k), tt) (index_passes c.step_size f.step_size_fits, tt)

  next_index : (k : ℕ) → (index_at c k + c.step_size.0) % 2 ^ 31 ≡ index_at c (suc k)
  unfolding index_at
  next_index k = omega arith

  state_next : (k : ℕ) → k < 2 ^ c.log_size → advanced (state_at c k) ≡ state_at c (suc k)
  unfolding advanced state_at
  state_next k h =
      let fewer : 2 ^ c.log_size - k - 1 ≡ 2 ^ c.log_size - suc k = omega arith in
      λ i. record { cur = of_index (next_index k i); step = c.step_size; remaining = fewer i }

  some_left : (k : ℕ) → k < 2 ^ c.log_size → eqb (state_at c k).remaining 0 ≡ false
  unfolding state_at
  some_left k h = ne_eqb (2 ^ c.log_size - k) 0 (λ e. omega arith)

  none_left : eqb (state_at c (2 ^ c.log_size)).remaining 0 ≡ true
  unfolding state_at
  none_left = eq-eqb (2 ^ c.log_size - 2 ^ c.log_size) 0 (omega arith)

  state_step : (k : ℕ) → k < 2 ^ c.log_size → next_answer (state_at c k) ≡ Ok (Some (of_index (index_at c k)), state_at c (suc k))
  state_step k h =
      hold_passes (check (state_at c k)) _ (state_holds k) ∙ rw (some_left k h) (λ i. Ok (Some (state_index c k i), state_next k h i))

  state_done : next_answer (state_at c (2 ^ c.log_size)) ≡ Ok (None, state_at c (2 ^ c.log_size))
  state_done = hold_passes (check (state_at c (2 ^ c.log_size))) _ (state_holds (2 ^ c.log_size)) ∙ rw none_left

  state_after : (k : ℕ) → k < 2 ^ c.log_size → after (state_at c k) (next_answer (state_at c k)) ≡ state_at c (suc k)
  unfolding after
  state_after k h = ap (after (state_at c k)) (state_step k h)

  state_stays : after (state_at c (2 ^ c.log_size)) (next_answer (state_at c (2 ^ c.log_size))) ≡ state_at c (2 ^ c.log_size)
  unfolding after
  state_stays = ap (after (state_at c (2 ^ c.log_size))) state_done

  steps_state : (k : ℕ) → k ≤ 2 ^ c.log_size → steps k (iterator_of c) ≡ state_at c k
  steps_state k h =
      ap (steps k) iterator_start ∙ iterate_walked (λ it. after it (next_answer it)) (state_at c) (2 ^ c.log_size) state_after k h

  steps_ended : (k : ℕ) → 2 ^ c.log_size ≤ k → steps k (iterator_of c) ≡ state_at c (2 ^ c.log_size)
  steps_ended k h =
      let more : k ≡ 2 ^ c.log_size + (k - 2 ^ c.log_size) = omega arith in
      ap₂ steps more iterator_start
      ∙ iterate_ended (λ it. after it (next_answer it)) (state_at c) (2 ^ c.log_size) state_after state_stays (k - 2 ^ c.log_size)

  pub coset_walk : CosetWalk c
  coset_walk = record {
    index = λ k h. ap next_answer (steps_state k (omega arith)) ∙ state_step k h
        ∙ ap (handed (Some (of_index (index_at c k)))) (sym (steps_state (suc k) h));
    done = λ k h. ap next_answer (steps_ended k h) ∙ state_done ∙ ap (handed None) (sym (steps_ended (suc k) (omega arith)));
  }

-- ---- the domain's iterator

abbrev pair : CosetIterator → CosetIterator → CircleDomainIndexIterator
pair s t = record { first = s; second = t }

module _ (c : Coset) (f : Fits c) where
  g : Fits (conjugated c)
  g = conjugate_fits c f.log_size_fits

  -- while the half coset's iterator has steps left, and then the conjugate's
  abbrev first_at : ℕ → CircleDomainIndexIterator
  first_at k = pair (state_at c k) (state_at (conjugated c) 0)

  abbrev second_at : ℕ → CircleDomainIndexIterator
  second_at k = pair (state_at c (2 ^ c.log_size)) (state_at (conjugated c) k)

  abbrev move : CircleDomainIndexIterator → CircleDomainIndexIterator
  move it = domain_after it (domain_next_answer it)

  both_hold : (j k : ℕ) → Hold (check_both (pair (state_at c j) (state_at (conjugated c) k)))
  both_hold j k = hold_both (check (state_at c j)) (check (state_at (conjugated c) k)) (state_holds c f j) (state_holds (conjugated c) g k)

  first_step : (k : ℕ) → k < 2 ^ c.log_size → domain_next_answer (first_at k) ≡ Ok (Some (of_index (index_at c k)), first_at (suc k))
  unfolding index_at
  first_step k h =
      hold_passes (check_both (first_at k)) _ (both_hold k 0)
      ∙ rw (some_left c f k h) (λ i. Ok (Some (state_index c k i), pair (state_next c f k h i) (state_at (conjugated c) 0)))

  second_step : (k : ℕ) → k < 2 ^ c.log_size
      → domain_next_answer (second_at k) ≡ Ok (Some (of_index (index_at (conjugated c) k)), second_at (suc k))
  unfolding conjugated index_at
  second_step k h =
      hold_passes (check_both (second_at k)) _ (both_hold (2 ^ c.log_size) k)
      ∙ rw (none_left c f, some_left (conjugated c) g k h)
      (λ i. Ok (Some (state_index (conjugated c) k i), pair (state_at c (2 ^ c.log_size)) (state_next (conjugated c) g k h i)))

  last_step : domain_next_answer (second_at (2 ^ c.log_size)) ≡ Ok (None, second_at (2 ^ c.log_size))
  unfolding conjugated
  last_step =
      hold_passes (check_both (second_at (2 ^ c.log_size))) _ (both_hold (2 ^ c.log_size) (2 ^ c.log_size))
      ∙ rw (none_left c f, none_left (conjugated c) g)

  first_move : (k : ℕ) → k < 2 ^ c.log_size → move (first_at k) ≡ first_at (suc k)
  unfolding domain_after
  first_move k h = ap (domain_after (first_at k)) (first_step k h)

  second_move : (k : ℕ) → k < 2 ^ c.log_size → move (second_at k) ≡ second_at (suc k)
  unfolding domain_after
  second_move k h = ap (domain_after (second_at k)) (second_step k h)

  last-move : move (second_at (2 ^ c.log_size)) ≡ second_at (2 ^ c.log_size)
  unfolding domain_after
  last-move = ap (domain_after (second_at (2 ^ c.log_size))) last_step

  domain_iterator_start : domain_iterator_of c ≡ first_at 0
  unfolding domain_iterator_of
  domain_iterator_start = ap₂ pair (iterator_start c f) (iterator_start (conjugated c) g)

  first_steps : (k : ℕ) → k ≤ 2 ^ c.log_size → domain_steps k (domain_iterator_of c) ≡ first_at k
  first_steps k h = ap (domain_steps k) domain_iterator_start ∙ iterate_walked move first_at (2 ^ c.log_size) first_move k h

  -- the first half is walked through
  steps_past_half : (k : ℕ) → domain_steps (2 ^ c.log_size + k) (domain_iterator_of c) ≡ domain_steps k (second_at 0)
  steps_past_half k =
      iterate-add (2 ^ c.log_size) k move (domain_iterator_of c) ∙ ap (domain_steps k) (first_steps (2 ^ c.log_size) (omega arith))

  second_steps : (k : ℕ) → k ≤ 2 ^ c.log_size → domain_steps (2 ^ c.log_size + k) (domain_iterator_of c) ≡ second_at k
  second_steps k h = steps_past_half k ∙ iterate_walked move second_at (2 ^ c.log_size) second_move k h

  all_steps : (k : ℕ) → 2 * 2 ^ c.log_size ≤ k → domain_steps k (domain_iterator_of c) ≡ second_at (2 ^ c.log_size)
  all_steps k h =
      let more : k ≡ 2 ^ c.log_size + (2 ^ c.log_size + (k - 2 * 2 ^ c.log_size)) = omega arith in
      ap (λ (t : ℕ). domain_steps t (domain_iterator_of c)) more ∙ steps_past_half (2 ^ c.log_size + (k - 2 * 2 ^ c.log_size))
      ∙ iterate_ended move second_at (2 ^ c.log_size) second_move last-move (k - 2 * 2 ^ c.log_size)

  pub domain_walk : DomainWalk c
  domain_walk = record {
    first_half = λ k h. ap domain_next_answer (first_steps k (omega arith)) ∙ first_step k h
        ∙ ap (handed (Some (of_index (index_at c k)))) (sym (first_steps (suc k) h));
    second_half = λ k h. ap domain_next_answer (second_steps k (omega arith)) ∙ second_step k h
        ∙ ap (handed (Some (of_index (index_at (conjugated c) k))))
        (sym (ap (λ (t : ℕ). domain_steps t (domain_iterator_of c)) (sym (N.add-suc (2 ^ c.log_size) k)) ∙ second_steps (suc k) h));
    done = λ k h. ap domain_next_answer (all_steps k h) ∙ last_step ∙ ap (handed None) (sym (all_steps (suc k) (omega arith)));
  }

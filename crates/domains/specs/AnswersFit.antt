-- What a call answers with, the calls accept: every index is below 2^31, and every coset, canonic coset and domain passes the checks of
-- its record, the last of which is that each point is that of its index.
use Rattle.std.specs.Prelude.{Option, Some, None, Result, Ok, Err}
use Rattle.std.specs.Prelude.{ℕ, ◌+◌, ◌-◌, ◌*◌, ◌/◌, ◌%◌, ◌^◌, ◌<◌, Bool, true, false, cond, ◌++◌, leb, ltb, eqb}
use Rattle.std.proofs.Common.{arith, lit<, leb-true}
use Rattle.fields.specs.Check.{Checks, need, checked}
use Rattle.fields.specs.CheckLaws.{Hold, hold_split, checked_has}
use Rattle.algebra.specs.Doubling.{iterate}
use Rattle.fields.specs.LogSize.{is_log_size}
use Rattle.fields.specs.LogSizeLaws.{log_size_fits_lem}
use Rattle.fields.specs.declared.refusal.Refusal.{Refusal}
use Rattle.fields.specs.declared.refusal.Refusal.TheVariants.{LogSize, Length, Halving, Doublings}
use Rattle.circle.specs.Index.{of_index, IsIndex, in_range, subgroup_gen, neg_index}
use Rattle.circle.specs.Index as Index
use Rattle.circle.specs.declared.index.CirclePointIndex.{CirclePointIndex}
use Rattle.domains.specs.declared.coset.Coset.{Coset}
use Rattle.domains.specs.declared.canonic.CanonicCoset.{CanonicCoset}
use Rattle.domains.specs.declared.domain.CircleDomain.{CircleDomain}
use Rattle.domains.specs.declared.iterator.CosetIterator.{CosetIterator}
use Rattle.domains.specs.declared.iterator.CircleDomainIndexIterator.{CircleDomainIndexIterator}
use Rattle.domains.specs.Record.{check, check_canonic, check_with_index, Fits}
use Rattle.domains.specs.Coset.{coset_of, index_at, doubled, shifted, conjugated, iterator_of}
use Rattle.domains.specs.Coset as Coset
use Rattle.domains.specs.Iterator as Iterator
use Rattle.domains.specs.Canonic.{canonic_of, half_of}
use Rattle.domains.specs.Canonic as Canonic
use Rattle.domains.specs.Domain.{of_half, domain_index_at, domain_iterator_of}
use Rattle.domains.specs.Domain as Domain
use Rattle.domains.specs.RecordLaws.{fits_hold, canonic_hold, with_index_hold}
use Rattle.domains.specs.RecordLaws.{hold_index, hold_fits, hold_with_index, hold_canonic, hold_iterator}
use Rattle.domains.specs.CosetLaws.{subgroup_gen_index, made_fits, canonic_of_fits, half_of_fits, doublings_fit, shifted_fits}
use Rattle.domains.specs.CosetLaws.{conjugate_fits, index_at_index, neg_index_lem}

-- the value of an answer, where it has one, passes the checks of the calls that take it

unfoldable pub IndexFits : Result CirclePointIndex Refusal → Type 0
IndexFits (Ok k) = IsIndex k
IndexFits (Err why) = Unit

unfoldable pub CosetFits : Result Coset Refusal → Type 0
CosetFits (Ok c) = Hold (check c)
CosetFits (Err why) = Unit

unfoldable pub CanonicFits : Result CanonicCoset Refusal → Type 0
CanonicFits (Ok c) = Hold (check_canonic c)
CanonicFits (Err why) = Unit

unfoldable pub DomainFits : Result CircleDomain Refusal → Type 0
DomainFits (Ok d) = Hold (check d.half_coset)
DomainFits (Err why) = Unit

-- also shifted by k: the shift is accepted, and the domain that it gives
unfoldable pub PartFits : Result CircleDomain Refusal → ℕ → Type 0
PartFits (Ok d) k = Hold (check_with_index d.half_coset (of_index k)) × Hold (check (shifted d.half_coset k))
PartFits (Err why) k = Unit

-- both indices of an iterator
abbrev pub BothFit : CosetIterator → Type 0
BothFit it = (IsIndex it.cur) × (IsIndex it.step)

-- all four of a domain's
abbrev pub AllFit : CircleDomainIndexIterator → Type 0
AllFit it = (BothFit it.first) × (BothFit it.second)

unfoldable pub IteratorFits : Result CosetIterator Refusal → Type 0
IteratorFits (Ok it) = BothFit it
IteratorFits (Err why) = Unit

unfoldable pub DomainIteratorFits : Result CircleDomainIndexIterator Refusal → Type 0
DomainIteratorFits (Ok it) = AllFit it
DomainIteratorFits (Err why) = Unit

unfoldable pub StepFits : Result (Option CirclePointIndex × CosetIterator) Refusal → Type 0
StepFits (Ok (Some k, rest)) = (IsIndex k) × (BothFit rest)
StepFits (Ok (None, rest)) = BothFit rest
StepFits (Err why) = Unit

unfoldable pub DomainStepFits : Result (Option CirclePointIndex × CircleDomainIndexIterator) Refusal → Type 0
DomainStepFits (Ok (Some k, rest)) = (IsIndex k) × (AllFit rest)
DomainStepFits (Ok (None, rest)) = AllFit rest
DomainStepFits (Err why) = Unit

-- the calls of indices; `index_answers` proves it, as do the theorems below for the others
pub record IndexAnswers : Type 0 where
  pub reduce : (k : CirclePointIndex) → IndexFits (Index.reduce_answer k)
  pub subgroup_gen : (n : ℕ) → IndexFits (Index.subgroup_gen_answer n)
  pub half : (k : CirclePointIndex) → IndexFits (Index.half_answer k)
  pub add : (j k : CirclePointIndex) → IndexFits (Index.add_answer j k)
  pub sub : (j k : CirclePointIndex) → IndexFits (Index.sub_answer j k)
  pub neg : (k : CirclePointIndex) → IndexFits (Index.neg_answer k)
  pub mul : (k : CirclePointIndex) (n : ℕ) → IndexFits (Index.mul_answer k n)

pub record CosetAnswers : Type 0 where
  pub new : (k : CirclePointIndex) (n : ℕ) → CosetFits (Coset.new_answer k n)
  pub subgroup : (n : ℕ) → CosetFits (Coset.subgroup_answer n)
  pub odds : (n : ℕ) → CosetFits (Coset.odds_answer n)
  pub half_odds : (n : ℕ) → CosetFits (Coset.half_odds_answer n)
  pub repeated_double : (c : Coset) (n : ℕ) → CosetFits (Coset.repeated_double_answer c n)
  pub double : (c : Coset) → CosetFits (Coset.double_answer c)
  pub shift : (c : Coset) (k : CirclePointIndex) → CosetFits (Coset.shift_answer c k)
  pub conjugate : (c : Coset) → CosetFits (Coset.conjugate_answer c)
  pub index_at : (c : Coset) (i : ℕ) → IndexFits (Coset.index_at_answer c i)
  pub iter_indices : (c : Coset) → IteratorFits (Coset.iter_indices_answer c)
  pub next : (it : CosetIterator) → StepFits (Iterator.next_answer it)

pub record CanonicAnswers : Type 0 where
  pub try_new : (n : ℕ) → CanonicFits (Canonic.try_new_answer n)
  pub coset : (c : CanonicCoset) → CosetFits (Canonic.coset_answer c)
  pub half_coset : (c : CanonicCoset) → CosetFits (Canonic.half_coset_answer c)
  pub circle_domain : (c : CanonicCoset) → DomainFits (Canonic.circle_domain_answer c)
  pub initial_index : (c : CanonicCoset) → IndexFits (Canonic.initial_index_answer c)
  pub step_size : (c : CanonicCoset) → IndexFits (Canonic.step_size_answer c)
  pub index_at : (c : CanonicCoset) (i : ℕ) → IndexFits (Canonic.index_at_answer c i)

pub record DomainAnswers : Type 0 where
  pub new : (c : Coset) → DomainFits (Domain.new_answer c)
  pub shift : (d : CircleDomain) (k : CirclePointIndex) → DomainFits (Domain.shift_answer d k)
  pub split : (d : CircleDomain) (n words : ℕ) → DomainFits (Domain.split_answer d n words)
  -- part i is what `split` answers with, shifted by word i of the shifts that it writes (`split_exit`)
  pub part : (d : CircleDomain) (n words i : ℕ)
      → PartFits (Domain.split_answer d n words) ((d.half_coset.step_size.0 * i) % 2 ^ 31)
  pub index_at : (d : CircleDomain) (i : ℕ) → IndexFits (Domain.index_at_answer d i)
  pub iter_indices : (d : CircleDomain) → DomainIteratorFits (Domain.iter_indices_answer d)
  pub next : (it : CircleDomainIndexIterator) → DomainStepFits (Iterator.domain_next_answer it)

-- ---- an answer has what its value has where every test holds

index_answer : (checks : Checks) (k : CirclePointIndex) → (Hold checks → IsIndex k) → IndexFits (checked checks k)
unfolding IndexFits
index_answer checks k = checked_has IndexFits checks k (λ why. tt)

coset_answer_lem : (checks : Checks) (c : Coset) → (Hold checks → Fits c) → CosetFits (checked checks c)
unfolding CosetFits
coset_answer_lem checks c h = checked_has CosetFits checks c (λ why. tt) (λ t. fits_hold c (h t))

domain_answer : (checks : Checks) (c : Coset) → (Hold checks → Fits c) → DomainFits (checked checks (of_half c))
unfolding DomainFits
domain_answer checks c h = checked_has DomainFits checks (of_half c) (λ why. tt) (λ t. fits_hold c (h t))

cond_has : {A : Type 0} (Has : A → Type 0) (t : Bool) (x y : A) → Has x → Has y → Has (cond t x y)
cond_has Has true x y h k = h
cond_has Has false x y h k = k

-- ---- indices

pub index_answers : IndexAnswers
index_answers = record {
  reduce = λ k. index_answer (in_range k) (of_index (k.0 % 2 ^ 31)) (λ h. omega arith);
  subgroup_gen = λ n. index_answer (need (leb n 31) LogSize) (of_index (subgroup_gen n)) (λ h. subgroup_gen_index n);
  half = λ k. index_answer (in_range k ++ need (eqb (k.0 % 2) 0) Halving) (of_index (k.0 / 2))
      (λ h. omega (arith, hold_index k (h.0, tt)));
  add = λ j k. index_answer (in_range j ++ in_range k) (of_index ((j.0 + k.0) % 2 ^ 31)) (λ h. omega arith);
  sub = λ j k. index_answer (in_range j ++ in_range k) (of_index ((j.0 + 2 ^ 31 - k.0) % 2 ^ 31)) (λ h. omega arith);
  neg = λ k. index_answer (in_range k) (of_index (neg_index k.0)) (λ h. neg_index_lem k.0);
  mul = λ k n. index_answer (in_range k) (of_index ((k.0 * n) % 2 ^ 64 % 2 ^ 31)) (λ h. omega arith);
}

-- ---- cosets

iterator_fits : (c : Coset) → Fits c → BothFit (iterator_of c)
unfolding iterator_of
iterator_fits c f = (f.initial_index_fits, f.step_size_fits)

advanced_fits : (it : CosetIterator) → BothFit it → BothFit (Iterator.advanced it)
unfolding Iterator.advanced
advanced_fits it f = (omega arith, f.1)

pub coset_answers : CosetAnswers
unfolding IteratorFits StepFits
coset_answers = record {
  new = λ k n. coset_answer_lem (need (leb n 31) LogSize ++ in_range k) (coset_of k.0 n)
      (λ h. made_fits k.0 n (hold_index k h.1) (leb-true n 31 h.0));
  subgroup = λ n. coset_answer_lem (need (leb n 31) LogSize) (coset_of 0 n) (λ h. made_fits 0 n (lit< tt) (leb-true n 31 h.0));
  odds = λ n. coset_answer_lem (need (leb n 30) LogSize) (coset_of (subgroup_gen (n + 1)) n)
      (λ h. made_fits (subgroup_gen (n + 1)) n (subgroup_gen_index (n + 1)) (omega (arith, leb-true n 30 h.0)));
  half_odds = λ n. coset_answer_lem (need (leb n 29) LogSize) (coset_of (subgroup_gen (n + 2)) n)
      (λ h. made_fits (subgroup_gen (n + 2)) n (subgroup_gen_index (n + 2)) (omega (arith, leb-true n 29 h.0)));
  repeated_double = doublings;
  double = λ c. doublings c 1;
  shift = λ c k. coset_answer_lem (check_with_index c k) (shifted c k.0) (λ h. shifted_fits c k.0 (hold_with_index c k h).0);
  conjugate = λ c. coset_answer_lem (check c) (conjugated c) (λ h. conjugate_fits c (hold_fits c h).log_size_fits);
  index_at = λ c i. index_answer (check c) (of_index (index_at c i)) (λ h. index_at_index c i);
  iter_indices = λ c. checked_has IteratorFits (check c) (iterator_of c) (λ why. tt)
      (λ h. iterator_fits c (hold_fits c h));
  next = λ it. checked_has StepFits (Iterator.check it) _ (λ why. tt) (λ h.
      let f = hold_iterator it h in
      cond_has (λ step. StepFits (Ok step)) (eqb it.remaining 0) (None, it) (Some it.cur, Iterator.advanced it) f
      (f.0, advanced_fits it f));
}
  where
    doublings : (c : Coset) (n : ℕ) → CosetFits (Coset.repeated_double_answer c n)
    doublings c n = coset_answer_lem (check c ++ need (leb n c.log_size) Doublings) (iterate n doubled c)
        (λ h. doublings_fit n c (hold_fits c (hold_split (check c) (need (leb n c.log_size) Doublings) h).0))

-- ---- canonic cosets

pub canonic_answers : CanonicAnswers
unfolding CanonicFits
canonic_answers = record {
  try_new = λ n. checked_has CanonicFits (need (is_log_size n) LogSize) (canonic_of n) (λ why. tt)
      (λ h. let range = log_size_fits_lem n h.0 in canonic_hold (canonic_of n) (canonic_of_fits n range.0 range.1));
  coset = λ c. coset_answer_lem (check_canonic c) c.coset (λ h. (hold_canonic c h).coset);
  half_coset = λ c. coset_answer_lem (check_canonic c) (half_of c.coset.log_size)
      (λ h. half_of_fits c.coset.log_size (hold_canonic c h).most);
  circle_domain = λ c. domain_answer (check_canonic c) (half_of c.coset.log_size)
      (λ h. half_of_fits c.coset.log_size (hold_canonic c h).most);
  initial_index = λ c. index_answer (check_canonic c) c.coset.initial_index (λ h. (hold_canonic c h).coset.initial_index_fits);
  step_size = λ c. index_answer (check_canonic c) c.coset.step_size (λ h. (hold_canonic c h).coset.step_size_fits);
  index_at = λ c i. index_answer (check_canonic c) (of_index (index_at c.coset i)) (λ h. index_at_index c.coset i);
}

-- ---- circle domains

pub domain_index_index : (c : Coset) (i : ℕ) → IsIndex (of_index (domain_index_at c i))
unfolding domain_index_at
domain_index_index c i = cond_has (λ (k : ℕ). k < 2 ^ 31) (ltb i (2 ^ c.log_size)) _ _ (index_at_index c i) (neg_index_lem _)

domain_iterator_fits : (c : Coset) → Fits c → AllFit (domain_iterator_of c)
unfolding domain_iterator_of
domain_iterator_fits c f = (iterator_fits c f, iterator_fits (conjugated c) (conjugate_fits c f.log_size_fits))

-- what `split` checks after its record
abbrev room : CircleDomain → ℕ → ℕ → Checks
room d n words = need (leb n d.half_coset.log_size) Doublings ++ need (leb (2 ^ n) words) Length

pub domain_answers : DomainAnswers
unfolding DomainIteratorFits DomainStepFits PartFits
domain_answers = record {
  new = λ c. domain_answer (check c) c (hold_fits c);
  shift = λ d k. domain_answer (check_with_index d.half_coset k) (shifted d.half_coset k.0)
      (λ h. shifted_fits d.half_coset k.0 (hold_with_index d.half_coset k h).0);
  split = λ d n words. domain_answer (check d.half_coset ++ room d n words) (smaller d n) (smaller_fits d n words);
  part = λ d n words i. checked_has (λ r. PartFits r (at d i)) (check d.half_coset ++ room d n words) (of_half (smaller d n)) (λ why. tt)
      (λ h. let f = smaller_fits d n words h in
      (with_index_hold (smaller d n) (of_index (at d i)) f (omega arith), fits_hold _ (shifted_fits (smaller d n) (at d i) f)));
  index_at = λ d i. index_answer (check d.half_coset) (of_index (domain_index_at d.half_coset i))
      (λ h. domain_index_index d.half_coset i);
  iter_indices = λ d. checked_has DomainIteratorFits (check d.half_coset) (domain_iterator_of d.half_coset)
      (λ why. tt) (λ h. domain_iterator_fits d.half_coset (hold_fits d.half_coset h));
  next = domain_step;
}
  where
    -- the half coset of what `split` answers with, and word i of its shifts
    smaller : CircleDomain → ℕ → Coset
    smaller d n = coset_of d.half_coset.initial_index.0 (d.half_coset.log_size - n)

    at : CircleDomain → ℕ → ℕ
    at d i = (d.half_coset.step_size.0 * i) % 2 ^ 31

    smaller_fits : (d : CircleDomain) (n words : ℕ) → Hold (check d.half_coset ++ room d n words) → Fits (smaller d n)
    smaller_fits d n words h =
        let f = hold_fits d.half_coset (hold_split (check d.half_coset) (room d n words) h).0 in
        made_fits d.half_coset.initial_index.0 (d.half_coset.log_size - n) f.initial_index_fits
        (omega (arith, f.log_size_fits))

    domain_step : (it : CircleDomainIndexIterator) → DomainStepFits (Iterator.domain_next_answer it)
    domain_step it = checked_has DomainStepFits (Iterator.check_both it) _ (λ why. tt) (λ h.
        let both = hold_split (Iterator.check it.first) (Iterator.check it.second) h in
        let f = hold_iterator it.first both.0 in
        let g = hold_iterator it.second both.1 in
        cond_has (λ step. DomainStepFits (Ok step)) (eqb it.first.remaining 0) _ _
        (cond_has (λ step. DomainStepFits (Ok step)) (eqb it.second.remaining 0) _ _ (f, g) (g.0, (f, advanced_fits it.second g)))
        (f.0, (advanced_fits it.first f, g)))

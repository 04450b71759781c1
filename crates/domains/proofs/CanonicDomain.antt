-- The canonic circle domain of log size n as the calls give it: the indices that it lists, in which order, and their points.
use Prim.Native.Nat.{ℕ, suc, ◌+◌, ◌-◌, ◌*◌, ◌%◌, ◌^◌, ◌≤◌, ◌<◌}
use Rattle.std.specs.Prelude.{Some, None, Ok, ◌≡◌, refl, true}
use Rattle.std.proofs.Common.{sym, ◌∙◌, eq-eqb}
use Rattle.std.proofs.Math.Path.{ap, ap₂, subst}
use Rattle.std.proofs.Math.Nat as N
use Rattle.std.proofs.Math.Decide.{dec_lt}
use native.Mathlib.Omega.{arith}
use Rattle.std.proofs.Math.Pow as W
use Rattle.fields.specs.CheckLaws.{Hold, hold_passes}
use Rattle.fields.specs.LogSizeLaws.{log_size_passes}
use Rattle.circle.specs.Point.{of_point}
use Rattle.circle.specs.Index.{of_index, index_point, neg_index, subgroup_gen}
use Rattle.domains.specs.Record.{check, check_canonic, Fits}
use Rattle.domains.specs.Listing.{unit, coset_index, domain_index}
use Rattle.domains.specs.Coset.{coset_of, index_at}
use Rattle.domains.specs.Iterator.{domain_next_answer}
use Rattle.domains.specs.Domain.{of_half, size_answer, index_at_answer, at_answer, domain_index_at, is_canonic_answer}
use Rattle.domains.specs.Domain.{iter_indices_answer, domain_iterator_of}
use Rattle.domains.specs.Canonic.{canonic_of, half_of, try_new_answer, circle_domain_answer}
use Rattle.domains.specs.Domain as D
use Rattle.domains.specs.Canonic as C
use Rattle.domains.specs.RecordLaws.{fits_hold, canonic_hold}
use Rattle.domains.specs.CosetLaws.{subgroup_gen_power, canonic_of_fits, half_of_fits, made_index, conjugate_index}
use Rattle.domains.specs.IteratorLaws.{domain_steps, DomainWalk, domain_walk}
use Rattle.domains.proofs.PointSet.{point_set_lem, two_halves, half_bound, domain_first, domain_second}
use Rattle.domains.specs.CanonicDomain.{CanonicDomain}

-- ---- proof

module _ (n : ℕ) (lo : 1 ≤ n) (hi : n ≤ 30) where
  canonic_passes : Hold (check_canonic (canonic_of n))
  canonic_passes = canonic_hold (canonic_of n) (canonic_of_fits n lo hi)

  half_fits : Fits (half_of n)
  half_fits = half_of_fits n hi

  half_passes : Hold (check (half_of n))
  half_passes = fits_hold (half_of n) half_fits

  -- h and 4h
  initial_unit : subgroup_gen (n - 1 + 2) ≡ unit n
  initial_unit = subgroup_gen_power (n - 1 + 2) (omega arith) ∙ ap (λ (t : ℕ). 2 ^ t) (omega arith)

  step-unit : 2 ^ (31 - (n - 1)) ≡ 4 * unit n
  step-unit =
      let more : 31 - (n - 1) ≡ suc (suc (30 - n)) = omega arith in
      ap (λ (t : ℕ). 2 ^ t) more ∙ omega (arith, N.pow-succ' 2 (suc (30 - n)), N.pow-succ' 2 (30 - n))

  -- the step is 4h, reduced to 0 for n = 1
  canonic_indices : D.is_canonic (unit n) (subgroup_gen (n - 1)) ≡ true
  canonic_indices = elim (dec_lt 1 n) [
    | yes l ↦ D.canonic_by_step (unit n) (subgroup_gen (n - 1)) (λ z. omega (arith, step_power l, W.pow_pos (30 - n), z))
        ∙ eq-eqb ((unit n * 4) % 2 ^ 31) (subgroup_gen (n - 1)) (omega (arith, step_power l))
    | no g ↦ ap (λ (t : ℕ). D.is_canonic (unit t) (subgroup_gen (t - 1))) (only_one g) ∙ D.canonic_at_quarter (2 ^ 29) 0 refl refl
  ]
    where
      step_power : 1 < n → subgroup_gen (n - 1) ≡ 4 * unit n
      step_power l = subgroup_gen_power (n - 1) (omega arith) ∙ step-unit

      only_one : ¬ (1 < n) → n ≡ 1
      only_one g = omega arith

  half_index : (i : ℕ) → i < 2 ^ (n - 1) → index_at (half_of n) i ≡ unit n + 4 * unit n * i
  unfolding half_of
  half_index i h =
      made_index (subgroup_gen (n - 1 + 2)) (n - 1) i
      ∙ ap₂ (λ (s t : ℕ). (s + t * i) % 2 ^ 31) initial_unit step-unit ∙ N.mod-eq_of_lt (half_bound n lo hi i h).1

  -- the first half of the domain, and the second
  first_index : (i : ℕ) → i < 2 ^ (n - 1) → index_at (half_of n) i ≡ domain_index n i
  first_index i h = half_index i h ∙ sym (domain_first n lo hi i h)

  second_index : (i : ℕ) → i < 2 ^ (n - 1) → neg_index (index_at (half_of n) i) ≡ domain_index n (2 ^ (n - 1) + i)
  second_index i h =
      ap neg_index (half_index i h) ∙ N.mod-eq_of_lt (omega (arith, half_bound n lo hi i h)) ∙ sym (domain_second n lo hi i h)

  index_at_domain : (i : ℕ) → i < 2 ^ n → domain_index_at (half_of n) i ≡ domain_index n i
  unfolding half_of coset_of
  index_at_domain i h = elim (dec_lt i (2 ^ (n - 1))) [
    | yes l ↦ D.index_first (half_of n) i l ∙ first_index i l
    | no g ↦ D.index_second (half_of n) i (omega arith) ∙ second_index (i - 2 ^ (n - 1)) (omega (arith, two_halves n lo hi))
        ∙ ap (domain_index n) (half_plus_rest g)
  ]
    where
      half_plus_rest : ¬ (i < 2 ^ (n - 1)) → 2 ^ (n - 1) + (i - 2 ^ (n - 1)) ≡ i
      half_plus_rest g = omega arith

  -- ---- the iterator's indices

  half_walk : DomainWalk (half_of n)
  half_walk = domain_walk (half_of n) half_fits

  all_steps : (i : ℕ) → i < 2 ^ n
      → domain_next_answer (domain_steps i (domain_iterator_of (half_of n)))
      ≡ Ok (Some (of_index (domain_index n i)), domain_steps (suc i) (domain_iterator_of (half_of n)))
  unfolding half_of coset_of
  all_steps i h = elim (dec_lt i (2 ^ (n - 1))) [
    | yes l ↦ half_walk.first_half i l
        ∙ ap (λ (t : ℕ). Ok (Some (of_index t), domain_steps (suc i) (domain_iterator_of (half_of n)))) (first_index i l)
    | no g ↦ subst (λ (t : ℕ). domain_next_answer (domain_steps t (domain_iterator_of (half_of n)))
        ≡ Ok (Some (of_index (domain_index n t)), domain_steps (suc t) (domain_iterator_of (half_of n)))) (half_plus_rest g)
        (later (i - 2 ^ (n - 1)) (omega (arith, two_halves n lo hi)))
  ]
    where
      half_plus_rest : ¬ (i < 2 ^ (n - 1)) → 2 ^ (n - 1) + (i - 2 ^ (n - 1)) ≡ i
      half_plus_rest g = omega arith

      later : (j : ℕ) → j < 2 ^ (n - 1) → domain_next_answer (domain_steps (2 ^ (n - 1) + j) (domain_iterator_of (half_of n)))
          ≡ Ok (Some (of_index (domain_index n (2 ^ (n - 1) + j))), domain_steps (suc (2 ^ (n - 1) + j)) (domain_iterator_of (half_of n)))
      later j l = half_walk.second_half j l
          ∙ ap (λ (t : ℕ). Ok (Some (of_index t), domain_steps (suc (2 ^ (n - 1) + j)) (domain_iterator_of (half_of n))))
          (conjugate_index (half_of n) j half_fits ∙ second_index j l)

  all_done : (i : ℕ) → 2 ^ n ≤ i
      → domain_next_answer (domain_steps i (domain_iterator_of (half_of n)))
      ≡ Ok (None, domain_steps (suc i) (domain_iterator_of (half_of n)))
  unfolding half_of coset_of
  all_done i h = half_walk.done i (omega (arith, two_halves n lo hi))

  -- ---- the calls

  coset_made : try_new_answer n ≡ Ok (canonic_of n)
  coset_made = rw (log_size_passes n lo hi)

  domain_made : circle_domain_answer (canonic_of n) ≡ Ok (of_half (half_of n))
  unfolding canonic_of coset_of
  domain_made = hold_passes (check_canonic (canonic_of n)) (of_half (half_of n)) canonic_passes

  coset_index_lem : (k : ℕ) → C.index_at_answer (canonic_of n) k ≡ Ok (of_index (coset_index n k))
  unfolding canonic_of
  coset_index_lem k = hold_passes (check_canonic (canonic_of n)) _ canonic_passes
      ∙ ap (λ (t : ℕ). Ok (of_index t))
      (made_index (subgroup_gen (n + 1)) n k ∙ ap (λ (t : ℕ). t % 2 ^ 31) initial_plus_steps)
    where
      initial_plus_steps : subgroup_gen (n + 1) + 2 ^ (31 - n) * k ≡ unit n * (2 * k + 1)
      initial_plus_steps =
          let initial : 31 - (n + 1) ≡ 30 - n = omega arith in
          let step : 31 - n ≡ suc (30 - n) = omega arith in
          ap₂ (λ (s t : ℕ). s + 2 ^ t * k) (subgroup_gen_power (n + 1) (omega arith) ∙ ap (λ (t : ℕ). 2 ^ t) initial) step
          ∙ omega (arith, ap (λ (t : ℕ). t * k) (N.pow-succ' 2 (30 - n)))

  domain_size : size_answer (of_half (half_of n)) ≡ Ok (2 ^ n)
  unfolding half_of coset_of
  domain_size =
      let size : n - 1 + 1 ≡ n = omega arith in
      hold_passes (check (half_of n)) _ half_passes ∙ ap (λ (t : ℕ). Ok (2 ^ t)) size

  index_answer : (i : ℕ) → i < 2 ^ n → index_at_answer (of_half (half_of n)) i ≡ Ok (of_index (domain_index n i))
  index_answer i h = hold_passes (check (half_of n)) _ half_passes ∙ ap (λ (t : ℕ). Ok (of_index t)) (index_at_domain i h)

  point_answer : (i : ℕ) → i < 2 ^ n → at_answer (of_half (half_of n)) i ≡ Ok (of_point (index_point (domain_index n i)))
  point_answer i h = hold_passes (check (half_of n)) _ half_passes
      ∙ ap (λ (t : ℕ). Ok (of_point (index_point t))) (index_at_domain i h)

  canonic_answer : is_canonic_answer (of_half (half_of n)) ≡ Ok true
  unfolding half_of coset_of
  canonic_answer =
      hold_passes (check (half_of n)) _ half_passes
      ∙ ap Ok (ap (λ (t : ℕ). D.is_canonic t (subgroup_gen (n - 1))) initial_unit ∙ canonic_indices)

  iterator_answer : iter_indices_answer (of_half (half_of n)) ≡ Ok (domain_iterator_of (half_of n))
  iterator_answer = hold_passes (check (half_of n)) _ half_passes

pub canonic_domain : (n : ℕ) → 1 ≤ n → n ≤ 30 → CanonicDomain n
canonic_domain n lo hi = record {
  coset = coset_made n lo hi;
  domain = domain_made n lo hi;
  coset_indices = coset_index_lem n lo hi;
  size = domain_size n lo hi;
  indices = index_answer n lo hi;
  points = point_answer n lo hi;
  is_canonic = canonic_answer n lo hi;
  iterator = iterator_answer n lo hi;
  steps = all_steps n lo hi;
  done = all_done n lo hi;
  point_set = point_set_lem n lo hi;
}

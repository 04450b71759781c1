-- What the passes count is what the definition says, over any field, and no count overflows.
use Rattle.std.proofs.Common.{◌≡◌, ℕ, ◌+◌, ◌-◌, ◌*◌, ◌/◌, ◌%◌, ◌<◌, ◌≤◌, Bool, true, false, cond, eqb, ltb, List, sym, refl, ap, ◌∙◌, ap₂}
use Rattle.std.proofs.Common.{arith, ltb-true, eqb-true, eq-eqb, ne_eqb}
use mathlib.Core.Bool.{and-eq-true_iff}
use native.Mathlib.Nat as N
use native.Mathlib.Decide.{dec_lt}
use borrow.Author.Tests.{eqb-false}
use Rattle.batch.specs.Counts.{counted, together, plain_pass, four_lane_pass, takes_four_lanes, pass_counts, over_chunks, chunked_counts}
use Rattle.batch.specs.Passes.{Units, size, lane_units}
use Rattle.batch.specs.PassContracts.{AfterProducts, AfterInverses, LanesInverted}
use Rattle.batch.specs.declared.counts.Counts.{Counts}
use Rattle.batch.proofs.Montgomery.{one_more}

-- ---- the passes, over any field

-- none to invert
pub nothing_counted : (n : ℕ) → n ≡ 0 → {made : Counts} → (made.multiplications ≡ 0) × (made.inversions ≡ 0) → made ≡ plain_pass n
nothing_counted n e z = ap₂ counted z.0 z.1 ∙ rw (eq-eqb n 0 e)

-- elements whose product is one multiplication
module _ (U : Units) (single : U.multiplications ≡ 1) {column exit exit' : List ℕ} where
  pub plain_counted : {whole : U.layout.El} {up down : ℕ} → 0 < size U column → AfterProducts U 0 column exit whole up
      → AfterInverses U column exit' down → counted (up + down) 1 ≡ plain_pass (size U column)
  plain_counted {up = up} {down = down} some a b =
      let n = size U column in
      let upward : up ≡ 0 + (n - 1) * 1 = a.multiplications ∙ ap (λ (each : ℕ). 0 + (n - 1) * each) single in
      let downward : down ≡ (n - 1) * 2 = b.multiplications ∙ ap (λ (each : ℕ). (n - 1) * (each + each)) single in
      let sum : up + down ≡ 3 * n - 3 = omega (arith, upward, downward, some) in
      rw (ne_eqb n 0 (λ e. omega (arith, e, some)), sum)

  pub four_lanes_counted : {whole four answer : (lane_units U).layout.El} {first up down : ℕ} {inverse : Counts}
      → 0 < size (lane_units U) column → first ≡ 4 → AfterProducts (lane_units U) first column exit whole up
      → LanesInverted U four answer inverse → AfterInverses (lane_units U) column exit' down
      → counted (up + inverse.multiplications + down) inverse.inversions ≡ four_lane_pass (size (lane_units U) column * 4)
  four_lanes_counted {first = first} {up} {down} some e a b c =
      let n = size (lane_units U) column in
      let upward : up ≡ first + (n - 1) * 4
      = a.multiplications ∙ ap (λ (each : ℕ). first + (n - 1) * (each + each + (each + each))) single in
      let downward : down ≡ (n - 1) * 8
      = c.multiplications ∙ ap (λ (each : ℕ). (n - 1) * (each + each + (each + each) + (each + each + (each + each)))) single in
      let nine = ap (λ (k : Counts). k.multiplications) b.made in
      ap₂ counted (omega (arith, e, upward, downward, nine, some)) (ap (λ (k : Counts). k.inversions) b.made)

-- ---- which pass is taken

pub plain_counts : (n : ℕ) → takes_four_lanes n ≡ false → plain_pass n ≡ pass_counts n
unfolding pass_counts
plain_counts n e = rw e

four_lane_counts : (n : ℕ) → takes_four_lanes n ≡ true → four_lane_pass n ≡ pass_counts n
unfolding pass_counts
four_lane_counts n e = rw e

-- such a column is of more than 4 elements, a multiple of 4
pub record Fours (n : ℕ) : Type 0 where
  pub more : 4 < n
  pub even : n % 4 ≡ 0
  pub counts : four_lane_pass n ≡ pass_counts n

pub fours : (n : ℕ) → takes_four_lanes n ≡ true → Fours n
fours n e =
    let both = (and-eq-true_iff (ltb 4 n) (eqb (n % 4) 0)).0 e in
    record { more = ltb-true 4 n both.0; even = eqb-true (n % 4) 0 both.1; counts = four_lane_counts n e }

-- ---- how much it can be

-- At most four multiplications and one inversion an element. A slice has fewer than 2^61 words, so that both stay below 2^63.
pub record Few (counts : Counts) (n : ℕ) : Type 0 where
  pub multiplications : counts.multiplications ≤ 4 * n
  pub inversions : counts.inversions ≤ 1 * n

few_by_test : (t : Bool) (a b : Counts) (n : ℕ) → (t ≡ true → Few a n) → (t ≡ false → Few b n) → Few (cond t a b) n
few_by_test true a b n f g = f refl
few_by_test false a b n f g = g refl

pass_few : (n : ℕ) → Few (pass_counts n) n
unfolding pass_counts
pass_few n =
    few_by_test (takes_four_lanes n) (four_lane_pass n) (plain_pass n) n
    (λ e. let more = (fours n e).more in
    record { multiplications = omega arith; inversions = omega arith })
    (λ e. few_by_test (eqb n 0) (counted 0 0) (counted (3 * n - 3) 1) n
    (λ z. record { multiplications = omega arith; inversions = omega arith })
    (λ s. let some = N.pos_of_ne-zero (eqb-false n 0 s) in record { multiplications = omega arith; inversions = omega arith }))

over_chunks_most : (f : ℕ → ℕ) (most : ℕ) → ((k : ℕ) → f k ≤ most * k) → (chunk n : ℕ) → over_chunks f chunk n ≤ most * n
over_chunks_most f most h chunk n =
    omega (
      arith,
      N.mul-le-mul_left (n / chunk) (h chunk),
      h (n % chunk),
      N.mul_left_comm (n / chunk) most chunk,
      N.mul-add most (n / chunk * chunk) (n % chunk),
      ap (◌*◌ most) (N.div-add-mod' n chunk),
    )

pub chunked_few : (chunk n : ℕ) → Few (chunked_counts chunk n) n
unfolding chunked_counts
chunked_few chunk n = record {
  multiplications = over_chunks_most (λ k. (pass_counts k).multiplications) 4 (λ k. (pass_few k).multiplications) chunk n;
  inversions = over_chunks_most (λ k. (pass_counts k).inversions) 1 (λ k. (pass_few k).inversions) chunk n;
}

-- ---- chunk after chunk

module _ (f : ℕ → ℕ) (nothing : f 0 ≡ 0) where
  whole_chunk : (chunk a : ℕ) → 0 < chunk → over_chunks f chunk (a + chunk) ≡ over_chunks f chunk a + f chunk
  whole_chunk chunk a some =
      omega (arith, one_more (a / chunk) ((a + chunk) / chunk) (f chunk) (N.add-div_right a some), ap f (N.add-mod_right a chunk))

  last-chunk : (chunk a r : ℕ) → a % chunk ≡ 0 → r < chunk → over_chunks f chunk (a + r) ≡ over_chunks f chunk a + f r
  last-chunk chunk a r even less =
      let whole : a / chunk * chunk + r ≡ a + r = omega (arith, N.div-add-mod' a chunk, even) in
      let some : 0 < chunk = omega arith in
      let q : (a + r) / chunk ≡ a / chunk
      = ap (λ (k : ℕ). k / chunk) (sym whole) ∙ N.mul-add-div_right some (a / chunk) r ∙ ap (◌+◌ (a / chunk)) (N.div-eq_of_lt less)
      ∙ N.add-zero (a / chunk) in
      let m : (a + r) % chunk ≡ r
      = ap (λ (k : ℕ). k % chunk) (sym whole) ∙ N.mul-add-mod_self_right (a / chunk) chunk r ∙ N.mod-eq_of_lt less in
      omega (arith, ap (λ (k : ℕ). k * f chunk) q, ap f m, ap f even, nothing)

  next_over_chunks : (chunk a r : ℕ) → 0 < chunk → a % chunk ≡ 0 → r ≤ chunk → over_chunks f chunk a + f r ≡ over_chunks f chunk (a + r)
  next_over_chunks chunk a r some even h = elim (dec_lt r chunk) [
    | yes less ↦ sym (last-chunk chunk a r even less)
    | no more ↦ all (omega arith)
  ]
    where
      all : chunk ≡ r → over_chunks f chunk a + f r ≡ over_chunks f chunk (a + r)
      all e =
          ap (λ (k : ℕ). over_chunks f chunk a + f k) (sym e) ∙ sym (whole_chunk chunk a some)
          ∙ ap (λ (k : ℕ). over_chunks f chunk (a + k)) e

  no_chunk : (chunk : ℕ) → over_chunks f chunk 0 ≡ 0
  no_chunk chunk = omega (arith, ap (λ (k : ℕ). k * f chunk) (N.zero-div chunk), N.zero-mul (f chunk), ap f (N.zero-mod chunk), nothing)

  -- a chunk that holds all
  within_chunk : (chunk n : ℕ) → n ≤ chunk → over_chunks f chunk n ≡ f n
  within_chunk chunk n h = elim (dec_lt 0 chunk) [ yes some ↦ one some | no none ↦ empty (omega arith) ]
    where
      one : 0 < chunk → over_chunks f chunk n ≡ f n
      one some =
          ap (over_chunks f chunk) (sym (N.zero-add n)) ∙ sym (next_over_chunks chunk 0 n some (N.zero-mod chunk) h)
          ∙ ap (λ (k : ℕ). k + f n) (no_chunk chunk) ∙ N.zero-add (f n)

      empty : n ≡ 0 → over_chunks f chunk n ≡ f n
      empty e = ap (over_chunks f chunk) e ∙ no_chunk chunk ∙ sym nothing ∙ ap f (sym e)

no_pass : pass_counts 0 ≡ counted 0 0
unfolding pass_counts
no_pass = refl

no_multiplications : (pass_counts 0).multiplications ≡ 0
no_multiplications = ap (λ c. c.multiplications) no_pass

no_inversions : (pass_counts 0).inversions ≡ 0
no_inversions = ap (λ c. c.inversions) no_pass

-- before the first chunk
pub no_chunks : (chunk : ℕ) → counted 0 0 ≡ chunked_counts chunk 0
unfolding chunked_counts
no_chunks chunk = sym (ap₂ counted
    (no_chunk (λ k. (pass_counts k).multiplications) no_multiplications chunk)
    (no_chunk (λ k. (pass_counts k).inversions) no_inversions chunk))

-- a elements are whole chunks, and r more are the next
pub next_chunk : (chunk a r : ℕ) → 0 < chunk → a % chunk ≡ 0 → r ≤ chunk
    → together (chunked_counts chunk a) (pass_counts r) ≡ chunked_counts chunk (a + r)
unfolding chunked_counts
next_chunk chunk a r some even h = ap₂ counted
    (next_over_chunks (λ k. (pass_counts k).multiplications) no_multiplications chunk a r some even h)
    (next_over_chunks (λ k. (pass_counts k).inversions) no_inversions chunk a r some even h)

-- one chunk for all is one pass
pub one_chunk : (chunk n : ℕ) → n ≤ chunk → chunked_counts chunk n ≡ pass_counts n
unfolding chunked_counts
one_chunk chunk n h = ap₂ counted
    (within_chunk (λ k. (pass_counts k).multiplications) no_multiplications chunk n h)
    (within_chunk (λ k. (pass_counts k).inversions) no_inversions chunk n h)

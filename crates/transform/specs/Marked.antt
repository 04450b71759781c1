-- The cases that the scope document wants proved one by one, over the definitions that the contracts cite; two with the answers of
-- order 7, which turned them.
use Rattle.std.specs.Prelude.{ℕ, zero, suc, ◌-◌, ◌*◌, ◌^◌, ◌≤◌, ◌<◌, ◌≡◌, refl, true, Ok, negsuc}
use Rattle.std.specs.Prelude.{List, [], ◌∷◌, ◌++◌, map, leb, length, get_or}
use Rattle.std.proofs.Common.{sym, ◌∙◌, ap, arith, lit<, lit≤, lt-ltb, ne_eqb}
use Rattle.std.proofs.Math.Nat as N
use Rattle.algebra.specs.Listing.{listing, listing-at}
use Rattle.algebra.specs.M31.{P}
use Rattle.algebra.specs.Circle.{multiple}
use Rattle.algebra.specs.Doubling.{iterate}
use Rattle.fields.specs.M31.{of_word, reduce_answer, residue_of, mul_answer, inverse_answer}
use Rattle.fields.specs.CM31.{of_pair}
use Rattle.fields.specs.CM31 as C
use Rattle.fields.specs.QM31.{of_pairs}
use Rattle.fields.specs.QM31 as Q
use Rattle.fields.specs.Check.{need}
use Rattle.fields.specs.CheckLaws.{hold_both, hold_passes}
use Rattle.fields.specs.Search.{first}
use Rattle.fields.specs.Words.{mul_p, words31}
use Rattle.fields.specs.Inverse.{m31_inverse_unique}
use Rattle.fields.specs.declared.refusal.Refusal.TheVariants.{Doublings}
use Rattle.circle.specs.Point.{of_point}
use Rattle.circle.specs.Formulas.{antipode}
use Rattle.circle.specs.IndexPoints.{index_antipode}
use Rattle.circle.specs.Index.{of_index, index_point, to_point_answer}
use Rattle.orders.specs.BitReverse.{reverse_bits}
use Rattle.orders.specs.Orders.{log_size, in_place_answer, in_place_exit, words_at, coset_bit_reversed}
use Rattle.orders.specs.Orders.{to_domain, offset_element, previous_answer}
use Rattle.domains.specs.Listing.{unit, coset_index, domain_indices}
use Rattle.domains.specs.Record.{check, check_two}
use Rattle.domains.specs.Coset.{coset_of, subgroup_answer, doubled, double_answer, is_doubling_of_answer}
use Rattle.domains.specs.RecordLaws.{fits_hold, two_hold}
use Rattle.domains.specs.CosetLaws.{made_fits, made_doubled, made_doubling}
use Rattle.domains.proofs.CanonicDomain.{canonic_domain}
use Rattle.domains.specs.Domain.{of_half, index_at_answer, is_canonic_answer}
use Rattle.domains.specs.Canonic.{canonic_of, half_of, circle_domain_answer}
use Rattle.domains.specs.Canonic as Canonic
use Rattle.column.specs.Column.{product, sum, combination, value, values}
use Rattle.transform.specs.Transform.{position_point, Column, Coefficients, transform_answer, InterpolateExit}
use Rattle.transform.specs.Accepted.{is_accepted}
use Rattle.transform.specs.Theorem.{Promise, theorem}

-- ---- M31

-- `reduce` accepts P^2 - 1 and gives P - 1
pub reduce_most : reduce_answer (P * P - 1) ≡ Ok (of_word (P - 1))
reduce_most = refl

-- i32 -2^31 gives P - 1
pub least_i32 : of_word (residue_of (negsuc (2 ^ 31 - 1))) ≡ of_word (P - 1)
least_i32 = refl

-- (P - 1) times (P - 1) is 1
pub minus_one_squared : mul_answer (of_word (P - 1)) (of_word (P - 1)) ≡ Ok (of_word 1)
minus_one_squared = refl

the_inverse : (a b : ℕ) → a < P → ¬ (a ≡ 0) → b < P → mul_p a b ≡ 1 → inverse_answer (of_word a) ≡ Ok (of_word b)
the_inverse a b h n l e = rw (lt-ltb a P h, ne_eqb a 0 n) (ap (λ (t : ℕ). Ok (of_word t)) (sym (m31_inverse_unique a b l e)))

-- the inverse of 2 is 1073741824
pub inverse_of_two : inverse_answer (of_word 2) ≡ Ok (of_word 1073741824)
inverse_of_two = the_inverse 2 1073741824 (lit< tt) (λ e. omega arith) (lit< tt) refl

-- ---- indices

-- 2G = (7, 777079998)
pub twice_generator : to_point_answer (of_index 2) ≡ Ok (of_point (7, 777079998))
unfolding multiple
twice_generator = refl

zero_index : index_point 0 ≡ (1, 0)
unfolding multiple
zero_index = refl

-- 2^30 G = (P - 1, 0)
pub half_order_point : to_point_answer (of_index (2 ^ 30)) ≡ Ok (of_point (P - 1, 0))
half_order_point = ap (λ (p : ℕ × ℕ). Ok (of_point p)) (index_antipode 0 ∙ ap (antipode words31) zero_index)

-- ---- cosets and domains

-- `is_doubling_of`: `subgroup(0)` is the doubling of `subgroup(1)`
pub subgroup_zero : subgroup_answer 0 ≡ Ok (coset_of 0 0)
subgroup_zero = refl

pub subgroup_one : subgroup_answer 1 ≡ Ok (coset_of 0 1)
subgroup_one = refl

pub is_doubling : is_doubling_of_answer (coset_of 0 0) (coset_of 0 1) ≡ Ok true
is_doubling =
    hold_passes (check_two (coset_of 0 0) (coset_of 0 1)) _
    (two_hold (coset_of 0 0) (coset_of 0 1) (made_fits 0 0 (lit< tt) (lit≤ tt)) (made_fits 0 1 (lit< tt) (lit≤ tt)))
    ∙ ap Ok (made_doubling 0 0 (lit≤ tt))

-- `double` of `subgroup(1)` is `subgroup(0)`, whose step is 0
pub doubled_subgroup : double_answer (coset_of 0 1) ≡ Ok (coset_of 0 0)
unfolding iterate coset_of
doubled_subgroup =
    hold_passes (check (coset_of 0 1) ++ need (leb 1 1) Doublings) (doubled (coset_of 0 1))
    (hold_both (check (coset_of 0 1)) (need (leb 1 1) Doublings) (fits_hold (coset_of 0 1) (made_fits 0 1 (lit< tt) (lit≤ tt))) (refl, tt))
    ∙ ap Ok (made_doubled 0 0 (lit≤ tt))

pub step_of_subgroup : (coset_of 0 0).step_size ≡ of_index 0
unfolding coset_of
step_of_subgroup = refl

-- n = 3, in units of h: the coset 1 3 5 7 9 11 13 15, as `index_at` of the canonic coset gives it
abbrev coset_three : List ℕ
coset_three = map (λ k. unit 3 * k) (1 ∷ 3 ∷ 5 ∷ 7 ∷ 9 ∷ 11 ∷ 13 ∷ 15 ∷ [])

coset_list : listing (2 ^ 3) (coset_index 3) ≡ coset_three
unfolding listing
coset_list = refl

pub coset_three_lem : (k : ℕ) → k < 2 ^ 3 → Canonic.index_at_answer (canonic_of 3) k ≡ Ok (of_index (get_or coset_three k 0))
coset_three_lem k h =
    (canonic_domain 3 (lit≤ tt) (lit≤ tt)).coset_indices k
    ∙ ap (λ (t : ℕ). Ok (of_index t)) (sym (listing-at 0 (2 ^ 3) (coset_index 3) k h) ∙ ap (λ (l : List ℕ). get_or l k 0) coset_list)

-- the domain 1 5 9 13 15 11 7 3, as `index_at` of the canonic domain gives it
abbrev domain_three : List ℕ
domain_three = map (λ k. unit 3 * k) (1 ∷ 5 ∷ 9 ∷ 13 ∷ 15 ∷ 11 ∷ 7 ∷ 3 ∷ [])

domain_list : domain_indices 3 ≡ domain_three
unfolding domain_indices listing
domain_list = refl

pub domain_three_lem : (i : ℕ) → i < 2 ^ 3 → index_at_answer (of_half (half_of 3)) i ≡ Ok (of_index (get_or domain_three i 0))
domain_three_lem i h =
    (canonic_domain 3 (lit≤ tt) (lit≤ tt)).indices i h ∙ ap (λ (l : List ℕ). Ok (of_index (get_or l i 0))) domain_list

-- `is_canonic` of the canonic domain of log size 1 is true
pub domain_one : circle_domain_answer (canonic_of 1) ≡ Ok (of_half (half_of 1))
domain_one = (canonic_domain 1 (lit≤ tt) (lit≤ tt)).domain

pub is_canonic_lem : is_canonic_answer (of_half (half_of 1)) ≡ Ok true
is_canonic_lem = (canonic_domain 1 (lit≤ tt) (lit≤ tt)).is_canonic

-- the case of its definition: the step is 0 and the initial index 2^29
pub initial_of_domain_one : (half_of 1).initial_index.0 ≡ 2 ^ 29
unfolding half_of coset_of
initial_of_domain_one = refl

pub step_of_domain_one : (half_of 1).step_size.0 ≡ 0
unfolding half_of coset_of
step_of_domain_one = refl

-- ---- orders

abbrev eight : List ℕ
eight = 0 ∷ 1 ∷ 2 ∷ 3 ∷ 4 ∷ 5 ∷ 6 ∷ 7 ∷ []

-- `bit_reverse`: 0..7 becomes 0 4 2 6 1 5 3 7
pub bits_of_eight : in_place_exit (in_place_answer (length eight)) (reverse_bits (log_size (length eight))) eight
    ≡ 0 ∷ 4 ∷ 2 ∷ 6 ∷ 1 ∷ 5 ∷ 3 ∷ 7 ∷ []
unfolding in_place_answer in_place_exit first words_at reverse_bits
bits_of_eight = refl

-- `bit_reverse_coset_to_circle_domain_order`: 0..7 becomes 0 7 4 3 2 5 6 1
pub coset_bits_of_eight : in_place_exit (in_place_answer (length eight)) (coset_bit_reversed (log_size (length eight))) eight
    ≡ 0 ∷ 7 ∷ 4 ∷ 3 ∷ 2 ∷ 5 ∷ 6 ∷ 1 ∷ []
unfolding in_place_answer in_place_exit first words_at coset_bit_reversed reverse_bits to_domain
coset_bits_of_eight = refl

-- previous of 0 with domain 2, eval 3 is 6
pub previous_of_zero : previous_answer 0 2 3 ≡ Ok 6
unfolding previous_answer offset_element reverse_bits
previous_of_zero = refl

-- ---- extensions

-- (1 + 2i)(3 + 4i) = (P - 5) + 10i
pub complex-product : C.mul_answer (of_pair (1, 2)) (of_pair (3, 4)) ≡ Ok (of_pair (P - 5, 10))
complex-product = refl

-- u times u = 2 + i
pub u_squared : Q.mul_answer (of_pairs ((0, 0), (1, 0))) (of_pairs ((0, 0), (1, 0))) ≡ Ok (of_pairs ((2, 1), (0, 0)))
u_squared = refl

-- ---- transform

-- a constant has its value everywhere
constant_value : (a : ℕ) (p : ℕ × ℕ) → a < P → value words31 2 (a ∷ 0 ∷ 0 ∷ 0 ∷ []) p ≡ a
unfolding combination sum product
constant_value a p h = simp (N.zero-mul, N.mul-one) (omega arith)

sevens_coefficients : Coefficients 2 (7 ∷ 0 ∷ 0 ∷ 0 ∷ []) (7 ∷ 7 ∷ 7 ∷ 7 ∷ [])
unfolding values listing
sevens_coefficients = record {
  column = record { size = refl; below = below };
  give = λ i. seven 0 i ∷ seven 1 i ∷ seven 2 i ∷ seven 3 i ∷ [];
}
  where
    seven : (p : ℕ) → value words31 2 (7 ∷ 0 ∷ 0 ∷ 0 ∷ []) (position_point 2 p) ≡ 7
    seven p = constant_value 7 (position_point 2 p) (lit< tt)

    below : (k : ℕ) → k < 4 → get_or (7 ∷ 0 ∷ 0 ∷ 0 ∷ []) k 0 < P
    below zero h = lit< tt
    below (suc zero) h = lit< tt
    below (suc (suc zero)) h = lit< tt
    below (suc (suc (suc zero))) h = lit< tt
    below (suc (suc (suc (suc k)))) h = absurd (omega arith)

four_sevens : Column 2 (7 ∷ 7 ∷ 7 ∷ 7 ∷ [])
four_sevens = record { size = refl; below = below }
  where
    below : (k : ℕ) → k < 4 → get_or (7 ∷ 7 ∷ 7 ∷ 7 ∷ []) k 0 < P
    below zero h = lit< tt
    below (suc zero) h = lit< tt
    below (suc (suc zero)) h = lit< tt
    below (suc (suc (suc zero))) h = lit< tt
    below (suc (suc (suc (suc k)))) h = absurd (omega arith)

-- n = 2: values 7 7 7 7 give coefficients 7 0 0 0. `interpolate` accepts them with 4 words of scratch or more, and leaves
-- these coefficients
pub sevens_accepted : (scratch : ℕ) → 4 ≤ scratch → transform_answer 2 (7 ∷ 7 ∷ 7 ∷ 7 ∷ []) scratch ≡ Ok tt
sevens_accepted scratch room =
    is_accepted 2 (7 ∷ 7 ∷ 7 ∷ 7 ∷ []) scratch (record { low = lit≤ tt; high = lit≤ tt; words = four_sevens; room = room })

pub sevens_interpolated : (scratch : ℕ) (exit : List ℕ) → transform_answer 2 (7 ∷ 7 ∷ 7 ∷ 7 ∷ []) scratch ≡ Ok tt
    → InterpolateExit (transform_answer 2 (7 ∷ 7 ∷ 7 ∷ 7 ∷ []) scratch) 2 (7 ∷ 7 ∷ 7 ∷ 7 ∷ []) exit → exit ≡ 7 ∷ 0 ∷ 0 ∷ 0 ∷ []
sevens_interpolated scratch exit e left =
    promise.interpolated scratch exit e left ∙ sym (promise.only (7 ∷ 0 ∷ 0 ∷ 0 ∷ []) sevens_coefficients)
  where
    promise : Promise 2 (7 ∷ 7 ∷ 7 ∷ 7 ∷ [])
    promise = theorem 2 (lit≤ tt) (lit≤ tt) (7 ∷ 7 ∷ 7 ∷ 7 ∷ []) four_sevens

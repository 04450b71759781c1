-- The turns that the loops of the in-place permutations take, word after word and pair after pair.
use Prim.Native.Nat.{ℕ, suc, ◌+◌, ◌-◌, ◌*◌, ◌/◌, ◌^◌, ◌≤◌, ◌<◌}
use mathlib.Core.Path.{◌≡◌, refl, sym, ◌∙◌, ap, subst}
use mathlib.Core.List.{List}
use native.Mathlib.Nat as N
use native.Mathlib.Omega.{arith}
use lib.ListN.{length, get_or}
use Rattle.orders.specs.BitReverse.{reverse_bits, reversed_below, reversed_back}
use Rattle.orders.specs.Orders.{bit_reverse_index, reordered, coset_bit_reversed}
use Rattle.orders.proofs.OrderLaws.{index_reversed, is_reordered, coset_bits_even, coset_bits_odd, coset_bits_below, coset_bits_back}
use Rattle.orders.specs.Swaps.{swapped_if_before}
use Rattle.orders.proofs.Turns.{in_order, Swapped, all_swapped, swapped_next}

-- ---- bit_reverse, word by word

-- l with its first i words done
abbrev pub Words : ℕ → List ℕ → ℕ → List ℕ → Type 0
Words n l i v = Swapped (reverse_bits n) (λ k. k) l i v

module _ (n : ℕ) (l : List ℕ) (size : length l ≡ 2 ^ n) where
  pub within : (k : ℕ) → k < length l → reverse_bits n k < length l
  within k h = rw size (reversed_below n k)

  pub twice : (k : ℕ) → k < length l → reverse_bits n (reverse_bits n k) ≡ k
  twice k h = reversed_back n k (subst (λ (t : ℕ). k < t) size h)

  pub all_words : (i : ℕ) (v : List ℕ) → length l ≤ i → Words n l i v → v ≡ reordered (reverse_bits n) l
  all_words = all_swapped (reverse_bits n) (λ k. k) l within twice (in_order (length l))

  pub next_word : (i j : ℕ) (v : List ℕ) → i < length l → j ≡ bit_reverse_index i n → Words n l i v
      → Words n l (i + 1) (swapped_if_before i j i j v)
  next_word i j v h f s =
      let r : reverse_bits n i ≡ j = sym (f ∙ index_reversed i n (subst (λ (t : ℕ). i < t) size h)) in
      swapped_next (reverse_bits n) (λ k. k) l within twice (in_order (length l)) i i j refl h r v s (i + 1) j refl refl

  pub word_room : (i j : ℕ) → i < length l → j ≡ bit_reverse_index i n → j < length l
  word_room i j h f = rw (f ∙ index_reversed i n (subst (λ (t : ℕ). i < t) size h)) (within i h)

-- ---- bit_reverse_coset_to_circle_domain_order: pair after pair

-- l with the first x pairs done
abbrev pub Pairs : ℕ → List ℕ → ℕ → List ℕ → Type 0
Pairs n l x v = Swapped (coset_bit_reversed n) (λ k. k) l (2 * x) v

module _ (n : ℕ) (least : 1 ≤ n) (l : List ℕ) (size : length l ≡ 2 ^ n) where
  one_more : n ≡ suc (n - 1)
  one_more = omega arith

  double : length l ≡ 2 * 2 ^ (n - 1)
  double = size ∙ ap (λ (t : ℕ). 2 ^ t) one_more ∙ N.pow-succ' 2 (n - 1)

  within_coset : (k : ℕ) → k < length l → coset_bit_reversed n k < length l
  within_coset k h = rw size (coset_bits_below n k)

  twice_coset : (k : ℕ) → k < length l → coset_bit_reversed n (coset_bit_reversed n k) ≡ k
  twice_coset k h = coset_bits_back n k (subst (λ (t : ℕ). k < t) size h)

  pub all_pairs : (x : ℕ) (v : List ℕ) → length l / 2 ≤ x → Pairs n l x v → v ≡ reordered (coset_bit_reversed n) l
  all_pairs x v h s =
      all_swapped (coset_bit_reversed n) (λ k. k) l within_coset twice_coset (in_order (length l)) (2 * x) v
      (omega (arith, double)) s

  -- words 2x and 2x + 1, whose partners are at 2y and at 2y before the last
  module _ (x y : ℕ) (h : x < length l / 2) (f : y ≡ bit_reverse_index x (n - 1)) where
    low_pair : x < 2 ^ (n - 1)
    low_pair = omega (arith, double)

    reversed_pair : y ≡ reverse_bits (n - 1) x
    reversed_pair = f ∙ index_reversed x (n - 1) low_pair

    pub pair_below : y < length l / 2
    pair_below = omega (arith, double, reversed_pair, reversed_below (n - 1) x)

    pub next_pair : (v : List ℕ) → Pairs n l x v
        → Pairs n l (x + 1) (swapped_if_before (2 * x + 1) (length l - 1 - 2 * y) (2 * x + 1) (length l - 1 - 2 * y)
        (swapped_if_before (2 * x) (2 * y) (2 * x) (2 * y) v))
    next_pair v s =
        let turn = swapped_next (coset_bit_reversed n) (λ k. k) l within_coset twice_coset (in_order (length l)) in
        let even : coset_bit_reversed n (2 * x) ≡ 2 * y =
        ap (λ (t : ℕ). coset_bit_reversed t (2 * x)) one_more
        ∙ coset_bits_even (n - 1) x low_pair
        ∙ ap (λ (t : ℕ). 2 * t) (sym reversed_pair) in
        let odd : coset_bit_reversed n (2 * x + 1) ≡ length l - 1 - 2 * y =
        ap (λ (t : ℕ). coset_bit_reversed t (2 * x + 1)) one_more
        ∙ coset_bits_odd (n - 1) x low_pair
        ∙ omega (arith, reversed_pair, double, N.pow-succ' 2 (n - 1)) in
        let s₁ = turn (2 * x) (2 * x) (2 * y) refl (omega (arith, double)) even v s (2 * x + 1) (2 * y) refl refl in
        turn (2 * x + 1) (2 * x + 1) (length l - 1 - 2 * y) refl (omega (arith, double)) odd _ s₁ (2 * (x + 1))
        (length l - 1 - 2 * y) (omega arith) refl

-- one word stays where it is
pub one_stays : (n : ℕ) (l : List ℕ) → n < 1 → length l ≡ 2 ^ n → l ≡ reordered (coset_bit_reversed n) l
one_stays n l h size =
    is_reordered (coset_bit_reversed n) l l refl
    (λ i b.
    let none : n ≡ 0 = omega arith in
    let one : 2 ^ n ≡ 1 = ap (λ (t : ℕ). 2 ^ t) none in
    ap (λ (t : ℕ). get_or l t 0) (omega (arith, coset_bits_below n i, size)))

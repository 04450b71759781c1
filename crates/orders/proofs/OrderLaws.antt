-- The permutations undo themselves or one another, and where they send each word.
use Rattle.std.specs.Prelude.{ℕ, zero, suc, ◌+◌, ◌-◌, ◌*◌, ◌/◌, ◌%◌, ◌^◌, ◌≤◌, ◌<◌, ◌≡◌, refl, List, length, get_or}
use Rattle.std.proofs.Common.{sym, ◌∙◌, ap, subst, arith, lt-ltb, le-ltb, eq-eqb, ne_eqb, ext_get_or}
use Rattle.std.proofs.Math.Nat as N
use Rattle.std.proofs.Math.Decide.{dec_lt}
use Rattle.orders.specs.BitReverse.{reverse_bits, reversed_below, reversed_back, reversed_first_half}
use Rattle.orders.specs.BitReverse.{reversed_second_half, reversed_complement}
use Rattle.orders.specs.Orders.{bit_reverse_index, words_at, reordered, to_domain, to_coset, coset_bit_reversed}

-- ---- `bit_reverse_index` is the reverse, but for log size 0

pub index_from_one : (i n : ℕ) → 1 ≤ n → bit_reverse_index i n ≡ reverse_bits n i
unfolding bit_reverse_index
index_from_one i zero h = absurd (N.not-suc-le-zero h)
index_from_one i (suc n) h = refl

pub index_reversed : (i n : ℕ) → i < 2 ^ n → bit_reverse_index i n ≡ reverse_bits n i
unfolding bit_reverse_index reverse_bits
index_reversed i zero h = omega (arith, N.pow-zero 2)
index_reversed i (suc n) h = refl

-- ---- reordered columns

words-length : (f : ℕ → ℕ) (k n : ℕ) (l : List ℕ) → length (words_at f k n l) ≡ n
unfolding words_at
words-length f k zero l = refl
words-length f k (suc n) l = ap suc (words-length f (suc k) n l)

words-at : (f : ℕ → ℕ) (k n : ℕ) (l : List ℕ) (i : ℕ) → i < n → get_or (words_at f k n l) i 0 ≡ get_or l (f (k + i)) 0
unfolding words_at
words-at f k zero l i h = absurd (N.not-suc-le-zero h)
words-at f k (suc n) l zero h = rw (N.add-zero k)
words-at f k (suc n) l (suc i) h = words-at f (suc k) n l i (N.le_of_suc-le-suc h) ∙ ap (λ (m : ℕ). get_or l (f m) 0) (omega arith)

pub reordered-length : (f : ℕ → ℕ) (l : List ℕ) → length (reordered f l) ≡ length l
reordered-length f l = words-length f 0 (length l) l

-- word i comes from place f i
pub reordered-at : (f : ℕ → ℕ) (l : List ℕ) (i : ℕ) → i < length l → get_or (reordered f l) i 0 ≡ get_or l (f i) 0
reordered-at f l i h = words-at f 0 (length l) l i h ∙ ap (λ (m : ℕ). get_or l (f m) 0) (N.zero-add i)

-- a list that has word f i of l as its word i is l reordered
pub is_reordered : (f : ℕ → ℕ) (l v : List ℕ) → length v ≡ length l → ((i : ℕ) → i < length l → get_or v i 0 ≡ get_or l (f i) 0)
    → v ≡ reordered f l
is_reordered f l v e h =
    ext_get_or 0 v (reordered f l) (e ∙ sym (reordered-length f l))
    (λ i b. let c : i < length l = subst (λ (m : ℕ). i < m) e b in h i c ∙ sym (reordered-at f l i c))

-- one order after another
pub reordered_twice : (f g h : ℕ → ℕ) (l : List ℕ) → ((i : ℕ) → i < length l → f i < length l) → ((i : ℕ) → i < length l → g (f i) ≡ h i)
    → reordered f (reordered g l) ≡ reordered h l
reordered_twice f g h l within e =
    is_reordered h l (reordered f (reordered g l)) (reordered-length f (reordered g l) ∙ reordered-length g l)
    (λ i b.
    reordered-at f (reordered g l) i (rw (reordered-length g l) b)
    ∙ reordered-at g l (f i) (within i b)
    ∙ ap (λ (m : ℕ). get_or l m 0) (e i b))

-- orders that undo one another
pub reordered_undone : (f g : ℕ → ℕ) (l : List ℕ) → ((i : ℕ) → i < length l → f i < length l) → ((i : ℕ) → i < length l → g (f i) ≡ i)
    → reordered f (reordered g l) ≡ l
reordered_undone f g l within e = reordered_twice f g (λ i. i) l within e ∙ sym (is_reordered (λ i. i) l l refl (λ i h. refl))

-- ---- the order map, for any even size

pub even_to_domain : (size x : ℕ) → to_domain size (2 * x) ≡ x
unfolding to_domain
even_to_domain size x =
    let even : 2 * x % 2 ≡ 0 = omega arith in
    rw (eq-eqb (2 * x % 2) 0 even) (omega arith)

pub odd_to_domain : (size x : ℕ) → 2 * x + 1 < 2 * size → to_domain size (2 * x + 1) ≡ size - 1 - x
unfolding to_domain
odd_to_domain size x h = rw (ne_eqb ((2 * x + 1) % 2) 0 (λ e. omega arith)) (omega arith)

pub first_to_coset : (size i : ℕ) → i < size / 2 → to_coset size i ≡ 2 * i
unfolding to_coset
first_to_coset size i h = rw (lt-ltb i (size / 2) h)

pub second_to_coset : (size i : ℕ) → size / 2 ≤ i → to_coset size i ≡ 2 * (size - 1 - i) + 1
unfolding to_coset
second_to_coset size i h = rw (le-ltb i (size / 2) h)

-- a number is 2x or 2x + 1
pub by_parity : (C : ℕ → Type 0) → ((x : ℕ) → C (2 * x)) → ((x : ℕ) → C (2 * x + 1)) → (k : ℕ) → C k
by_parity C even odd k = elim (dec_lt (k % 2) 1) [
  | yes l ↦ subst C (even_half l) (even (k / 2))
  | no g ↦ subst C (odd_half g)
      (odd (k / 2))
]
  where
    even_half : k % 2 < 1 → 2 * (k / 2) ≡ k
    even_half l = omega arith

    odd_half : (k % 2 < 1 → ⊥) → 2 * (k / 2) + 1 ≡ k
    odd_half g = omega arith

module _ (size : ℕ) (even : size % 2 ≡ 0) where
  pub to_domain_below : (k : ℕ) → k < size → to_domain size k < size
  to_domain_below =
      by_parity (λ k. k < size → to_domain size k < size)
      (λ x h. rw (even_to_domain size x) (omega arith))
      (λ x h. rw (odd_to_domain size x (omega arith)) (omega arith))

  pub to_coset-to_domain : (k : ℕ) → k < size → to_coset size (to_domain size k) ≡ k
  to_coset-to_domain =
      by_parity (λ k. k < size → to_coset size (to_domain size k) ≡ k)
      (λ x h. ap (to_coset size) (even_to_domain size x) ∙ first_to_coset size x (omega arith))
      (λ x h. ap (to_coset size) (odd_to_domain size x (omega arith)) ∙ second_to_coset size (size - 1 - x) (omega arith) ∙ omega arith)

  pub to_coset_below : (i : ℕ) → i < size → to_coset size i < size
  to_coset_below i h = elim (dec_lt i (size / 2)) [
    | yes l ↦ rw (first_to_coset size i l) (omega arith)
    | no g ↦ rw (second_to_coset size i (omega arith)) (omega arith)
  ]

  pub to_domain-to_coset : (i : ℕ) → i < size → to_domain size (to_coset size i) ≡ i
  to_domain-to_coset i h = elim (dec_lt i (size / 2)) [
    | yes l ↦ ap (to_domain size) (first_to_coset size i l) ∙ even_to_domain size i
    | no g ↦ ap (to_domain size) (second_to_coset size i (omega arith)) ∙ odd_to_domain size (size - 1 - i) (omega arith) ∙ omega arith
  ]

-- ---- the copying pair: word k of the coset's order goes to the place that the order map names, and back

pub coset_word_goes : (l : List ℕ) (k : ℕ) → length l % 2 ≡ 0 → k < length l
    → get_or (reordered (to_coset (length l)) l) (to_domain (length l) k) 0 ≡ get_or l k 0
coset_word_goes l k e h =
    reordered-at (to_coset (length l)) l (to_domain (length l) k) (to_domain_below (length l) e k h)
    ∙ ap (λ (m : ℕ). get_or l m 0) (to_coset-to_domain (length l) e k h)

pub coset_domain_coset : (l : List ℕ) → length l % 2 ≡ 0 → reordered (to_domain (length l)) (reordered (to_coset (length l)) l) ≡ l
coset_domain_coset l e =
    reordered_undone (to_domain (length l)) (to_coset (length l)) l (to_domain_below (length l) e) (to_coset-to_domain (length l) e)

pub domain_coset_domain : (l : List ℕ) → length l % 2 ≡ 0 → reordered (to_coset (length l)) (reordered (to_domain (length l)) l) ≡ l
domain_coset_domain l e =
    reordered_undone (to_coset (length l)) (to_domain (length l)) l (to_coset_below (length l) e) (to_domain-to_coset (length l) e)

-- ---- the in-place pair: each undoes itself, so word k goes to the place that it comes from

pub bit_reversed_twice : (n : ℕ) (l : List ℕ) → length l ≡ 2 ^ n → reordered (reverse_bits n) (reordered (reverse_bits n) l) ≡ l
bit_reversed_twice n l e =
    reordered_undone (reverse_bits n) (reverse_bits n) l (λ i h. rw e (reversed_below n i))
    (λ i h. reversed_back n i (subst (λ (m : ℕ). i < m) e h))

-- bit 0 stays; the bits above are reversed, and complemented where it is 1
pub coset_bits_even : (n x : ℕ) → x < 2 ^ n → coset_bit_reversed (suc n) (2 * x) ≡ 2 * reverse_bits n x
unfolding coset_bit_reversed
coset_bits_even n x h = ap (reverse_bits (suc n)) (even_to_domain (2 ^ suc n) x) ∙ reversed_first_half n x h

pub coset_bits_odd : (n x : ℕ) → x < 2 ^ n → coset_bit_reversed (suc n) (2 * x + 1) ≡ 2 ^ suc n - 1 - 2 * reverse_bits n x
unfolding coset_bit_reversed
coset_bits_odd n x h =
    let pow-doubled : 2 ^ suc n ≡ 2 * 2 ^ n = N.pow-succ' 2 n in
    let top : 2 ^ suc n - 1 - x ≡ 2 ^ n + (2 ^ n - 1 - x) = omega arith in
    ap (reverse_bits (suc n)) (odd_to_domain (2 ^ suc n) x (omega arith) ∙ top)
    ∙ reversed_second_half n (2 ^ n - 1 - x) (omega arith)
    ∙ ap (λ (t : ℕ). 2 * t + 1) (reversed_complement n x h)
    ∙ omega (arith, reversed_below n x)

pub coset_bits_below : (n k : ℕ) → coset_bit_reversed n k < 2 ^ n
unfolding coset_bit_reversed
coset_bits_below n k = reversed_below n (to_domain (2 ^ n) k)

pub coset_bits_back : (n k : ℕ) → k < 2 ^ n → coset_bit_reversed n (coset_bit_reversed n k) ≡ k
coset_bits_back zero k h = omega (arith, coset_bits_below 0 (coset_bit_reversed 0 k), N.pow-zero 2)
coset_bits_back (suc n) k h =
    by_parity (λ k. k < 2 ^ suc n → coset_bit_reversed (suc n) (coset_bit_reversed (suc n) k) ≡ k) even odd k h
  where
    pow-doubled : 2 ^ suc n ≡ 2 * 2 ^ n
    pow-doubled = N.pow-succ' 2 n

    even : (x : ℕ) → 2 * x < 2 ^ suc n → coset_bit_reversed (suc n) (coset_bit_reversed (suc n) (2 * x)) ≡ 2 * x
    even x h =
        let b : x < 2 ^ n = omega (arith, pow-doubled) in
        ap (coset_bit_reversed (suc n)) (coset_bits_even n x b)
        ∙ coset_bits_even n (reverse_bits n x) (reversed_below n x)
        ∙ ap (λ (t : ℕ). 2 * t) (reversed_back n x b)

    odd : (x : ℕ) → 2 * x + 1 < 2 ^ suc n → coset_bit_reversed (suc n) (coset_bit_reversed (suc n) (2 * x + 1)) ≡ 2 * x + 1
    odd x h =
        let b : x < 2 ^ n = omega (arith, pow-doubled) in
        let r : reverse_bits n x < 2 ^ n = reversed_below n x in
        let shape : 2 ^ suc n - 1 - 2 * reverse_bits n x ≡ 2 * (2 ^ n - 1 - reverse_bits n x) + 1 = omega (arith, pow-doubled) in
        ap (coset_bit_reversed (suc n)) (coset_bits_odd n x b ∙ shape)
        ∙ coset_bits_odd n (2 ^ n - 1 - reverse_bits n x) (omega arith)
        ∙ ap (λ (t : ℕ). 2 ^ suc n - 1 - 2 * t)
        (reversed_complement n (reverse_bits n x) r ∙ ap (λ (t : ℕ). 2 ^ n - 1 - t) (reversed_back n x b))
        ∙ omega (arith, pow-doubled)

pub coset_bits_twice : (n : ℕ) (l : List ℕ) → length l ≡ 2 ^ n → reordered (coset_bit_reversed n) (reordered (coset_bit_reversed n) l) ≡ l
coset_bits_twice n l e =
    reordered_undone (coset_bit_reversed n) (coset_bit_reversed n) l (λ i h. rw e (coset_bits_below n i))
    (λ i h. coset_bits_back n i (subst (λ (m : ℕ). i < m) e h))

-- the in-place call is the copying call to domain order and then bit reversal
pub coset_bits_composed : (n : ℕ) (l : List ℕ) → length l ≡ 2 ^ suc n
    → reordered (coset_bit_reversed (suc n)) l ≡ reordered (reverse_bits (suc n)) (reordered (to_coset (length l)) l)
unfolding coset_bit_reversed
coset_bits_composed n l e =
    sym (reordered_twice (reverse_bits (suc n)) (to_coset (length l)) (coset_bit_reversed (suc n)) l
    (λ i h. rw e (reversed_below (suc n) i)) to_coset_reversed)
  where
    reversed_is_to_domain : (i : ℕ) → i < 2 ^ suc n → reverse_bits (suc n) i ≡ to_domain (length l) (coset_bit_reversed (suc n) i)
    reversed_is_to_domain i h =
        let c = coset_bit_reversed (suc n) i in
        let d : to_domain (2 ^ suc n) c < 2 ^ suc n =
        to_domain_below (2 ^ suc n) (omega (arith, N.pow-succ' 2 n)) c (coset_bits_below (suc n) i) in
        ap (reverse_bits (suc n)) (sym (coset_bits_back (suc n) i h))
        ∙ reversed_back (suc n) (to_domain (2 ^ suc n) c) d
        ∙ ap (λ (t : ℕ). to_domain t c) (sym e)

    to_coset_reversed : (i : ℕ) → i < length l → to_coset (length l) (reverse_bits (suc n) i) ≡ coset_bit_reversed (suc n) i
    to_coset_reversed i h =
        let even : length l % 2 ≡ 0 = omega (arith, e, N.pow-succ' 2 n) in
        let c = coset_bit_reversed (suc n) i in
        let b : c < 2 ^ suc n = coset_bits_below (suc n) i in
        let back : reverse_bits (suc n) i ≡ to_domain (length l) c = reversed_is_to_domain i (subst (λ (m : ℕ). i < m) e h) in
        ap (to_coset (length l)) back ∙ to_coset-to_domain (length l) even c (rw e b)

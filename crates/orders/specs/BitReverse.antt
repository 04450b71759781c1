-- The n low bits of a number, in reverse.
use Rattle.std.specs.Prelude.{ℕ, zero, suc, ◌+◌, ◌-◌, ◌*◌, ◌/◌, ◌%◌, ◌^◌, ◌≤◌, ◌<◌, ◌≡◌, refl}
use Rattle.std.proofs.Common.{sym, ◌∙◌, ap, ap₂, arith}
use Rattle.std.proofs.Math.Nat as N
use Rattle.std.specs.Int.Bits.{block_half, block_odd}
use Rattle.std.proofs.Math.Pow as W

-- bit 0 becomes bit n - 1; bits from n on are dropped
unfoldable pub reverse_bits : ℕ → ℕ → ℕ
reverse_bits zero i = 0
reverse_bits (suc n) i = i % 2 * 2 ^ n + reverse_bits n (i / 2)

-- ---- laws
pub reversed_below : (n i : ℕ) → reverse_bits n i < 2 ^ n
unfolding reverse_bits
reversed_below zero i = omega arith
reversed_below (suc n) i =
    let bit : i % 2 ≤ 1 = omega arith in
    omega (arith, reversed_below n (i / 2), N.mul-le-mul_right (2 ^ n) bit, N.pow-succ' 2 n)

-- pairs of positions become halves: a lowest bit goes to the top
pub reversed_even : (n p : ℕ) → reverse_bits (suc n) (2 * p) ≡ reverse_bits n p
unfolding reverse_bits
reversed_even n p =
    let bit : 2 * p % 2 ≡ 0 = omega arith in
    let rest : 2 * p / 2 ≡ p = omega arith in
    rw (bit, rest) (omega arith)

pub reversed_odd : (n p : ℕ) → reverse_bits (suc n) (2 * p + 1) ≡ 2 ^ n + reverse_bits n p
unfolding reverse_bits
reversed_odd n p =
    let bit : (2 * p + 1) % 2 ≡ 1 = omega arith in
    let rest : (2 * p + 1) / 2 ≡ p = omega arith in
    rw (bit, rest) (omega arith)

-- the reverse from the low end: bit n comes first
pub reversed_last : (n i : ℕ) → reverse_bits (suc n) i ≡ 2 * reverse_bits n i + i / 2 ^ n % 2
unfolding reverse_bits
reversed_last zero i =
    omega (arith, ap (λ (t : ℕ). i / t) (N.pow-zero 2) ∙ N.div-one i, N.pow-zero 2, ap (λ (t : ℕ). i % 2 * t) (N.pow-zero 2))
reversed_last (suc n) i =
    ap (λ (t : ℕ). i % 2 * 2 ^ suc n + t) (reversed_last n (i / 2))
    ∙ shape (i % 2) (2 ^ suc n) (2 ^ n) (reverse_bits n (i / 2)) (i / 2 / 2 ^ n % 2) (N.pow-succ' 2 n)
    ∙ ap (λ (t : ℕ). 2 * (i % 2 * 2 ^ n + reverse_bits n (i / 2)) + t % 2) down
  where
    shape : (b c d r t : ℕ) → c ≡ 2 * d → b * c + (2 * r + t) ≡ 2 * (b * d + r) + t
    shape b c d r t e = omega (arith, ap (λ (s : ℕ). b * s) e)

    down : i / 2 / 2 ^ n ≡ i / 2 ^ suc n
    down = W.shr-shr i 1 n ∙ ap (λ (t : ℕ). i / 2 ^ t) (omega arith)

-- bits from n on are dropped
pub reversed_dropped : (n a p : ℕ) → reverse_bits n (a * 2 ^ n + p) ≡ reverse_bits n p
unfolding reverse_bits
reversed_dropped zero a p = refl
reversed_dropped (suc n) a p =
    ap₂ (λ (s t : ℕ). s * 2 ^ n + reverse_bits n t) (block_odd a n p) (block_half a n p)
    ∙ ap (λ (t : ℕ). p % 2 * 2 ^ n + t) (reversed_dropped n a (p / 2))

-- halves of positions become pairs: a top bit goes to the bottom
pub reversed_first_half : (n p : ℕ) → p < 2 ^ n → reverse_bits (suc n) p ≡ 2 * reverse_bits n p
reversed_first_half n p h =
    let none : p / 2 ^ n ≡ 0 = N.div-eq_of_lt h in
    reversed_last n p ∙ omega (arith, none)

pub reversed_second_half : (n p : ℕ) → p < 2 ^ n → reverse_bits (suc n) (2 ^ n + p) ≡ 2 * reverse_bits n p + 1
reversed_second_half n p h =
    let one : 1 * 2 ^ n + p ≡ 2 ^ n + p = omega arith in
    let top : (2 ^ n + p) / 2 ^ n ≡ 1 = ap (λ (t : ℕ). t / 2 ^ n) (sym one) ∙ W.high 1 n h in
    let rest : reverse_bits n (2 ^ n + p) ≡ reverse_bits n p = ap (reverse_bits n) (sym one) ∙ reversed_dropped n 1 p in
    reversed_last n (2 ^ n + p) ∙ omega (arith, top, rest)

-- bit n of i is bit 0 of its reverse, and bit 0 of i is bit n of its reverse
pub reversed_low_bit : (n i : ℕ) → reverse_bits (suc n) i % 2 ≡ i / 2 ^ n % 2
reversed_low_bit n i = omega (arith, reversed_last n i)

pub reversed_top_bit : (n i : ℕ) → reverse_bits (suc n) i / 2 ^ n ≡ i % 2
unfolding reverse_bits
reversed_top_bit n i = W.high (i % 2) n (reversed_below n (i / 2))

-- twice gives the n low bits again, so below 2^n it undoes itself
pub reversed_twice : (n i : ℕ) → reverse_bits n (reverse_bits n i) ≡ i % 2 ^ n
unfolding reverse_bits
reversed_twice zero i = omega (arith, N.pow-zero 2)
reversed_twice (suc n) i = outer ∙ ap (λ (t : ℕ). i / 2 ^ n % 2 * 2 ^ n + t) (reversed_twice n i) ∙ sym (W.mod-pow-add i 1 n)
    ∙ ap (λ (t : ℕ). i % 2 ^ t) (omega arith)
  where
    reversed_half : reverse_bits (suc n) i / 2 ≡ reverse_bits n i
    reversed_half = omega (arith, reversed_last n i)

    outer : reverse_bits (suc n) (reverse_bits (suc n) i) ≡ i / 2 ^ n % 2 * 2 ^ n + reverse_bits n (reverse_bits n i)
    outer = ap₂ (λ (s t : ℕ). s * 2 ^ n + reverse_bits n t) (reversed_low_bit n i) reversed_half

pub reversed_back : (n i : ℕ) → i < 2 ^ n → reverse_bits n (reverse_bits n i) ≡ i
reversed_back n i h = reversed_twice n i ∙ N.mod-eq_of_lt h

-- the m low bits go above the reverse of the others
pub reversed_parts : (m n i : ℕ) → reverse_bits (m + n) i ≡ reverse_bits m i * 2 ^ n + reverse_bits n (i / 2 ^ m)
unfolding reverse_bits
reversed_parts zero n i =
    ap (λ (t : ℕ). reverse_bits t i) (N.zero-add n)
    ∙ ap (reverse_bits n) (sym (ap (λ (t : ℕ). i / t) (N.pow-zero 2) ∙ N.div-one i))
    ∙ omega arith
reversed_parts (suc m) n i =
    ap (λ (t : ℕ). reverse_bits t i) (N.suc-add m n)
    ∙ ap (λ (t : ℕ). i % 2 * 2 ^ (m + n) + t) (reversed_parts m n (i / 2))
    ∙ ap₂ (λ (s t : ℕ). i % 2 * s + (reverse_bits m (i / 2) * 2 ^ n + reverse_bits n t)) (W.pow-add 2 m n) down
    ∙ shape (i % 2) (2 ^ m) (2 ^ n) (reverse_bits m (i / 2)) (reverse_bits n (i / 2 ^ suc m))
  where
    down : i / 2 / 2 ^ m ≡ i / 2 ^ suc m
    down = W.shr-shr i 1 m ∙ ap (λ (t : ℕ). i / 2 ^ t) (omega arith)

    shape : (b p q r t : ℕ) → b * (p * q) + (r * q + t) ≡ (b * p + r) * q + t
    shape b p q r t = omega (arith, N.mul_assoc b p q, N.add-mul (b * p) r q)

-- the complement of n bits, before or after
pub reversed_complement : (n i : ℕ) → i < 2 ^ n → reverse_bits n (2 ^ n - 1 - i) ≡ 2 ^ n - 1 - reverse_bits n i
unfolding reverse_bits
reversed_complement zero i h = omega (arith, N.pow-zero 2)
reversed_complement (suc n) i h =
    let two : 2 ^ suc n ≡ 2 * 2 ^ n = N.pow-succ' 2 n in
    let bit : (2 ^ suc n - 1 - i) % 2 ≡ 1 - i % 2 = omega arith in
    let rest : (2 ^ suc n - 1 - i) / 2 ≡ 2 ^ n - 1 - i / 2 = omega arith in
    let low : i / 2 < 2 ^ n = omega arith in
    rw (bit, rest)
    (ap (λ (t : ℕ). (1 - i % 2) * 2 ^ n + t) (reversed_complement n (i / 2) low)
    ∙ shape (i % 2) (2 ^ n) (2 ^ suc n) (reverse_bits n (i / 2)) two (omega arith) (reversed_below n (i / 2)))
  where
    shape : (b p q r : ℕ) → q ≡ 2 * p → b < 2 → r < p → (1 - b) * p + (p - 1 - r) ≡ q - 1 - (b * p + r)
    shape zero p q r e h g = omega arith
    shape (suc zero) p q r e h g = omega arith
    shape (suc (suc b)) p q r e h g = absurd (N.not-suc-le-zero (N.le_of_suc-le-suc (N.le_of_suc-le-suc h)))

-- All 64 bits in reverse, by masks: in each field of k + k bits the two halves change places.
use Prim.Native.Nat.{ℕ, zero, suc, ◌+◌, ◌-◌, ◌*◌, ◌/◌, ◌%◌, ◌^◌, ◌<◌}
use mathlib.Core.Path.{◌≡◌, refl, sym, ◌∙◌, ap, ap₂}
use native.Mathlib.Nat as N
use native.Mathlib.Omega.{arith}
use lib.Bits.{bit_and, and_block, and_mask, and_zero_r}
use lib.Pow as W
use Rattle.orders.specs.BitReverse.{reverse_bits, reversed_below, reversed_parts}
use Rattle.orders.specs.Swaps.{halves_exchanged}

-- the k low bits of each of m fields of k + k bits
unfoldable pub low_halves : ℕ → ℕ → ℕ
low_halves k zero = zero
low_halves k (suc m) = low_halves k m * 2 ^ (k + k) + (2 ^ k - 1)

-- what that is: in each of m fields the halves changed over
exchanged : ℕ → ℕ → ℕ → ℕ
exchanged k zero y = zero
exchanged k (suc m) y = exchanged k m (y / 2 ^ (k + k)) * 2 ^ (k + k) + (y % 2 ^ k * 2 ^ k + y / 2 ^ k % 2 ^ k)

-- each of m fields of k bits in reverse
unfoldable pub reversed_fields : ℕ → ℕ → ℕ → ℕ
reversed_fields k zero x = zero
reversed_fields k (suc m) x = reversed_fields k m (x / 2 ^ k) * 2 ^ k + reverse_bits k x

-- the mask's lowest field keeps the k low bits of y
low_field : (k y e : ℕ) → bit_and y (e * 2 ^ (k + k) + (2 ^ k - 1)) ≡ bit_and (y / 2 ^ (k + k)) e * 2 ^ (k + k) + y % 2 ^ k
low_field k y e =
    ap (λ (n : ℕ). bit_and n (e * 2 ^ (k + k) + (2 ^ k - 1))) (sym (W.split y (k + k)))
    ∙ and_block (k + k) (y / 2 ^ (k + k)) e (y % 2 ^ (k + k)) (2 ^ k - 1) (N.mod-lt y (W.pow_pos (k + k))) (N.lt_of_lt_of_le
    (W.ones_lt k) (W.pow_mono (N.le-add_right k k)))
    ∙ ap (λ (n : ℕ). bit_and (y / 2 ^ (k + k)) e * 2 ^ (k + k) + n) (and_mask (y % 2 ^ (k + k)) k ∙ W.mod-mod-pow y k k)

shift_swap : (k y : ℕ) → y / 2 ^ k / 2 ^ (k + k) ≡ y / 2 ^ (k + k) / 2 ^ k
shift_swap k y = W.shr-shr y k (k + k) ∙ ap (λ (e : ℕ). y / 2 ^ e) (sym (N.add_assoc k k k)) ∙ sym (W.shr-shr y (k + k) k)

step_is : (k m y : ℕ) → halves_exchanged (low_halves k m) k y ≡ exchanged k m y
unfolding low_halves exchanged
step_is k zero y = ap₂ (λ (p q : ℕ). p * 2 ^ k + q) (and_zero_r y) (and_zero_r (y / 2 ^ k)) ∙ omega arith
step_is k (suc m) y =
    ap₂ (λ (p q : ℕ). p * 2 ^ k + q) (low_field k y e) (low_field k (y / 2 ^ k) e ∙ ap (λ (n : ℕ). bit_and n e * 2 ^ (k + k) + y / 2
    ^ k % 2 ^ k) (shift_swap k y))
    ∙ shape (bit_and (y / 2 ^ (k + k)) e) (bit_and (y / 2 ^ (k + k) / 2 ^ k) e) (2 ^ (k + k)) (2 ^ k) (y % 2 ^ k) (y / 2 ^ k % 2 ^ k)
    ∙ ap (λ (n : ℕ). n * 2 ^ (k + k) + (y % 2 ^ k * 2 ^ k + y / 2 ^ k % 2 ^ k)) (step_is k m (y / 2 ^ (k + k)))
  where
    e : ℕ
    e = low_halves k m

    shape : (a b p q u v : ℕ) → (a * p + u) * q + (b * p + v) ≡ (a * q + b) * p + (u * q + v)
    shape a b p q u v = omega (
      arith,
      N.add-mul (a * p) u q,
      N.add-mul (a * q) b p,
      N.mul_assoc a p q,
      N.mul_assoc a q p,
      ap (λ (t : ℕ). a * t) (N.mul_comm p q),
    )

-- fields of k bits in reverse, halves changed over, are fields of k + k bits in reverse
exchanged_fields : (k m x : ℕ) → exchanged k m (reversed_fields k (m + m) x) ≡ reversed_fields (k + k) m x
unfolding exchanged reversed_fields
exchanged_fields k zero x = refl
exchanged_fields k (suc m) x =
    ap (λ (n : ℕ). exchanged k (suc m) (reversed_fields k n x)) (N.suc-add m (suc m) ∙ ap suc (N.add-suc m m))
    ∙ ap₂ (λ (p q : ℕ). p * 2 ^ (k + k) + q) (ap (exchanged k m) upper ∙ exchanged_fields k m (x / 2 ^ (k + k)))
    (ap₂ (λ (p q : ℕ). p * 2 ^ k + q) lowest second ∙ sym (reversed_parts k k x))
  where
    low : ℕ
    low = reverse_bits k x

    next : ℕ
    next = reverse_bits k (x / 2 ^ k)

    high : ℕ
    high = reversed_fields k (m + m) (x / 2 ^ k / 2 ^ k)

    y : ℕ
    y = (high * 2 ^ k + next) * 2 ^ k + low

    lowest : y % 2 ^ k ≡ low
    lowest = W.low (high * 2 ^ k + next) k (reversed_below k x)

    shifted : y / 2 ^ k ≡ high * 2 ^ k + next
    shifted = W.high (high * 2 ^ k + next) k (reversed_below k x)

    second : y / 2 ^ k % 2 ^ k ≡ next
    second = ap (λ (n : ℕ). n % 2 ^ k) shifted ∙ W.low high k (reversed_below k (x / 2 ^ k))

    upper : y / 2 ^ (k + k) ≡ reversed_fields k (m + m) (x / 2 ^ (k + k))
    upper =
        sym (W.shr-shr y k k)
        ∙ ap (λ (n : ℕ). n / 2 ^ k) shifted
        ∙ W.high high k (reversed_below k (x / 2 ^ k))
        ∙ ap (reversed_fields k (m + m)) (W.shr-shr x k k)

-- one line of the code
pub fields_step : (mask k m y x r : ℕ) → mask ≡ low_halves k m → y ≡ reversed_fields k (m + m) x → r ≡ halves_exchanged mask k y
    → r ≡ reversed_fields (k + k) m x
fields_step mask k m y x r e f g =
    g
    ∙ ap₂ (λ (p q : ℕ). halves_exchanged p k q) e f
    ∙ step_is k m (reversed_fields k (m + m) x)
    ∙ exchanged_fields k m x

single_bits : (m x : ℕ) → reversed_fields 1 m x ≡ x % 2 ^ m
unfolding reversed_fields reverse_bits
single_bits zero x = omega (arith, N.pow-zero 2)
single_bits (suc m) x =
    let one : m + 1 ≡ suc m = omega arith in
    ap (λ (n : ℕ). n * 2 + (x % 2 * 2 ^ 0 + 0)) (single_bits m (x / 2))
    ∙ omega (arith, W.mod-pow-add x m 1, ap (λ (n : ℕ). x % 2 ^ n) one)

pub bits_of : (x : ℕ) → x < 2 ^ 64 → x ≡ reversed_fields 1 64 x
bits_of x h = sym (single_bits 64 x ∙ N.mod-eq_of_lt h)

pub one_field : (x : ℕ) → reversed_fields 64 1 x ≡ reverse_bits 64 x
unfolding reversed_fields
one_field x = omega arith

-- Shifts of 64-bit words.
use Prim.Native.Nat.{ℕ, ◌+◌, ◌-◌, ◌/◌, ◌^◌, ◌≤◌}
use mathlib.Core.Path.{◌≡◌, ◌∙◌, ap}
use native.Mathlib.Omega.{arith}
use lib.Pow as W
use Rattle.orders.specs.BitReverse.{reverse_bits, reversed_below, reversed_parts}

-- the reverse of a whole word, shifted down to its n highest bits
pub reverse-shifted : (i n : ℕ) → n ≤ 64 → reverse_bits 64 i / 2 ^ (64 - n) ≡ reverse_bits n i
reverse-shifted i n h =
    let all : 64 ≡ n + (64 - n) = omega arith in
    ap (λ (t : ℕ). reverse_bits t i / 2 ^ (64 - n)) all
    ∙ ap (λ (t : ℕ). t / 2 ^ (64 - n)) (reversed_parts n (64 - n) i)
    ∙ W.high (reverse_bits n i) (64 - n) (reversed_below (64 - n) (i / 2 ^ n))

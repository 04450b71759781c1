-- The log size of a power of two is found where one bit is set.
use Rattle.std.specs.Prelude.{◌≡◌, ◌≢◌, ℕ, ◌+◌, ◌-◌, ◌*◌, ◌^◌, ◌<◌, ◌≤◌, Some, None, true, false, eqb, count_ones}
use lib.Count.{ones}
use Rattle.std.proofs.Common.{sym, ◌∙◌, ap, arith, refl, lt-ltb, eq-eqb, ne_eqb}
use Rattle.std.proofs.Math.Pow as W
use Rattle.std.proofs.lemmas.Nat.{ones_cat, zero_from_ones, pow_below}
use Rattle.fields.specs.SearchLaws as S
use Rattle.orders.specs.Orders.{exact_log_size}

-- no smaller power is this one
none_before : (n size : ℕ) → 2 ^ n ≡ size → S.None (λ k. eqb (2 ^ k) size) n
none_before n size e = record { none = λ j h. ne_eqb (2 ^ j) size (λ q. omega (arith, pow_below j n h)) }

pub size_found : (n size : ℕ) → n < 64 → 2 ^ n ≡ size → Some n ≡ exact_log_size size
size_found n size h e = rw (← S.first_at _ 64 n h (none_before n size e) (eq-eqb (2 ^ n) size e), lt-ltb n 64 h)

pub no_size : (size : ℕ) → ((n : ℕ) → 2 ^ n ≢ size) → None ≡ exact_log_size size
no_size size h =
    rw (← S.first_none _ 64 64 refl (record { none = λ j b. ne_eqb (2 ^ j) size (h j) }))

-- one bit is set in powers of two alone
ones_of_power : (n : ℕ) → count_ones (2 ^ n) ≡ 1
unfolding ones
ones_of_power n = let once : 2 ^ n ≡ 1 * 2 ^ n + 0 = omega arith in ap count_ones once ∙ ones_cat n 1 0 (W.pow_pos n)

pub one_bit_is_power : (n size : ℕ) → 2 ^ n ≤ size → size < 2 * 2 ^ n → count_ones size ≡ 1 → 2 ^ n ≡ size
unfolding ones
one_bit_is_power n size low high one =
    let whole : 1 * 2 ^ n + (size - 2 ^ n) ≡ size = omega arith in
    let ones : count_ones (1 * 2 ^ n + (size - 2 ^ n)) ≡ 1 + count_ones (size - 2 ^ n) = ones_cat n 1 (size - 2 ^ n) (omega arith) in
    let none : size - 2 ^ n ≡ 0 = zero_from_ones (size - 2 ^ n) (omega (arith, ap count_ones whole)) in
    omega arith

pub no_power : (n size : ℕ) → eqb (count_ones size) 1 ≡ false → 2 ^ n ≢ size
no_power n size none e = let one : eqb (count_ones size) 1 ≡ true = eq-eqb (count_ones size) 1 (ap count_ones (sym e) ∙ ones_of_power n) in
    cc

-- An index by its digits, lowest first: the sum of the points of the digits seen is the point of the number they make. And the
-- indices 2^k, whose points are entries of the table.
use Rattle.std.proofs.Common.{◌≡◌, ℕ, zero, suc, ◌+◌, ◌-◌, ◌*◌, ◌/◌, ◌%◌, ◌^◌, ◌<◌, ◌≤◌, sym, ap, ◌∙◌, ap₂, arith, lit<}
use native.Mathlib.Nat as N
use native.Mathlib.Decide.{ℕ_discrete}
use lib.Arith.{mod-mul}
use lib.Pow as W
use Rattle.algebra.specs.M31.{m31}
use Rattle.algebra.specs.Circle.{plus, zero_point, multiple}
use Rattle.fields.specs.Words.{words31}
use Rattle.fields.specs.Inverse.{m31_representation}
use Rattle.circle.specs.Point.{generator}
use Rattle.circle.specs.Index.{index_point}
use Rattle.circle.specs.Points.{multiple-add}
use Rattle.circle.specs.Table.{windows, digit_bits, digits, InTable, entry}
use Rattle.circle.specs.TableRule.{digits_before_last, digits_last}

power_pos : (w : ℕ) → 0 < digits ^ w
power_pos w = N.one-le-pow w digits (lit< tt)

power_next : (w : ℕ) → digits ^ (w + 1) ≡ digits ^ w * digits
power_next w = let e : w + 1 ≡ suc w = omega arith in ap (λ (n : ℕ). digits ^ n) e ∙ N.pow-suc digits w

-- one digit more
low_digits : (k w : ℕ) → k % digits ^ (w + 1) ≡ k % digits ^ w + k / digits ^ w % digits * digits ^ w
low_digits k w =
    ap (λ (n : ℕ). k % n) (power_next w ∙ N.mul_comm (digits ^ w) digits) ∙ mod-mul k (lit< tt) (power_pos w)
    ∙ N.add_comm (k / digits ^ w % digits * digits ^ w) (k % digits ^ w)

-- before the first digit
pub rest_start : (k : ℕ) → k ≡ k / digits ^ 0
rest_start k = omega arith

pub sum_start : (k : ℕ) → zero_point words31 ≡ index_point (k % digits ^ 0)
unfolding multiple
sum_start k = let e : 0 ≡ k % digits ^ 0 = omega arith in ap index_point e

pub rest_next : (k w rest : ℕ) → rest ≡ k / digits ^ w → rest / digits ≡ k / digits ^ (w + 1)
rest_next k w rest e =
    ap (λ (n : ℕ). n / digits) e ∙ N.div-div-eq-div-mul k (digits ^ w) digits ∙ ap (λ (n : ℕ). k / n) (sym (power_next w))

pub sum_next : (k w rest : ℕ) (sum next point : ℕ × ℕ) → rest ≡ k / digits ^ w → sum ≡ index_point (k % digits ^ w)
    → point ≡ entry w (rest % digits) → next ≡ plus words31 sum point → next ≡ index_point (k % digits ^ (w + 1))
sum_next k w rest sum next point e s p n =
    n ∙ ap₂ (plus words31) s (p ∙ ap (λ (r : ℕ). entry w (r % digits)) e)
    ∙ sym (multiple-add words31 m31 m31_representation (k % digits ^ w) (k / digits ^ w % digits * digits ^ w) generator)
    ∙ ap index_point (sym (low_digits k w))

-- after the last digit
pub sum_end : (k w : ℕ) → k < 2 ^ 31 → w ≡ windows → index_point (k % digits ^ w) ≡ index_point k
sum_end k w h e = let f : k % digits ^ windows ≡ k = omega arith in ap (λ (n : ℕ). index_point (k % digits ^ n)) e ∙ ap index_point f

-- a digit in its place is at most the number
digit_below : (k w rest : ℕ) → k < 2 ^ 31 → rest ≡ k / digits ^ w → rest % digits * digits ^ w < 2 ^ 31
digit_below k w rest h e =
    omega (arith, ap (λ (r : ℕ). r % digits * digits ^ w) e, low_digits k w, N.div-add-mod' k (digits ^ (w + 1)))

-- a digit of an index is one that the table has
pub digit_in_table : (k w rest : ℕ) → k < 2 ^ 31 → w < windows → rest ≡ k / digits ^ w → InTable w (rest % digits)
digit_in_table k w rest h l e = record {
  is_window = l;
  is_digit = elim (ℕ_discrete w (windows - 1)) [
    | yes f ↦ omega (arith, digits_last w f, digit_below k w rest h e, ap (λ (n : ℕ). rest % digits * digits ^ n) f)
    | no n ↦ omega (arith, digits_before_last w (omega (arith, n)))
  ];
}

-- the number that the digit 2^r makes in window w
power_of_digits : (w r : ℕ) → 2 ^ r * digits ^ w ≡ 2 ^ (digit_bits * w + r)
power_of_digits zero r = N.mul-one (2 ^ r) ∙ ap (λ (n : ℕ). 2 ^ n) (sym (N.zero-add r))
power_of_digits (suc w) r =
    let e : digit_bits * w + r + digit_bits ≡ digit_bits * suc w + r = omega arith in
    ap (λ (n : ℕ). 2 ^ r * n) (N.pow-suc digits w) ∙ sym (N.mul_assoc (2 ^ r) (digits ^ w) digits)
    ∙ ap (λ (n : ℕ). n * digits) (power_of_digits w r) ∙ sym (W.pow-add 2 (digit_bits * w + r) digit_bits) ∙ ap (λ (n : ℕ). 2 ^ n) e

pub power_entry : (log digit : ℕ) → digit ≡ 2 ^ (log % digit_bits) → entry (log / digit_bits) digit ≡ index_point (2 ^ log)
power_entry log digit e =
    let f : digit_bits * (log / digit_bits) + log % digit_bits ≡ log = omega arith in
    ap (entry (log / digit_bits)) e ∙ ap index_point (power_of_digits (log / digit_bits) (log % digit_bits) ∙ ap (λ (n : ℕ). 2 ^ n) f)

pub power_in_table : (log digit : ℕ) → log ≤ 30 → digit ≡ 2 ^ (log % digit_bits) → InTable (log / digit_bits) digit
power_in_table log digit h e = record {
  is_window = omega arith;
  is_digit = elim (ℕ_discrete (log / digit_bits) (windows - 1)) [
    | yes f ↦ omega (arith, digits_last (log / digit_bits) f, e, W.pow_mono {i = log % digit_bits} {j = 2} (omega (arith, f)))
    | no n ↦
        omega (arith, digits_before_last (log / digit_bits) (omega (arith, n)), e, W.pow_mono {i = log % digit_bits} {j = 3} (omega arith))
  ];
}

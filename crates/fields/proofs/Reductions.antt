-- The reductions modulo P by halves of 31 bits.
use Rattle.std.proofs.Common.{◌≡◌, ℕ, zero, suc, ◌+◌, ◌-◌, ◌*◌, ◌/◌, ◌%◌, ◌<◌, ◌≤◌, sym, refl, ap, ◌∙◌, arith}
use native.Mathlib.Nat as N
use native.Mathlib.Decide.{dec_lt}
use Rattle.algebra.specs.M31.{P, P_pos}
use Rattle.fields.specs.Words.{sub_p}

-- a number below 2P, its bit 31 added to the others
pub fold : (s : ℕ) → s < 2 * P → (s + (s + 1) / 2147483648) % 2147483648 ≡ s % P
fold s h = elim (dec_lt s P) [ yes l ↦ low l | no l ↦ high (omega arith) ]
  where
    low : s < P → (s + (s + 1) / 2147483648) % 2147483648 ≡ s % P
    low l =
        let q : (s + 1) / 2147483648 ≡ 0 = omega arith in
        let m : s % P ≡ s = omega arith in
        rw (q, m) (omega arith)

    high : P ≤ s → (s + (s + 1) / 2147483648) % 2147483648 ≡ s % P
    high l =
        let q : (s + 1) / 2147483648 ≡ 1 = omega arith in
        let m : s % P ≡ s - P = omega arith in
        rw (q, m) (omega arith)

-- a may be P
pub product_below : (a b : ℕ) → a ≤ P → b < P → a * b < P * P
product_below a b ha hb =
    let lb : b ≤ 2147483646 = omega arith in
    omega (arith, N.mul-le-mul ha lb)

-- the bits from 31 on, added to those below
pub halves : (v : ℕ) → (v % 2147483648 + v / 2147483648) % P ≡ v % P
halves v = omega arith

-- a product p by w and by 2w: the bits of 2p divide at 32 where those of p divide at 31
pub doubled_halves : (p : ℕ) → (2 * p) % 4294967296 / 2 + 2 * p / 4294967296 ≡ p % 2147483648 + p / 2147483648
doubled_halves p =
    let low : (2 * p) % 4294967296 / 2 ≡ p % 2147483648 = omega arith in
    let high : 2 * p / 4294967296 ≡ p / 2147483648 = omega arith in
    rw (low, high)

-- that product, from what a sum modulo 2^32 says of 2w
pub doubled_product : (a w twice : ℕ) → a ≤ P → w < P → twice ≡ (w + w) % 4294967296 → (a * twice ≡ 2 * (a * w)) × (2 * (a * w) < 2 * (P * P))
doubled_product a w twice ha hw e =
    let double : twice ≡ 2 * w = omega arith in
    (ap (λ (t : ℕ). a * t) double ∙ omega arith, omega (arith, product_below a w ha hw))

pub halves_below : (p : ℕ) → p < P * P → p % 2147483648 + p / 2147483648 < 2 * P
halves_below p h = omega arith

-- the same twice: small enough to be folded
pub halves_small : (v : ℕ) → v < 18446744073709551616
    → (v % 2147483648 + v / 2147483648) % 2147483648 + (v % 2147483648 + v / 2147483648) / 2147483648 < 2 * P
halves_small v h =
    let a : v / 2147483648 < 8589934592 = omega arith in
    let b : v % 2147483648 < 2147483648 = omega arith in
    let c : (v % 2147483648 + v / 2147483648) / 2147483648 < 6 = omega arith in
    let d : (v % 2147483648 + v / 2147483648) % 2147483648 < 2147483648 = omega arith in
    omega arith

pub halves_twice : (v : ℕ) → ((v % 2147483648 + v / 2147483648) % 2147483648 + (v % 2147483648 + v / 2147483648) / 2147483648) % P ≡ v % P
halves_twice v = halves (v % 2147483648 + v / 2147483648) ∙ halves v

sub_p_less : (a b : ℕ) → a < b → b ≤ P → sub_p a b ≡ a + (P - b)
sub_p_less a b l h =
    let n : (P - b % P) % P ≡ P - b = omega arith in
    rw n (omega arith)

sub_p-more : (a b : ℕ) → b ≤ a → a < P → sub_p a b ≡ a - b
sub_p-more a b l h = go b refl
  where
    go : (k : ℕ) → b ≡ k → sub_p a b ≡ a - b
    go zero e = rw e (omega arith)
    go (suc k) e =
        let n : (P - b % P) % P ≡ P - b = omega arith in
        rw n (omega arith)

-- a difference that wraps below 0, folded
pub unwrap : (a b d : ℕ) → a < P → b ≤ P → d < 4294967296 → (d + b) % 4294967296 ≡ a → (d - d / 2147483648) % 2147483648 ≡ sub_p a b
unwrap a b d ha hb hd e = elim (dec_lt a b) [ yes l ↦ wrapped l | no l ↦ plain (omega arith) ]
  where
    wrapped : a < b → (d - d / 2147483648) % 2147483648 ≡ sub_p a b
    wrapped l =
        let f : d ≡ 4294967296 + a - b = omega arith in
        let q : d / 2147483648 ≡ 1 = omega arith in
        rw (q, sub_p_less a b l hb) (omega arith)

    plain : b ≤ a → (d - d / 2147483648) % 2147483648 ≡ sub_p a b
    plain l =
        let f : d ≡ a - b = omega arith in
        let q : d / 2147483648 ≡ 0 = omega arith in
        rw (q, sub_p-more a b l ha) (omega arith)

small : (d : ℕ) → d ≤ P → (d - d / 2147483648) % 2147483648 ≡ d
small d h =
    let q : d / 2147483648 ≡ 0 = omega arith in
    rw q (omega arith)

from_p : (b : ℕ) → b ≤ P → sub_p P b ≡ (P - b) % P
from_p b h = omega arith

-- the same where a may be P
pub unwrap_partly : (a b d : ℕ) → a ≤ P → b ≤ P → d < 4294967296 → (d + b) % 4294967296 ≡ a
    → ((d - d / 2147483648) % 2147483648 % P ≡ sub_p a b) × ((d - d / 2147483648) % 2147483648 ≤ P) × (a < P → (d - d / 2147483648) % 2147483648 < P)
unwrap_partly a b d ha hb hd e = elim (dec_lt a P) [ yes l ↦ below l | no g ↦ top (omega arith) ]
  where
    below : a < P → ((d - d / 2147483648) % 2147483648 % P ≡ sub_p a b) × ((d - d / 2147483648) % 2147483648 ≤ P) × (a < P → (d - d / 2147483648) % 2147483648 < P)
    below l =
        let is = unwrap a b d l hb hd e in
        let less : sub_p a b < P = N.mod-lt _ P_pos in
        (ap (λ (t : ℕ). t % P) is ∙ N.mod-eq_of_lt less, omega arith, λ h. rw is less)

    top : a ≡ P → ((d - d / 2147483648) % 2147483648 % P ≡ sub_p a b) × ((d - d / 2147483648) % 2147483648 ≤ P) × (a < P → (d - d / 2147483648) % 2147483648 < P)
    top q =
        let f : d ≡ P - b = omega arith in
        let r : (d - d / 2147483648) % 2147483648 ≡ d = small d (omega arith) in
        (ap (λ (t : ℕ). t % P) (r ∙ f) ∙ sym (from_p b hb) ∙ ap (λ (t : ℕ). sub_p t b) (sym q), omega arith, λ h. absurd (omega arith))

-- The twiddles of the circle domain, as words: each is a factor at the points of its block, negated in the block's upper half.
use Prim.Native.Nat.{ℕ, zero, suc, ◌+◌, ◌-◌, ◌*◌, ◌/◌, ◌%◌, ◌^◌, ◌≤◌, ◌<◌}
use Rattle.std.specs.Prelude.{◌≡◌, eqb}
use Rattle.std.proofs.Math.Path.{sym, ap, ap₂}
use Rattle.std.proofs.Common.{◌∙◌}
use Rattle.std.proofs.Math.Bool.{cond}
use Rattle.std.proofs.Math.Nat as N
use Rattle.std.proofs.Math.Decide.{dec_lt}
use native.Mathlib.Omega.{arith}
use Rattle.algebra.specs.Circle.{double_x}
use Rattle.algebra.specs.Doubling.{iterate, iterate-suc}
use Rattle.fields.specs.Words.{neg_p, words31}
use Rattle.domains.specs.BitReversed.{half_point}
use Rattle.domains.proofs.BitReversed.{position_even, position_odd, half_neighbour_x}
use Rattle.domains.proofs.Doubled.{half_double_x}
use Rattle.column.specs.Column.{factor}
use Rattle.column.specs.Butterflies.{on_the_way}
use Rattle.column.specs.OneList.{Twiddles}
use Rattle.transform.specs.Transform.{position_point}

-- of block i of 2^(t + 1) elements: y for pairs, x, doubled t - 1 times, for longer blocks
unfoldable pub twiddle : ℕ → ℕ → ℕ → ℕ
twiddle n zero i = (half_point n i).1
twiddle n (suc t) i = (half_point (n - t) (2 * i)).0

pub even_or_odd : {A : Type 0} (p : ℕ) → (p % 2 ≡ 0 → A) → (p % 2 ≡ 1 → A) → A
even_or_odd p even odd = elim (dec_lt (p % 2) 1) [ yes l ↦ even (omega arith) | no g ↦ odd (omega arith) ]

module _ (n : ℕ) (lo : 1 ≤ n) (hi : n ≤ 30) where
  -- conjugates have the same x
  position_x : (p : ℕ) → (position_point n p).0 ≡ (half_point n (p / 2)).0
  position_x p =
      even_or_odd p (λ e. ap (λ (q : ℕ × ℕ). q.0) (position_even n lo hi p e)) (λ e. ap (λ (q : ℕ × ℕ). q.0) (position_odd n lo hi p e))

  -- x doubled t times belongs to log size n - t
  half_doubled_x : (t k : ℕ) → t < n → iterate t (double_x words31) (half_point n k).0 ≡ (half_point (n - t) (k / 2 ^ t)).0
  unfolding iterate
  half_doubled_x zero k h =
      ap₂ (λ (l m : ℕ). (half_point l m).0) (omega arith) (omega (arith, ap (λ (s : ℕ). k / s) (N.pow-zero 2) ∙ N.div-one k))
  half_doubled_x (suc t) k h =
      let level : n - t ≡ suc (n - suc t) = omega arith in
      iterate-suc t (double_x words31) (half_point n k).0
      ∙ ap (double_x words31) (half_doubled_x t k (omega arith) ∙ ap (λ (l : ℕ). (half_point l (k / 2 ^ t)).0) level)
      ∙ half_double_x (n - suc t) (omega arith) (omega arith) (k / 2 ^ t)
      ∙ ap (λ (m : ℕ). (half_point (n - suc t) m).0) (N.div-div-eq-div-mul k (2 ^ t) 2 ∙ ap (λ (s : ℕ). k / s) (sym (N.pow-suc 2 t)))

  line_factor : (p t : ℕ) → t < n → factor words31 (position_point n p) (suc t) ≡ (half_point (n - t) (p / 2 ^ suc t)).0
  unfolding factor
  line_factor p t h =
      ap (iterate t (double_x words31)) (position_x p) ∙ half_doubled_x t (p / 2) h
      ∙ ap (λ (m : ℕ). (half_point (n - t) m).0) (N.div-div-eq-div-mul p 2 (2 ^ t) ∙ ap (λ (s : ℕ). p / s) (sym (N.pow-succ' 2 t)))

  -- x of half coset point m, from the even one of its pair
  line_sign : (l m : ℕ) → 2 ≤ l → l ≤ 30
      → cond (eqb (m % 2) 0) (half_point l (2 * (m / 2))).0 (neg_p (half_point l (2 * (m / 2))).0) ≡ (half_point l m).0
  line_sign l m a b =
      even_or_odd m
      (λ e. ap (λ (r : ℕ). cond (eqb r 0) (half_point l (2 * (m / 2))).0 (neg_p (half_point l (2 * (m / 2))).0)) e
      ∙ ap (λ (k : ℕ). (half_point l k).0) (omega arith))
      (λ e.
      let whole : 2 * (m / 2) + 1 ≡ m = omega arith in
      ap (λ (r : ℕ). cond (eqb r 0) (half_point l (2 * (m / 2))).0 (neg_p (half_point l (2 * (m / 2))).0)) e
      ∙ sym (half_neighbour_x l (m / 2) a b) ∙ ap (λ (k : ℕ). (half_point l k).0) whole)

  pub domain_twiddles : Twiddles words31 n (position_point n) (twiddle n)
  unfolding on_the_way factor twiddle
  domain_twiddles p zero hp ht =
      even_or_odd p
      (λ e. ap (λ (r : ℕ). cond (eqb r 0) (half_point n (p / 2)).1 (neg_p (half_point n (p / 2)).1)) (bit ∙ e)
      ∙ sym (ap (λ (q : ℕ × ℕ). q.1) (position_even n lo hi p e)))
      (λ e. ap (λ (r : ℕ). cond (eqb r 0) (half_point n (p / 2)).1 (neg_p (half_point n (p / 2)).1)) (bit ∙ e)
      ∙ sym (ap (λ (q : ℕ × ℕ). q.1) (position_odd n lo hi p e)))
    where
      bit : p / 2 ^ 0 % 2 ≡ p % 2
      bit = ap (λ (s : ℕ). s % 2) (N.div-one p)
  domain_twiddles p (suc t) hp ht =
      ap (λ (m : ℕ). cond (eqb (p / 2 ^ suc t % 2) 0) (half_point (n - t) (2 * m)).0 (neg_p (half_point (n - t) (2 * m)).0)) halved
      ∙ line_sign (n - t) (p / 2 ^ suc t) (omega arith) (omega arith) ∙ sym (line_factor p t (omega arith))
    where
      halved : p / 2 ^ suc (suc t) ≡ p / 2 ^ suc t / 2
      halved = ap (λ (s : ℕ). p / s) (N.pow-suc 2 (suc t)) ∙ sym (N.div-div-eq-div-mul p (2 ^ suc t) 2)

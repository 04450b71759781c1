-- Every point of the circle over M31 is a multiple of G. Whether its count is even shows in x after doublings.
use Rattle.std.specs.Prelude.{ℕ, zero, suc, ◌+◌, ◌-◌, ◌*◌, ◌%◌, ◌^◌, ◌≤◌, ◌<◌, ◌≡◌, ◌⊎◌}
use Rattle.std.proofs.Common.{sym, ◌∙◌, ap, inl, inr, arith}
use Rattle.std.proofs.Math.Nat as N
use Rattle.std.proofs.Math.Pow as W
use Rattle.algebra.specs.ZMod.{Z}
use Rattle.algebra.specs.M31.{P, m31}
use Rattle.algebra.specs.Circle.{zero_point, multiple, OnCircle, double_x}
use Rattle.algebra.specs.Generator.{G}
use Rattle.algebra.proofs.Generator.{G_half, G_halved, G_order, G_equal}
use Rattle.algebra.specs.Doubling.{iterate, double}
use Rattle.algebra.proofs.Doubling.{doublings_31}
use Rattle.algebra.proofs.ZeroX.{doubled_multiple_x}

-- z is a multiple of 2^(31 - m) G
abbrev MultipleOf : ℕ → Z P × Z P → Type 0
MultipleOf m z = (j : ℕ) × (z ≡ multiple m31 (2 ^ (31 - m) * j) G)

-- by halving the count
multiple-halved : (m : ℕ) → suc m ≤ 31 → (z : Z P × Z P) → MultipleOf m (double m31 z) → MultipleOf (suc m) z
multiple-halved m h z (j, e) = pick (G_halved k z (e ∙ ap (λ (t : ℕ). multiple m31 t G) count-doubled))
  where
    k : ℕ
    k = 2 ^ (31 - suc m) * j

    count-doubled : 2 ^ (31 - m) * j ≡ 2 * (2 ^ (31 - suc m) * j)
    count-doubled =
        let step : 31 - m ≡ suc (31 - suc m) = omega arith in
        ap (λ (t : ℕ). 2 ^ t * j) step ∙ omega (arith, ap (λ (t : ℕ). t * j) (N.pow-succ' 2 (31 - suc m)))

    pow_30_split : 2 ^ (31 - suc m) * 2 ^ m ≡ 2 ^ 30
    pow_30_split =
        let exponents : 31 - suc m + m ≡ 30 = omega arith in
        sym (W.pow-add 2 (31 - suc m) m) ∙ ap (λ (t : ℕ). 2 ^ t) exponents

    antipode-count : 2 ^ (31 - suc m) * j + 2 ^ 30 ≡ 2 ^ (31 - suc m) * (j + 2 ^ m)
    antipode-count = omega (arith, pow_30_split)

    pick : (z ≡ multiple m31 k G) ⊎ (z ≡ multiple m31 (k + 2 ^ 30) G) → MultipleOf (suc m) z
    pick (inl f) = (j, f)
    pick (inr f) = (j + 2 ^ m, f ∙ ap (λ (t : ℕ). multiple m31 t G) antipode-count)

-- where m doublings reach zero
zero_is_multiple : (m : ℕ) → m ≤ 31 → (z : Z P × Z P) → iterate m (double m31) z ≡ zero_point m31 → MultipleOf m z
unfolding iterate
zero_is_multiple zero h z e = (0, e ∙ sym ((G_order (2 ^ (31 - 0) * 0)).1 (omega arith)))
zero_is_multiple (suc m) h z e = multiple-halved m h z (zero_is_multiple m (omega arith) (double m31 z) e)

-- every point of the circle is k G for a k below 2^31
pub all_multiples : (z : Z P × Z P) → OnCircle m31 z → (k : ℕ) × (k < 2 ^ 31) × (z ≡ multiple m31 k G)
all_multiples z on =
    let r : MultipleOf 31 z = zero_is_multiple 31 (omega arith) z (doublings_31 z on) in
    (r.0 % 2 ^ 31, omega arith, r.1 ∙ (G_equal (2 ^ (31 - 31) * r.0) (r.0 % 2 ^ 31)).1 (reduced r.0))
  where
    reduced : (j : ℕ) → (2 ^ (31 - 31) * j) % 2 ^ 31 ≡ j % 2 ^ 31 % 2 ^ 31
    reduced j = omega arith

-- 30 - i doublings of the x of 2^i q G show whether q is even
module _ (i q : ℕ) (h : i ≤ 30) where
  doubled_count : 2 ^ (30 - i) * (2 ^ i * q) ≡ 2 ^ 30 * q
  doubled_count =
      sym (N.mul_assoc (2 ^ (30 - i)) (2 ^ i) q)
      ∙ ap (λ (t : ℕ). t * q) (sym (W.pow-add 2 (30 - i) i) ∙ ap (λ (t : ℕ). 2 ^ t) (N.sub-add_cancel h))

  doubled_x : iterate (30 - i) (double_x m31) (multiple m31 (2 ^ i * q) G).0 ≡ (multiple m31 (2 ^ 30 * q) G).0
  doubled_x = doubled_multiple_x (30 - i) (2 ^ i * q) ∙ ap (λ (t : ℕ). (multiple m31 t G).0) doubled_count

  pub even_count_x : q % 2 ≡ 0 → iterate (30 - i) (double_x m31) (multiple m31 (2 ^ i * q) G).0 ≡ m31.one
  even_count_x e = doubled_x ∙ ap (λ t. t.0) ((G_order (2 ^ 30 * q)).1 (omega (arith, e)))

  pub odd_count_x : q % 2 ≡ 1 → iterate (30 - i) (double_x m31) (multiple m31 (2 ^ i * q) G).0 ≡ m31.neg m31.one
  odd_count_x e = doubled_x ∙ ap (λ t. t.0) ((G_equal (2 ^ 30 * q) (2 ^ 30)).1 (omega (arith, e)) ∙ G_half)

-- Which points of the circle over M31 have x = 0 after m doublings: the odd multiples of 2^(29 - m) G.
use Rattle.std.specs.Prelude.{ℕ, zero, suc, ◌+◌, ◌-◌, ◌*◌, ◌^◌, ◌≤◌, ◌≡◌, [], ◌∷◌, ◌↔◌, ◌⊎◌}
use Rattle.std.proofs.Common.{sym, ◌∙◌, ap, inl, inr, arith}
use Rattle.std.proofs.Math.Nat as N
use Rattle.std.proofs.Math.Pow as W
use Rattle.algebra.specs.Ring as R
use Rattle.algebra.specs.Polynomial.{Expr, ◌:*◌, :-◌, exprs, given, v0, v1}
use Rattle.algebra.specs.Solver.{solve_from}
use Rattle.algebra.specs.ZMod.{Z}
use Rattle.algebra.specs.Field.{square_equal}
use Rattle.algebra.specs.M31.{P, m31, m31_laws}
use Rattle.algebra.proofs.M31.{m31_field}
use Rattle.algebra.specs.Tower.{cm31}
use Rattle.algebra.specs.Circle.{multiple, squares, OnCircle, double_x, multiple-mul, on_plus, on_multiple, plus_self_x}
use Rattle.algebra.specs.Generator.{G}
use Rattle.algebra.proofs.Generator.{G_on, G_quarter, G_antipode, G_halved}
use Rattle.algebra.specs.Doubling.{iterate, double, doublings_multiple, doublings_x}

-- z is an odd multiple of 2^(29 - m) G
abbrev pub OddMultiple : ℕ → Z P × Z P → Type 0
OddMultiple m z = (j : ℕ) × (z ≡ multiple m31 (2 ^ (29 - m) * (2 * j + 1)) G)

pow_29_split : (m : ℕ) → m ≤ 29 → 2 ^ (29 - m) * 2 ^ m ≡ 2 ^ 29
pow_29_split m h = sym (W.pow-add 2 (29 - m) m) ∙ ap (λ (t : ℕ). 2 ^ t) (N.sub-add_cancel h)

-- on the circle x = 0 only in 2^29 G = (0, -1) and (2^29 + 2^30) G = (0, 1)
x_zero_is_odd_multiple : (z : Z P × Z P) → OnCircle m31 z → z.0 ≡ m31.zero → OddMultiple 0 z
x_zero_is_odd_multiple z on e = pick (square_equal m31 m31_field z.1 m31.one y_square)
  where
    y_square : m31.mul z.1 z.1 ≡ m31.mul m31.one m31.one
    y_square =
        solve_from m31 m31_laws (z.0 ∷ z.1 ∷ [])
        (given Expr.:1 (squares exprs (v0, v1)) Expr.:1 ∷ given (:- v0) v0 Expr.:0 ∷ []) (on, (e, tt)) (v1 :* v1) (Expr.:1 :* Expr.:1) tt

    three_quarters : multiple m31 (2 ^ 29 + 2 ^ 30) G ≡ (m31.zero, m31.one)
    three_quarters =
        G_antipode (2 ^ 29) ∙ ap cm31.neg G_quarter ∙ (λ i. (R.neg-zero m31 m31_laws i, R.neg-neg m31 m31_laws m31.one i))

    pick : (z.1 ≡ m31.one) ⊎ (z.1 ≡ m31.neg m31.one) → OddMultiple 0 z
    pick (inl f) = (1, (λ i. (e i, f i)) ∙ sym three_quarters)
    pick (inr f) = (0, (λ i. (e i, f i)) ∙ sym G_quarter)

-- by halving the count
odd_multiple_halved : (m : ℕ) → suc m ≤ 29 → (z : Z P × Z P) → OddMultiple m (double m31 z) → OddMultiple (suc m) z
odd_multiple_halved m h z (j, e) = pick (G_halved k z (e ∙ ap (λ (t : ℕ). multiple m31 t G) count-doubled))
  where
    k : ℕ
    k = 2 ^ (29 - suc m) * (2 * j + 1)

    count-doubled : 2 ^ (29 - m) * (2 * j + 1) ≡ 2 * (2 ^ (29 - suc m) * (2 * j + 1))
    count-doubled =
        let step : 29 - m ≡ suc (29 - suc m) = omega arith in
        ap (λ (t : ℕ). 2 ^ t * (2 * j + 1)) step ∙ omega (arith, ap (λ (t : ℕ). t * (2 * j + 1)) (N.pow-succ' 2 (29 - suc m)))

    antipode-count : 2 ^ (29 - suc m) * (2 * j + 1) + 2 ^ 30 ≡ 2 ^ (29 - suc m) * (2 * (j + 2 ^ suc m) + 1)
    antipode-count = omega (arith, pow_29_split (suc m) h)

    pick : (z ≡ multiple m31 k G) ⊎ (z ≡ multiple m31 (k + 2 ^ 30) G) → OddMultiple (suc m) z
    pick (inl f) = (j, f)
    pick (inr f) = (j + 2 ^ suc m, f ∙ ap (λ (t : ℕ). multiple m31 t G) antipode-count)

zero_is_odd_multiple : (m : ℕ) → m ≤ 29 → (z : Z P × Z P) → OnCircle m31 z → iterate m (double_x m31) z.0 ≡ m31.zero → OddMultiple m z
unfolding iterate
zero_is_odd_multiple zero h z on e = x_zero_is_odd_multiple z on e
zero_is_odd_multiple (suc m) h z on e =
    odd_multiple_halved m h z
    (zero_is_odd_multiple m (omega arith) (double m31 z) (on_plus m31 m31_laws z z on on)
    (ap (iterate m (double_x m31)) (plus_self_x m31 m31_laws z on) ∙ e))

-- an odd multiple of 2^29 G has x = 0
odd_multiple_x : (j : ℕ) → (multiple m31 (2 ^ 29 * (2 * j + 1)) G).0 ≡ m31.zero
odd_multiple_x zero = ap (λ t. t.0) G_quarter
odd_multiple_x (suc j) =
    ap (λ (t : ℕ). (multiple m31 t G).0) (next_odd j) ∙ ap (λ t. t.0) (G_antipode (2 ^ 29 * (2 * j + 1))) ∙ ap m31.neg (odd_multiple_x j)
    ∙ R.neg-zero m31 m31_laws
  where
    next_odd : (j : ℕ) → 2 ^ 29 * (2 * suc j + 1) ≡ 2 ^ 29 * (2 * j + 1) + 2 ^ 30
    next_odd j = omega arith

-- m doublings of the x of k G
pub doubled_multiple_x : (m k : ℕ) → iterate m (double_x m31) (multiple m31 k G).0 ≡ (multiple m31 (2 ^ m * k) G).0
doubled_multiple_x m k =
    sym (doublings_x m31 m31_laws m (multiple m31 k G) (on_multiple m31 m31_laws k G G_on))
    ∙ ap (λ t. t.0) (doublings_multiple m31 m31_laws m (multiple m31 k G) ∙ sym (multiple-mul m31 m31_laws (2 ^ m) k G))

odd_multiple_is_zero : (m : ℕ) → m ≤ 29 → (j : ℕ) → iterate m (double_x m31) (multiple m31 (2 ^ (29 - m) * (2 * j + 1)) G).0 ≡ m31.zero
odd_multiple_is_zero m h j =
    doubled_multiple_x m (2 ^ (29 - m) * (2 * j + 1)) ∙ ap (λ (t : ℕ). (multiple m31 t G).0) doubled_count ∙ odd_multiple_x j
  where
    doubled_count : 2 ^ m * (2 ^ (29 - m) * (2 * j + 1)) ≡ 2 ^ 29 * (2 * j + 1)
    doubled_count = omega (arith, ap (λ (t : ℕ). t * (2 * j + 1)) (pow_29_split m h))

pub odd_multiples : (m : ℕ) → m ≤ 29 → (z : Z P × Z P) → OddMultiple m z ↔ (OnCircle m31 z × (iterate m (double_x m31) z.0 ≡ m31.zero))
odd_multiples m h z = (
  λ (j, e). (
    ap (squares m31) e ∙ on_multiple m31 m31_laws (2 ^ (29 - m) * (2 * j + 1)) G G_on,
    ap (λ t. iterate m (double_x m31) t.0) e ∙ odd_multiple_is_zero m h j,
  ),
  λ (on, e). zero_is_odd_multiple m h z on e,
)

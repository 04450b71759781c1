-- In M31[i] the power P is the conjugate, so 2^31 times a point of the circle is zero.
use Prim.Native.Nat.{ℕ, zero, suc, ◌^◌, ◌<◌}
use Rattle.std.specs.Prelude.{◌≡◌, [], ◌∷◌}
use Rattle.std.proofs.Math.Path.{refl, sym, ap}
use Rattle.std.proofs.Common.{◌∙◌, ap₂, arith, lit<}
use Rattle.algebra.specs.Ring.{Ops, Laws}
use Rattle.algebra.specs.Ring as R
use Rattle.algebra.specs.Polynomial.{Expr, ◌:*◌, :-◌, exprs, v0, v1}
use Rattle.algebra.specs.Solver.{solve_pair}
use Rattle.algebra.specs.Power.{pow, mul-pow, pow_by_squaring, pow_by_squaring_ok}
use Rattle.algebra.specs.ZMod.{Z, residue, zadd, zmul, zneg, zmod, zmod_laws, residue-add, residue-val}
use Rattle.algebra.specs.Extension.{conjugate}
use Rattle.algebra.specs.Prime.{Prime}
use Rattle.algebra.specs.PrimeField.{one-add-pow, fermat}
use Rattle.algebra.specs.M31.{P, P_pos, m31, m31_laws}
use Rattle.algebra.proofs.M31.{P_prime}
use Rattle.algebra.specs.Tower.{complex, complex_laws, cm31}
use Rattle.algebra.specs.Circle.{plus-mul, multiple, multiple-pow, zero_point, OnCircle, plus-conjugate}

-- for any prime p = q + 1 with i^p = - i
module _ (q : ℕ) (pos : zero < suc q) (large : 0 < q) (prime : Prime (suc q)) where
  abbrev O : Ops
  O = zmod (suc q) pos

  abbrev L : Laws O
  L = zmod_laws (suc q) pos

  abbrev X : Ops
  X = complex O

  abbrev XL : Laws X
  XL = complex_laws O L

  abbrev class : ℕ → Z (suc q)
  class = residue (suc q) pos

  real_pow : (y : Z (suc q)) (n : ℕ) → pow X (y, class 0) n ≡ (pow O y n, class 0)
  unfolding pow
  real_pow y zero = refl
  real_pow y (suc n) =
      ap (X.mul (y, class 0)) (real_pow y n)
      ∙ solve_pair O L (y ∷ pow O y n ∷ []) ((complex exprs).mul (v0, Expr.:0) (v1, Expr.:0)) (v0 :* v1, Expr.:0) (tt, tt)

  module _ (i_pow : pow X (O.zero, O.one) (suc q) ≡ (O.zero, O.neg O.one)) where
    -- i y, as y i
    imaginary_pow : (y : Z (suc q)) → pow X (O.zero, y) (suc q) ≡ conjugate O (O.zero, y)
    imaginary_pow y =
        ap (λ t. pow X t (suc q)) (solve_pair O L (y ∷ []) (Expr.:0, v0) ((complex exprs).mul (v0, Expr.:0) (Expr.:0, Expr.:1)) (tt, tt))
        ∙ mul-pow X XL (y, class 0) (O.zero, O.one) (suc q)
        ∙ ap₂ X.mul (real_pow y (suc q) ∙ (λ i. (fermat q pos large prime y i, class 0))) i_pow
        ∙ solve_pair O L (y ∷ []) ((complex exprs).mul (v0, Expr.:0) (Expr.:0, :- Expr.:1)) (conjugate exprs (Expr.:0, v0)) (tt, tt)

    -- x + i y, with x = 1 + .. + 1
    class-pow : (x : ℕ) (y : Z (suc q)) → pow X (class x, y) (suc q) ≡ conjugate O (class x, y)
    class-pow zero y = imaginary_pow y
    class-pow (suc x) y =
        ap (λ t. pow X t (suc q)) (more x)
        ∙ one-add-pow q pos large prime X XL (λ a. (a, class 0)) refl refl
        (λ a b. λ i. (O.add a b, sym (L.add-zero (class 0)) i)) (class x, y)
        ∙ ap (X.add X.one) (class-pow x y)
        ∙ solve_pair O L (class x ∷ y ∷ [])
        ((complex exprs).add (complex exprs).one (conjugate exprs (v0, v1)))
        (conjugate exprs ((complex exprs).add (complex exprs).one (v0, v1))) (tt, tt)
        ∙ ap (conjugate O) (sym (more x))
      where
        one_more : (x : ℕ) → class (suc x) ≡ O.add O.one (class x)
        one_more x = ap class (omega arith) ∙ residue-add (suc q) pos 1 x

        more : (x : ℕ) → (class (suc x), y) ≡ X.add X.one (class x, y)
        more x = λ i. (one_more x i, sym (R.zero-add O L y) i)

    conjugate-pow : (z : Z (suc q) × Z (suc q)) → pow X z (suc q) ≡ conjugate O z
    conjugate-pow z =
        ap (λ t. pow X (t, z.1) (suc q)) (sym (residue-val (suc q) pos z.0)) ∙ class-pow z.0.val z.1
        ∙ ap (λ t. conjugate O (t, z.1)) (residue-val (suc q) pos z.0)

    circle_multiple : (z : Z (suc q) × Z (suc q)) → OnCircle O z → multiple O (suc (suc q)) z ≡ zero_point O
    unfolding pow
    circle_multiple z h =
        multiple-pow O L (suc (suc q)) z ∙ ap (X.mul z) (conjugate-pow z) ∙ sym (plus-mul O L z (conjugate O z)) ∙ plus-conjugate O L z h

i_pow_computed : pow_by_squaring cm31 31 (m31.zero, m31.one) P ≡ (m31.zero, m31.neg m31.one)
unfolding pow_by_squaring residue zadd zmul zneg
i_pow_computed = refl

i_pow : pow cm31 (m31.zero, m31.one) P ≡ (m31.zero, m31.neg m31.one)
i_pow = sym (pow_by_squaring_ok cm31 (complex_laws m31 m31_laws) 31 (m31.zero, m31.one) P (lit< tt)) ∙ i_pow_computed

-- z^P is the conjugate of z
pub frobenius : (z : Z P × Z P) → pow cm31 z P ≡ conjugate m31 z
frobenius = conjugate-pow 2147483646 P_pos (lit< tt) P_prime i_pow

-- the order of every point of the circle divides 2^31
pub circle_order : (z : Z P × Z P) → OnCircle m31 z → multiple m31 (2 ^ 31) z ≡ zero_point m31
circle_order = circle_multiple 2147483646 P_pos (lit< tt) P_prime i_pow

-- CM31 = M31[i] with i² = -1, and QM31 = CM31[u] with u² = 2 + i, are fields.
use Rattle.std.specs.Prelude.{ℕ, ◌<◌, ◌≡◌, refl, [], ◌∷◌}
use Rattle.std.proofs.Common.{sym, ◌∙◌, ap, arith, lit<}
use Rattle.algebra.specs.Ring.{Ops, Laws, two}
use Rattle.algebra.specs.Ring as R
use Rattle.algebra.specs.Polynomial.{Expr, ◌:+◌, ◌:*◌, exprs, given, v0, v1}
use Rattle.algebra.specs.Solver.{solve_from}
use Rattle.algebra.specs.Power.{pow, pow_square, pow_by_squaring, pow_by_squaring_ok}
use Rattle.algebra.specs.ZMod.{Z, residue, zadd, zmul, zneg, residue_injective}
use Rattle.algebra.specs.Field.{Field}
use Rattle.algebra.specs.ExtensionField.{ext_field}
use Rattle.algebra.specs.M31.{P, P_pos, m31, m31_laws, element}
use Rattle.algebra.proofs.M31.{m31_field, m31_fermat_one}
use Rattle.algebra.specs.Tower.{cm31, complex, qm31, two_plus_i}

-- two numbers below P are different elements
elements_differ : (a b : ℕ) → a < P → b < P → (a ≡ b → ⊥) → ¬ (element a ≡ element b)
elements_differ a b l m n e = n (residue_injective P P_pos a b l m e)

minus_one_nonone : ¬ (m31.neg m31.one ≡ m31.one)
unfolding residue zneg
minus_one_nonone = elements_differ 2147483646 1 (lit< tt) (lit< tt) (λ e. omega (arith, e))

-- Euler's criterion: c is no square where c^((P - 1) / 2) = -1
nonsquare_by_euler : (c : Z P) → ¬ (c ≡ m31.zero) → pow_by_squaring m31 30 c 1073741823 ≡ m31.neg m31.one → (x : Z P)
    → ¬ (m31.mul x x ≡ c)
nonsquare_by_euler c nonzero h x e =
    minus_one_nonone
    (sym h ∙ pow_by_squaring_ok m31 m31_laws 30 c 1073741823 (lit< tt) ∙ ap (λ t. pow m31 t 1073741823) (sym e)
    ∙ pow_square m31 m31_laws x 1073741823 ∙ m31_fermat_one x x_nonzero)
  where
    x_nonzero : ¬ (x ≡ m31.zero)
    x_nonzero z = nonzero (sym e ∙ ap (λ t. m31.mul t x) z ∙ R.zero-mul m31 m31_laws x)

pub minus_one_nonsquare : (x : Z P) → ¬ (m31.mul x x ≡ m31.neg m31.one)
unfolding residue zneg zmul pow_by_squaring
minus_one_nonsquare =
    nonsquare_by_euler (m31.neg m31.one) (elements_differ 2147483646 0 (lit< tt) P_pos (λ e. omega (arith, e))) refl

five_nonsquare : (x : Z P) → ¬ (m31.mul x x ≡ element 5)
unfolding residue zneg zmul pow_by_squaring
five_nonsquare = nonsquare_by_euler (element 5) (elements_differ 5 0 (lit< tt) P_pos (λ e. omega (arith, e))) refl

abbrev pub cm31_field : Field cm31
cm31_field = ext_field m31 m31_field (m31.neg m31.one) minus_one_nonsquare

two_squared_plus_one : m31.add (m31.mul (two m31) (two m31)) m31.one ≡ element 5
unfolding residue zadd zmul
two_squared_plus_one = refl

-- (a + bi)² = 2 + i would give (a² + b²)² = (a² - b²)² + (2ab)² = 5
pub two_plus_i_nonsquare : (p : Z P × Z P) → ¬ (cm31.mul p p ≡ two_plus_i m31)
two_plus_i_nonsquare p e =
    five_nonsquare (m31.add (m31.mul p.0 p.0) (m31.mul p.1 p.1))
    (solve_from m31 m31_laws (p.0 ∷ p.1 ∷ [])
    (given (re :+ two exprs) re (two exprs) ∷ given (im :+ Expr.:1) im Expr.:1 ∷ []) (ap (λ t. t.0) e, (ap (λ t. t.1) e, tt))
    ((v0 :* v0 :+ v1 :* v1) :* (v0 :* v0 :+ v1 :* v1)) (two exprs :* two exprs :+ Expr.:1) tt
    ∙ two_squared_plus_one)
  where
    re : Expr
    re = ((complex exprs).mul (v0, v1) (v0, v1)).0

    im : Expr
    im = ((complex exprs).mul (v0, v1) (v0, v1)).1

abbrev pub qm31_field : Field qm31
qm31_field = ext_field cm31 cm31_field (two_plus_i m31) two_plus_i_nonsquare

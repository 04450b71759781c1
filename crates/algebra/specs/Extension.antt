-- The extension of a ring by a square root t of r: pairs a + b t with t² = r.
use Rattle.std.specs.Prelude.{List, [], ◌∷◌}
use Rattle.algebra.specs.Ring.{Ops, Laws, sub}
use Rattle.algebra.specs.Polynomial.{Expr, exprs, v0, v1, v2, v3, v4, v5, v6}
use Rattle.algebra.specs.Solver.{solve_pair}

-- (a + b t)(c + d t) = (ac + r bd) + (ad + bc) t
abbrev pub ext : (O : Ops) → O.El → Ops
ext O r = record {
  El = O.El × O.El;
  zero = (O.zero, O.zero);
  one = (O.one, O.zero);
  add = λ p q. (O.add p.0 q.0, O.add p.1 q.1);
  mul = λ p q. (O.add (O.mul p.0 q.0) (O.mul r (O.mul p.1 q.1)), O.add (O.mul p.0 q.1) (O.mul p.1 q.0));
  neg = λ p. (O.neg p.0, O.neg p.1);
}

-- a as a + 0 t
abbrev pub embed : (O : Ops) → O.El → O.El × O.El
embed O a = (a, O.zero)

-- a - b t
abbrev pub conjugate : (O : Ops) → O.El × O.El → O.El × O.El
conjugate O p = (p.0, O.neg p.1)

-- a² - r b²
abbrev pub norm : (O : Ops) → O.El → O.El × O.El → O.El
norm O r p = sub O (O.mul p.0 p.0) (O.mul r (O.mul p.1 p.1))

-- the conjugate over the norm: the inverse, where inv inverts the norm
abbrev pub ext_inverse : (O : Ops) (r : O.El) → (O.El → O.El) → O.El × O.El → O.El × O.El
ext_inverse O r inv p = (O.mul p.0 (inv (norm O r p)), O.neg (O.mul p.1 (inv (norm O r p))))

-- three general elements of the extension of expressions by variable 6
abbrev X : Ops
X = ext exprs v6

abbrev a : Expr × Expr
a = (v0, v1)

abbrev b : Expr × Expr
b = (v2, v3)

abbrev c : Expr × Expr
c = (v4, v5)

module _ (O : Ops) (L : Laws O) (r : O.El) where
  abbrev env : (p q s : O.El × O.El) → List O.El
  env p q s = p.0 ∷ p.1 ∷ q.0 ∷ q.1 ∷ s.0 ∷ s.1 ∷ r ∷ []

  pub ext_laws : Laws (ext O r)
  ext_laws = record {
    add_assoc = λ p q s. solve_pair O L (env p q s) (X.add (X.add a b) c) (X.add a (X.add b c)) (tt, tt);
    add_comm = λ p q. solve_pair O L (env p q p) (X.add a b) (X.add b a) (tt, tt);
    add-zero = λ p. solve_pair O L (env p p p) (X.add a X.zero) a (tt, tt);
    add-neg = λ p. solve_pair O L (env p p p) (X.add a (X.neg a)) X.zero (tt, tt);
    mul_assoc = λ p q s. solve_pair O L (env p q s) (X.mul (X.mul a b) c) (X.mul a (X.mul b c)) (tt, tt);
    mul_comm = λ p q. solve_pair O L (env p q p) (X.mul a b) (X.mul b a) (tt, tt);
    mul-one = λ p. solve_pair O L (env p p p) (X.mul a X.one) a (tt, tt);
    mul-add = λ p q s. solve_pair O L (env p q s) (X.mul a (X.add b c)) (X.add (X.mul a b) (X.mul a c)) (tt, tt);
  }

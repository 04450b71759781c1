-- Maps that keep the operations.
use Prim.Native.Nat.{ℕ, zero, suc}
use Rattle.std.specs.Prelude.{◌≡◌, refl, List, [], ◌∷◌, map}
use Rattle.std.proofs.Common.{◌∙◌, ap₂}
use Rattle.std.proofs.Math.Path.{ap}
use Rattle.algebra.specs.Ring.{Ops, sub}
use Rattle.algebra.specs.Polynomial.{Expr}
use Rattle.algebra.specs.Solver.{nth, value}
use Rattle.algebra.specs.Power.{pow}
use Rattle.algebra.specs.Extension.{ext, norm}

pub record Homomorphism (A B : Ops) (f : A.El → B.El) : Type 0 where
  pub to_zero : f A.zero ≡ B.zero
  pub to_one : f A.one ≡ B.one
  pub to_add : (x y : A.El) → f (A.add x y) ≡ B.add (f x) (f y)
  pub to_mul : (x y : A.El) → f (A.mul x y) ≡ B.mul (f x) (f y)
  pub to_neg : (x : A.El) → f (A.neg x) ≡ B.neg (f x)

-- f on each part of a pair
abbrev pub on_pair : {X Y : Type 0} → (X → Y) → X × X → Y × Y
on_pair f p = (f p.0, f p.1)

module _ (A B : Ops) (f : A.El → B.El) (H : Homomorphism A B f) where
  open H use {to_zero, to_one, to_add, to_mul, to_neg}

  pub to_sub : (x y : A.El) → f (sub A x y) ≡ sub B (f x) (f y)
  to_sub x y = to_add x (A.neg y) ∙ ap (B.add (f x)) (to_neg y)

  pub to_pow : (x : A.El) (n : ℕ) → f (pow A x n) ≡ pow B (f x) n
  unfolding pow
  to_pow x zero = to_one
  to_pow x (suc n) = to_mul x (pow A x n) ∙ ap (B.mul (f x)) (to_pow x n)

  to_nth : (env : List A.El) (i : ℕ) → f (nth A env i) ≡ nth B (map f env) i
  to_nth [] i = to_zero
  to_nth (x ∷ env) zero = refl
  to_nth (x ∷ env) (suc i) = to_nth env i

  -- what an expression stands for
  pub to_value : (env : List A.El) (e : Expr) → f (value A env e) ≡ value B (map f env) e
  to_value env (Expr.var i) = to_nth env i
  to_value env Expr.:0 = to_zero
  to_value env Expr.:1 = to_one
  to_value env (Expr.◌:+◌ d e) = to_add (value A env d) (value A env e) ∙ ap₂ B.add (to_value env d) (to_value env e)
  to_value env (Expr.◌:*◌ d e) = to_mul (value A env d) (value A env e) ∙ ap₂ B.mul (to_value env d) (to_value env e)
  to_value env (Expr.:-◌ e) = to_neg (value A env e) ∙ ap B.neg (to_value env e)

  -- the extensions by a square root of r and of what r maps to
  module _ (r : A.El) (s : B.El) (root : f r ≡ s) where
    to_root_mul : (x y : A.El) → f (A.mul r (A.mul x y)) ≡ B.mul s (B.mul (f x) (f y))
    to_root_mul x y = to_mul r (A.mul x y) ∙ ap₂ B.mul root (to_mul x y)

    pub to_norm : (p : A.El × A.El) → f (norm A r p) ≡ norm B s (on_pair f p)
    to_norm p =
        to_add (A.mul p.0 p.0) (A.neg (A.mul r (A.mul p.1 p.1)))
        ∙ ap₂ B.add (to_mul p.0 p.0) (to_neg (A.mul r (A.mul p.1 p.1)) ∙ ap B.neg (to_root_mul p.1 p.1))

    pub ext_homomorphism : Homomorphism (ext A r) (ext B s) (on_pair f)
    ext_homomorphism = record {
      to_zero = λ i. (to_zero i, to_zero i);
      to_one = λ i. (to_one i, to_zero i);
      to_add = λ x y i. (to_add x.0 y.0 i, to_add x.1 y.1 i);
      to_mul = λ x y i. (to_mul_first x y i, to_mul_second x y i);
      to_neg = λ x i. (to_neg x.0 i, to_neg x.1 i);
    }
      where
        to_mul_first : (x y : A.El × A.El) → f ((ext A r).mul x y).0 ≡ ((ext B s).mul (on_pair f x) (on_pair f y)).0
        to_mul_first x y = to_add (A.mul x.0 y.0) (A.mul r (A.mul x.1 y.1))
            ∙ ap₂ B.add (to_mul x.0 y.0) (to_root_mul x.1 y.1)

        to_mul_second : (x y : A.El × A.El) → f ((ext A r).mul x y).1 ≡ ((ext B s).mul (on_pair f x) (on_pair f y)).1
        to_mul_second x y =
            to_add (A.mul x.0 y.1) (A.mul x.1 y.0) ∙ ap₂ B.add (to_mul x.0 y.1) (to_mul x.1 y.0)

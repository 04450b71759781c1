-- Maps that keep the operations keep the formulas of the circle.
use Prim.Native.Nat.{ℕ, zero, suc}
use Rattle.std.specs.Prelude.{◌≡◌}
use Rattle.std.proofs.Math.Path.{refl, ap}
use Rattle.std.proofs.Common.{◌∙◌, ap₂}
use Rattle.algebra.specs.Ring.{Ops, sub, two}
use Rattle.algebra.specs.Circle.{plus, multiple, squares, double_x}
use Rattle.algebra.specs.Doubling.{iterate, double}
use Rattle.algebra.specs.Homomorphism.{Homomorphism, on_pair, to_sub}

module _ (A B : Ops) (f : A.El → B.El) (H : Homomorphism A B f) where
  open H use {to_zero, to_one, to_add, to_mul}

  pub to_plus : (p q : A.El × A.El) → on_pair f (plus A p q) ≡ plus B (on_pair f p) (on_pair f q)
  to_plus p q = λ i. (
    (to_sub A B f H (A.mul p.0 q.0) (A.mul p.1 q.1) ∙ ap₂ (sub B) (to_mul p.0 q.0) (to_mul p.1 q.1)) i,
    (to_add (A.mul p.0 q.1) (A.mul p.1 q.0) ∙ ap₂ B.add (to_mul p.0 q.1) (to_mul p.1 q.0)) i,
  )

  pub to_multiple : (n : ℕ) (p : A.El × A.El) → on_pair f (multiple A n p) ≡ multiple B n (on_pair f p)
  unfolding multiple
  to_multiple zero p = λ i. (to_one i, to_zero i)
  to_multiple (suc n) p = to_plus p (multiple A n p) ∙ ap (plus B (on_pair f p)) (to_multiple n p)

  pub to_doublings : (n : ℕ) (p : A.El × A.El) → on_pair f (iterate n (double A) p) ≡ iterate n (double B) (on_pair f p)
  unfolding iterate
  to_doublings zero p = refl
  to_doublings (suc n) p = to_doublings n (double A p) ∙ ap (iterate n (double B)) (to_plus p p)

  pub to_squares : (p : A.El × A.El) → f (squares A p) ≡ squares B (on_pair f p)
  to_squares p = to_add (A.mul p.0 p.0) (A.mul p.1 p.1) ∙ ap₂ B.add (to_mul p.0 p.0) (to_mul p.1 p.1)

  pub to_double_x : (x : A.El) → f (double_x A x) ≡ double_x B (f x)
  to_double_x x =
      to_sub A B f H (A.mul (two A) (A.mul x x)) A.one
      ∙ ap₂ (sub B) (to_mul (two A) (A.mul x x) ∙ ap₂ B.mul (to_add A.one A.one ∙ ap₂ B.add to_one to_one) (to_mul x x)) to_one

  pub to_doublings_x : (n : ℕ) (x : A.El) → f (iterate n (double_x A) x) ≡ iterate n (double_x B) (f x)
  unfolding iterate
  to_doublings_x zero x = refl
  to_doublings_x (suc n) x = to_doublings_x n (double_x A x) ∙ ap (iterate n (double_x B)) (to_double_x x)

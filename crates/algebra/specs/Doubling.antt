-- Repeated doubling, of points and of an x alone.
use Prim.Native.Nat.{ℕ, zero, suc, ◌+◌, ◌^◌}
use Rattle.std.specs.Prelude.{◌≡◌, [], ◌∷◌}
use Rattle.std.proofs.Math.Path.{refl, sym, ap}
use Rattle.std.proofs.Common.{◌∙◌}
use Rattle.std.proofs.Math.Nat as N
use Rattle.algebra.specs.Ring.{Ops, Laws}
use Rattle.algebra.specs.Polynomial.{Expr, ◌:+◌, ◌:*◌, :-◌, exprs, given, v0, v1}
use Rattle.algebra.specs.Solver.{solve_from}
use Rattle.algebra.specs.Field.{Field}
use Rattle.algebra.specs.Field as F
use Rattle.algebra.specs.Circle.{plus, zero_point, multiple, squares, OnCircle, double_x}
use Rattle.algebra.specs.Circle.{multiple-one, multiple-two, multiple-mul, on_plus, plus_self_x}

-- f applied n times
unfoldable pub iterate : {A : Type 0} → ℕ → (A → A) → A → A
iterate zero f a = a
iterate (suc n) f a = iterate n f (f a)

-- p + p
abbrev pub double : (O : Ops) → O.El × O.El → O.El × O.El
double O p = plus O p p

pub iterate-suc : {A : Type 0} (n : ℕ) (f : A → A) (a : A) → iterate (suc n) f a ≡ f (iterate n f a)
unfolding iterate
iterate-suc zero f a = refl
iterate-suc (suc n) f a = iterate-suc n f (f a)

pub iterate-add : {A : Type 0} (m n : ℕ) (f : A → A) (a : A) → iterate (m + n) f a ≡ iterate n f (iterate m f a)
unfolding iterate
iterate-add zero n f a = ap (λ (t : ℕ). iterate t f a) (N.zero-add n)
iterate-add (suc m) n f a = ap (λ (t : ℕ). iterate t f a) (N.suc-add m n) ∙ iterate-add m n f (f a)

module _ (O : Ops) (L : Laws O) where
  -- n doublings add p 2^n times
  pub doublings_multiple : (n : ℕ) (p : O.El × O.El) → iterate n (double O) p ≡ multiple O (2 ^ n) p
  unfolding iterate
  doublings_multiple zero p = sym (multiple-one O L p)
  doublings_multiple (suc n) p =
      doublings_multiple n (double O p) ∙ ap (multiple O (2 ^ n)) (sym (multiple-two O L p)) ∙ sym (multiple-mul O L (2 ^ n) 2 p)
      ∙ ap (λ t. multiple O t p) (sym (N.pow-suc 2 n))

  pub on_doublings : (n : ℕ) (p : O.El × O.El) → OnCircle O p → OnCircle O (iterate n (double O) p)
  unfolding iterate
  on_doublings zero p h = h
  on_doublings (suc n) p h = on_doublings n (double O p) (on_plus O L p p h h)

  -- on the circle the x of the doubled points needs no y
  pub doublings_x : (n : ℕ) (p : O.El × O.El) → OnCircle O p → (iterate n (double O) p).0 ≡ iterate n (double_x O) p.0
  unfolding iterate
  doublings_x zero p h = refl
  doublings_x (suc n) p h = doublings_x n (double O p) (on_plus O L p p h h) ∙ ap (iterate n (double_x O)) (plus_self_x O L p h)

-- on the circle over a field only zero has x = 1
pub zero_by_x : (O : Ops) → Field O → (p : O.El × O.El) → OnCircle O p → p.0 ≡ O.one → p ≡ zero_point O
zero_by_x O K p h e = λ i. (e i, y_is_zero i)
  where
    y_is_zero : p.1 ≡ O.zero
    y_is_zero =
        F.square_zero O K p.1
        (solve_from O K.laws (p.0 ∷ p.1 ∷ [])
        (given Expr.:1 (squares exprs (v0, v1)) Expr.:1 ∷ given (:- (v0 :+ Expr.:1)) v0 Expr.:1 ∷ []) (h, (e, tt)) (v1 :* v1) Expr.:0 tt)

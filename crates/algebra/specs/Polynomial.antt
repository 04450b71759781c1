-- Expressions over variables 0, 1, .., and sums of monomials to which the solver brings them.
use Prim.Native.Nat.{ℕ, ◌+◌, ◌*◌, compare, Ordering}
use Rattle.std.specs.Prelude.{Bool, true, false, List, [], ◌∷◌, eqb}
use Rattle.algebra.specs.Ring.{Ops}

pub data Expr : Type 0 where
  var : ℕ → Expr
  :0 : Expr
  :1 : Expr
  ◌:+◌ : Expr → Expr → Expr
  ◌:*◌ : Expr → Expr → Expr
  :-◌ : Expr → Expr

infixl 65 ◌:+◌
infixl 70 ◌:*◌
infix 80 :-◌
-- expressions as operations, so that a formula written over any Ops is an expression too
abbrev pub exprs : Ops
exprs = record { El = Expr; zero = Expr.:0; one = Expr.:1; add = Expr.◌:+◌; mul = Expr.◌:*◌; neg = Expr.:-◌ }

abbrev pub v0 : Expr
v0 = Expr.var 0

abbrev pub v1 : Expr
v1 = Expr.var 1

abbrev pub v2 : Expr
v2 = Expr.var 2

abbrev pub v3 : Expr
v3 = Expr.var 3

abbrev pub v4 : Expr
v4 = Expr.var 4

abbrev pub v5 : Expr
v5 = Expr.var 5

abbrev pub v6 : Expr
v6 = Expr.var 6

-- `term a b m` is (a - b) times the product of the variables listed in m
pub data Poly : Type 0 where
  nil : Poly
  term : ℕ → ℕ → List ℕ → Poly → Poly

abbrev pub compare_vars : List ℕ → List ℕ → Ordering
compare_vars [] [] = Ordering.eq
compare_vars [] (y ∷ ys) = Ordering.lt
compare_vars (x ∷ xs) [] = Ordering.gt
compare_vars (x ∷ xs) (y ∷ ys) =
    elim (compare x y) [ Ordering.lt ↦ Ordering.lt | Ordering.eq ↦ compare_vars xs ys | Ordering.gt ↦ Ordering.gt ]

-- the rest is a function, so that it is computed in one case only
abbrev pub place_var : Ordering → ℕ → ℕ → List ℕ → (Unit {0} → List ℕ) → List ℕ
place_var Ordering.lt v w m rest = v ∷ w ∷ m
place_var Ordering.eq v w m rest = v ∷ w ∷ m
place_var Ordering.gt v w m rest = w ∷ rest tt

abbrev pub insert_var : ℕ → List ℕ → List ℕ
insert_var v [] = v ∷ []
insert_var v (w ∷ m) = place_var (compare v w) v w m (λ _. insert_var v m)

abbrev pub mul_vars : List ℕ → List ℕ → List ℕ
mul_vars [] n = n
mul_vars (v ∷ m) n = insert_var v (mul_vars m n)

abbrev pub place_term : Ordering → ℕ → ℕ → List ℕ → ℕ → ℕ → List ℕ → Poly → (Unit {0} → Poly) → Poly
place_term Ordering.lt a b m c d n p rest = term a b m (term c d n p)
place_term Ordering.eq a b m c d n p rest = term (a + c) (b + d) n p
place_term Ordering.gt a b m c d n p rest = term c d n (rest tt)

abbrev pub insert_term : ℕ → ℕ → List ℕ → Poly → Poly
insert_term a b m nil = term a b m nil
insert_term a b m (term c d n p) = place_term (compare_vars m n) a b m c d n p (λ _. insert_term a b m p)

abbrev pub add_poly : Poly → Poly → Poly
add_poly nil q = q
add_poly (term a b m p) q = insert_term a b m (add_poly p q)

abbrev pub mul_term : ℕ → ℕ → List ℕ → Poly → Poly
mul_term a b m nil = nil
mul_term a b m (term c d n p) = insert_term (a * c + b * d) (a * d + b * c) (mul_vars m n) (mul_term a b m p)

abbrev pub mul_poly : Poly → Poly → Poly
mul_poly nil q = nil
mul_poly (term a b m p) q = add_poly (mul_term a b m q) (mul_poly p q)

abbrev pub neg_poly : Poly → Poly
neg_poly nil = nil
neg_poly (term a b m p) = term b a m (neg_poly p)

abbrev pub normal : Expr → Poly
normal (Expr.var i) = term 1 0 (i ∷ []) nil
normal Expr.:0 = nil
normal Expr.:1 = term 1 0 [] nil
normal (Expr.◌:+◌ e f) = add_poly (normal e) (normal f)
normal (Expr.◌:*◌ e f) = mul_poly (normal e) (normal f)
normal (Expr.:-◌ e) = neg_poly (normal e)

abbrev pub is_zero : Poly → Bool
is_zero nil = true
is_zero (term a b m p) = elim (eqb a b) [ true ↦ is_zero p | false ↦ false ]

-- every coefficient of e - f cancels
abbrev pub equal : Expr → Expr → Bool
equal e f = is_zero (normal (e :+ :- f))

-- an equation c = d that is given, and the multiple q of c - d that is used
pub data Given : Type 0 where
  given : Expr → Expr → Expr → Given

-- the sum of these multiples
abbrev pub combined : List Given → Expr
combined [] = Expr.:0
combined (given q c d ∷ hs) = q :* (c :+ :- d) :+ combined hs

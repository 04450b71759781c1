-- Equations of a commutative ring by computation: `solve O L (x ∷ y ∷ []) lhs rhs tt`.
use Prim.Native.Nat.{ℕ, zero, suc, ◌+◌, ◌*◌, compare, Ordering}
use Rattle.std.specs.Prelude.{◌≡◌, refl, Bool, true, false, List, [], ◌∷◌, T, eqb}
use Rattle.std.proofs.Math.Path.{sym, ap, ap₂}
use Rattle.std.proofs.Common.{◌∙◌, eqb→eq}
use Rattle.std.proofs.Math.Nat as N
use Rattle.std.proofs.Math.Dec.{compare_is_eq}
use Rattle.algebra.specs.Ring.{Ops, Laws}
use Rattle.algebra.specs.Ring as R
use Rattle.algebra.specs.Polynomial.{Expr, ◌:+◌, :-◌, Poly, nil, term, compare_vars, place_var, insert_var, mul_vars, place_term}
use Rattle.algebra.specs.Polynomial.{insert_term, add_poly, mul_term, mul_poly, neg_poly, normal, is_zero, equal, Given, given, combined}

-- what an expression, a monomial and a sum of monomials stand for
module _ (O : Ops) where
  open O use {El, zero as 𝟘, one as 𝟙, add as ◌⊕◌, mul as ◌⊗◌, neg as ⊖◌}

  infixl 65 ◌⊕◌
  infixl 70 ◌⊗◌
  infix 80 ⊖◌
  -- a number as an element
  unfoldable nat : ℕ → El
  nat zero = 𝟘
  nat (suc n) = nat n ⊕ 𝟙

  abbrev pub nth : List El → ℕ → El
  nth [] i = 𝟘
  nth (x ∷ env) zero = x
  nth (x ∷ env) (suc i) = nth env i

  abbrev pub value : List El → Expr → El
  value env (Expr.var i) = nth env i
  value env Expr.:0 = 𝟘
  value env Expr.:1 = 𝟙
  value env (Expr.◌:+◌ e f) = value env e ⊕ value env f
  value env (Expr.◌:*◌ e f) = value env e ⊗ value env f
  value env (Expr.:-◌ e) = ⊖ value env e

  abbrev coefficient : ℕ → ℕ → El
  coefficient a b = nat a ⊕ ⊖ nat b

  abbrev monomial : List El → List ℕ → El
  monomial env [] = 𝟙
  monomial env (v ∷ m) = nth env v ⊗ monomial env m

  abbrev sum : List El → Poly → El
  sum env nil = 𝟘
  sum env (term a b m p) = coefficient a b ⊗ monomial env m ⊕ sum env p

compare_vars-eq : (m n : List ℕ) → T (compare_is_eq (compare_vars m n)) → m ≡ n
compare_vars-eq [] [] t = refl
compare_vars-eq [] (y ∷ ys) t = absurd t
compare_vars-eq (x ∷ xs) [] t = absurd t
compare_vars-eq (x ∷ xs) (y ∷ ys) t = go (compare x y) (λ u. eqb→eq x y u) (compare_vars-eq xs ys) t
  where
    go : (o : Ordering) → (T (compare_is_eq o) → x ≡ y) → (T (compare_is_eq (compare_vars xs ys)) → xs ≡ ys)
        → T (compare_is_eq (elim o [ Ordering.lt ↦ Ordering.lt | Ordering.eq ↦ compare_vars xs ys | Ordering.gt ↦ Ordering.gt ])) → x ∷ xs ≡ y ∷ ys
    go Ordering.lt f g u = absurd u
    go Ordering.eq f g u = ap₂ ◌∷◌ (f tt) (g u)
    go Ordering.gt f g u = absurd u

module _ (O : Ops) (L : Laws O) where
  open O use {El, zero as 𝟘, one as 𝟙, add as ◌⊕◌, mul as ◌⊗◌, neg as ⊖◌}
  open L use {add_assoc, add_comm, add-zero, add-neg, mul_assoc, mul_comm, mul-one, mul-add}

  infixl 65 ◌⊕◌
  infixl 70 ◌⊗◌
  infix 80 ⊖◌
  nat-add : (a b : ℕ) → nat O (a + b) ≡ nat O a ⊕ nat O b
  unfolding nat
  nat-add a zero = ap (nat O) (N.add-zero a) ∙ sym (add-zero (nat O a))
  nat-add a (suc b) = ap (nat O) (N.add-suc a b) ∙ ap (λ t. t ⊕ 𝟙) (nat-add a b) ∙ add_assoc (nat O a) (nat O b) 𝟙

  nat-mul : (a b : ℕ) → nat O (a * b) ≡ nat O a ⊗ nat O b
  unfolding nat
  nat-mul a zero = ap (nat O) (N.mul-zero a) ∙ sym (R.mul-zero O L (nat O a))
  nat-mul a (suc b) =
      ap (nat O) (N.mul-suc a b) ∙ nat-add (a * b) a ∙ ap₂ ◌⊕◌ (nat-mul a b) (sym (mul-one (nat O a)))
      ∙ sym (mul-add (nat O a) (nat O b) 𝟙)

  coefficient-add : (a b c d : ℕ) → coefficient O (a + c) (b + d) ≡ coefficient O a b ⊕ coefficient O c d
  coefficient-add a b c d =
      ap₂ (λ x y. x ⊕ ⊖ y) (nat-add a c) (nat-add b d) ∙ ap (◌⊕◌ (nat O a ⊕ nat O c)) (R.neg-add O L (nat O b) (nat O d))
      ∙ R.add_swap O L (nat O a) (nat O c) (⊖ nat O b) (⊖ nat O d)

  coefficient-neg : (a b : ℕ) → coefficient O b a ≡ ⊖ coefficient O a b
  coefficient-neg a b =
      add_comm (nat O b) (⊖ nat O a) ∙ ap (◌⊕◌ (⊖ nat O a)) (sym (R.neg-neg O L (nat O b)))
      ∙ sym (R.neg-add O L (nat O a) (⊖ nat O b))

  -- (a - b)(c - d) by the four products
  four_products : (a b c d : El) → a ⊗ c ⊕ b ⊗ d ⊕ ⊖ (a ⊗ d ⊕ b ⊗ c) ≡ (a ⊕ ⊖ b) ⊗ (c ⊕ ⊖ d)
  four_products a b c d =
      ap (◌⊕◌ (a ⊗ c ⊕ b ⊗ d)) (R.neg-add O L (a ⊗ d) (b ⊗ c))
      ∙ R.add_swap O L (a ⊗ c) (b ⊗ d) (⊖ (a ⊗ d)) (⊖ (b ⊗ c))
      ∙ ap₂ ◌⊕◌ (ap (◌⊕◌ (a ⊗ c)) (sym (R.mul-neg O L a d)))
      (add_comm (b ⊗ d) (⊖ (b ⊗ c))
      ∙ ap₂ ◌⊕◌ (sym (R.neg-mul O L b c)) (sym (R.neg-neg O L (b ⊗ d)) ∙ ap ⊖◌ (sym (R.neg-mul O L b d)) ∙ sym (R.mul-neg O L (⊖ b) d)))
      ∙ sym (ap₂ ◌⊕◌ (mul-add a c (⊖ d)) (mul-add (⊖ b) c (⊖ d)))
      ∙ sym (R.add-mul O L a (⊖ b) (c ⊕ ⊖ d))

  coefficient-mul : (a b c d : ℕ) → coefficient O (a * c + b * d) (a * d + b * c) ≡ coefficient O a b ⊗ coefficient O c d
  coefficient-mul a b c d =
      ap₂ (λ x y. x ⊕ ⊖ y)
      (nat-add (a * c) (b * d) ∙ ap₂ ◌⊕◌ (nat-mul a c) (nat-mul b d))
      (nat-add (a * d) (b * c) ∙ ap₂ ◌⊕◌ (nat-mul a d) (nat-mul b c))
      ∙ four_products (nat O a) (nat O b) (nat O c) (nat O d)

  module _ (env : List El) where
    abbrev mono : List ℕ → El
    mono m = monomial O env m

    abbrev term_of : ℕ → ℕ → List ℕ → El
    term_of a b m = coefficient O a b ⊗ mono m

    place_var_ok : (o : Ordering) (v w : ℕ) (m : List ℕ) (rest : Unit {0} → List ℕ) → mono (rest tt) ≡ nth O env v ⊗ mono m
        → mono (place_var o v w m rest) ≡ nth O env v ⊗ (nth O env w ⊗ mono m)
    place_var_ok Ordering.lt v w m rest h = refl
    place_var_ok Ordering.eq v w m rest h = refl
    place_var_ok Ordering.gt v w m rest h = ap (◌⊗◌ (nth O env w)) h ∙ R.mul_left_comm O L (nth O env w) (nth O env v) (mono m)

    insert_var_ok : (v : ℕ) (m : List ℕ) → mono (insert_var v m) ≡ nth O env v ⊗ mono m
    insert_var_ok v [] = refl
    insert_var_ok v (w ∷ m) = place_var_ok (compare v w) v w m (λ _. insert_var v m) (insert_var_ok v m)

    mul_vars_ok : (m n : List ℕ) → mono (mul_vars m n) ≡ mono m ⊗ mono n
    mul_vars_ok [] n = sym (R.one-mul O L (mono n))
    mul_vars_ok (v ∷ m) n =
        insert_var_ok v (mul_vars m n) ∙ ap (◌⊗◌ (nth O env v)) (mul_vars_ok m n) ∙ sym (mul_assoc (nth O env v) (mono m) (mono n))

    place_term_ok : (o : Ordering) (a b : ℕ) (m : List ℕ) (c d : ℕ) (n : List ℕ) (p : Poly) (rest : Unit {0} → Poly)
        → (T (compare_is_eq o) → m ≡ n) → sum O env (rest tt) ≡ term_of a b m ⊕ sum O env p
        → sum O env (place_term o a b m c d n p rest) ≡ term_of a b m ⊕ (term_of c d n ⊕ sum O env p)
    place_term_ok Ordering.lt a b m c d n p rest e h = refl
    place_term_ok Ordering.eq a b m c d n p rest e h =
        ap (λ t. t ⊕ sum O env p)
        (ap (λ t. t ⊗ mono n) (coefficient-add a b c d) ∙ R.add-mul O L (coefficient O a b) (coefficient O c d) (mono n))
        ∙ add_assoc (term_of a b n) (term_of c d n) (sum O env p)
        ∙ ap (λ t. term_of a b t ⊕ (term_of c d n ⊕ sum O env p)) (sym (e tt))
    place_term_ok Ordering.gt a b m c d n p rest e h =
        ap (◌⊕◌ (term_of c d n)) h ∙ R.add_left_comm O L (term_of c d n) (term_of a b m) (sum O env p)

    insert_term_ok : (a b : ℕ) (m : List ℕ) (p : Poly) → sum O env (insert_term a b m p) ≡ term_of a b m ⊕ sum O env p
    insert_term_ok a b m nil = refl
    insert_term_ok a b m (term c d n p) =
        place_term_ok (compare_vars m n) a b m c d n p (λ _. insert_term a b m p) (compare_vars-eq m n) (insert_term_ok a b m p)

    add_poly_ok : (p q : Poly) → sum O env (add_poly p q) ≡ sum O env p ⊕ sum O env q
    add_poly_ok nil q = sym (R.zero-add O L (sum O env q))
    add_poly_ok (term a b m p) q =
        insert_term_ok a b m (add_poly p q) ∙ ap (◌⊕◌ (term_of a b m)) (add_poly_ok p q)
        ∙ sym (add_assoc (term_of a b m) (sum O env p) (sum O env q))

    mul_term_ok : (a b : ℕ) (m : List ℕ) (p : Poly) → sum O env (mul_term a b m p) ≡ term_of a b m ⊗ sum O env p
    mul_term_ok a b m nil = sym (R.mul-zero O L (term_of a b m))
    mul_term_ok a b m (term c d n p) =
        insert_term_ok (a * c + b * d) (a * d + b * c) (mul_vars m n) (mul_term a b m p)
        ∙ ap₂ ◌⊕◌
        (ap₂ ◌⊗◌ (coefficient-mul a b c d) (mul_vars_ok m n) ∙ R.mul_swap O L (coefficient O a b) (coefficient O c d) (mono m) (mono n))
        (mul_term_ok a b m p)
        ∙ sym (mul-add (term_of a b m) (term_of c d n) (sum O env p))

    mul_poly_ok : (p q : Poly) → sum O env (mul_poly p q) ≡ sum O env p ⊗ sum O env q
    mul_poly_ok nil q = sym (R.zero-mul O L (sum O env q))
    mul_poly_ok (term a b m p) q =
        add_poly_ok (mul_term a b m q) (mul_poly p q) ∙ ap₂ ◌⊕◌ (mul_term_ok a b m q) (mul_poly_ok p q)
        ∙ sym (R.add-mul O L (term_of a b m) (sum O env p) (sum O env q))

    neg_poly_ok : (p : Poly) → sum O env (neg_poly p) ≡ ⊖ sum O env p
    neg_poly_ok nil = sym (R.neg-zero O L)
    neg_poly_ok (term a b m p) =
        ap₂ ◌⊕◌ (ap (λ t. t ⊗ mono m) (coefficient-neg a b) ∙ R.neg-mul O L (coefficient O a b) (mono m)) (neg_poly_ok p)
        ∙ sym (R.neg-add O L (term_of a b m) (sum O env p))

    one_ok : coefficient O 1 0 ≡ 𝟙
    unfolding nat
    one_ok = ap₂ ◌⊕◌ (R.zero-add O L 𝟙) (R.neg-zero O L) ∙ add-zero 𝟙

    normal_ok : (e : Expr) → sum O env (normal e) ≡ value O env e
    normal_ok (Expr.var i) =
        add-zero (coefficient O 1 0 ⊗ (nth O env i ⊗ 𝟙)) ∙ ap₂ ◌⊗◌ one_ok (mul-one (nth O env i)) ∙ R.one-mul O L (nth O env i)
    normal_ok Expr.:0 = refl
    normal_ok Expr.:1 = add-zero (coefficient O 1 0 ⊗ 𝟙) ∙ mul-one (coefficient O 1 0) ∙ one_ok
    normal_ok (Expr.◌:+◌ e f) = add_poly_ok (normal e) (normal f) ∙ ap₂ ◌⊕◌ (normal_ok e) (normal_ok f)
    normal_ok (Expr.◌:*◌ e f) = mul_poly_ok (normal e) (normal f) ∙ ap₂ ◌⊗◌ (normal_ok e) (normal_ok f)
    normal_ok (Expr.:-◌ e) = neg_poly_ok (normal e) ∙ ap ⊖◌ (normal_ok e)

    is_zero_ok : (p : Poly) → T (is_zero p) → sum O env p ≡ 𝟘
    is_zero_ok nil t = refl
    is_zero_ok (term a b m p) t = go (eqb a b) (eqb→eq a b) (is_zero_ok p) t
      where
        go : (c : Bool) → (T c → a ≡ b) → (T (is_zero p) → sum O env p ≡ 𝟘) → T (elim c [ true ↦ is_zero p | false ↦ false ])
            → term_of a b m ⊕ sum O env p ≡ 𝟘
        go true e h u =
            ap₂ ◌⊕◌
            (ap (λ t. coefficient O t b ⊗ mono m) (e tt) ∙ ap (λ t. t ⊗ mono m) (add-neg (nat O b)) ∙ R.zero-mul O L (mono m))
            (h u)
            ∙ add-zero 𝟘
        go false e h u = absurd u

    pub solve : (e f : Expr) → T (equal e f) → value O env e ≡ value O env f
    solve e f t =
        R.equal_of_sub_zero O L (value O env e) (value O env f) (sym (normal_ok (e :+ :- f)) ∙ is_zero_ok (normal (e :+ :- f)) t)

    -- equations of pairs
    abbrev pub value_pair : Expr × Expr → El × El
    value_pair e = (value O env e.0, value O env e.1)

    pub solve_pair : (e f : Expr × Expr) → T (equal e.0 f.0) × T (equal e.1 f.1) → value_pair e ≡ value_pair f
    solve_pair e f t = λ i. (solve e.0 f.0 t.0 i, solve e.1 f.1 t.1 i)

    abbrev pub GivenHold : List Given → Type 0
    GivenHold [] = Unit {0}
    GivenHold (given q c d ∷ hs) = (value O env c ≡ value O env d) × GivenHold hs

    combined-zero : (hs : List Given) → GivenHold hs → value O env (combined hs) ≡ 𝟘
    combined-zero [] h = refl
    combined-zero (given q c d ∷ hs) h =
        ap₂ ◌⊕◌
        (ap (◌⊗◌ (value O env q)) (ap (λ t. t ⊕ ⊖ value O env d) h.0 ∙ add-neg (value O env d)) ∙ R.mul-zero O L (value O env q))
        (combined-zero hs h.1)
        ∙ add-zero 𝟘

    -- an equation that follows from given ones
    pub solve_from : (hs : List Given) → GivenHold hs → (e f : Expr) → T (equal e (f :+ combined hs)) → value O env e ≡ value O env f
    solve_from hs h e f t = solve e (f :+ combined hs) t ∙ ap (◌⊕◌ (value O env f)) (combined-zero hs h) ∙ add-zero (value O env f)

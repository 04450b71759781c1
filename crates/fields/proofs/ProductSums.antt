-- Sums of products that are reduced once.
use Rattle.std.proofs.Common.{◌≡◌, ℕ, ◌+◌, ◌-◌, ◌*◌, ◌%◌, ◌<◌, ◌≤◌, T, List, [], ◌∷◌, map, sym, refl, ap, ◌∙◌, ap₂, arith}
use native.Mathlib.Nat as N
use Rattle.algebra.specs.Ring.{neg_unique}
use Rattle.algebra.specs.Polynomial.{Expr, ◌:+◌, ◌:*◌, :-◌, exprs, equal, v0, v1, v2, v3, v4, v5, v6}
use Rattle.algebra.specs.Solver.{value, solve}
use Rattle.algebra.specs.ZMod.{Z, residue-mod, residue-add, residue-mul}
use Rattle.algebra.specs.M31.{P, P_pos, m31, m31_laws, element}
use Rattle.algebra.specs.Tower.{complex, two_plus_i}
use Rattle.algebra.specs.Homomorphism.{to_value}
use Rattle.fields.specs.Words.{add_p, words31, complex_words}
use Rattle.fields.specs.Elements.{element_homomorphism, element_injective}
use Rattle.fields.specs.PairLaws.{pair_path}

-- a number is, modulo P, the words' expression that it equals in the field
mod_P_is_value : (env : List ℕ) (e f : Expr) (n : ℕ) → element n ≡ value m31 (map element env) e → value words31 env f < P → T (equal e f)
    → n % P ≡ value words31 env f
mod_P_is_value env e f n h l t =
    element_injective (n % P) (value words31 env f) (N.mod-lt n P_pos) l
    (residue-mod P P_pos n ∙ h ∙ solve m31 m31_laws (map element env) e f t ∙ sym (to_value words31 m31 element element_homomorphism env f))

element_add : (x y : ℕ) {s t : Z P} → element x ≡ s → element y ≡ t → element (x + y) ≡ m31.add s t
element_add x y e f = residue-add P P_pos x y ∙ ap₂ m31.add e f

element_mul : (x a b : ℕ) → x ≡ a * b → element x ≡ m31.mul (element a) (element b)
element_mul x a b e = ap element e ∙ residue-mul P P_pos a b

element_double : (x : ℕ) {s : Z P} → element x ≡ s → element (2 * x) ≡ m31.add s s
element_double x e = ap element (N.two-mul x) ∙ element_add x x e e

-- k P less z
element_minus : (k z : ℕ) {s : Z P} → z ≤ k * P → element z ≡ s → element (k * P - z) ≡ m31.neg s
element_minus k z {s} l f =
    neg_unique m31 m31_laws s (element (k * P - z)) (ap (λ t. m31.add t (element (k * P - z))) (sym f) ∙ adds_to_zero)
  where
    zero-mod : k * P % P ≡ 0
    zero-mod = omega arith

    adds_to_zero : m31.add (element z) (element (k * P - z)) ≡ m31.zero
    adds_to_zero = sym (residue-add P P_pos z (k * P - z)) ∙ ap element (N.add-sub_of_le l) ∙ sym (residue-mod P P_pos (k * P))
        ∙ ap element zero-mod

below : (x y : ℕ) → add_p x y < P
below x y = N.mod-lt (x + y) P_pos

-- (a + bi)(c + di)
abbrev by_complex : Expr × Expr
by_complex = (complex exprs).mul (v0, v1) (v2, v3)

pub complex-product : (a b : ℕ × ℕ) {ac bd ad bc re im : ℕ} → ac ≡ a.0 * b.0 → bd ≡ a.1 * b.1 → ad ≡ a.0 * b.1
    → bc ≡ a.1 * b.0 → bd < P * P
    → re ≡ (ac + (P * P - bd)) % P → im ≡ (ad + bc) % P → (re, im) ≡ complex_words.mul a b
complex-product a b {ac} {bd} {ad} {bc} e f g h l k m =
    pair_path
    (k ∙ mod_P_is_value (a.0 ∷ a.1 ∷ b.0 ∷ b.1 ∷ []) (v0 :* v2 :+ :- (v1 :* v3)) by_complex.0 (ac + (P * P - bd))
    (element_add ac (P * P - bd) (element_mul ac a.0 b.0 e) (element_minus P bd (omega arith) (element_mul bd a.1 b.1 f)))
    (below _ _) tt)
    (m ∙ mod_P_is_value (a.0 ∷ a.1 ∷ b.0 ∷ b.1 ∷ []) (v0 :* v3 :+ v1 :* v2) by_complex.1 (ad + bc)
    (element_add ad bc (element_mul ad a.0 b.1 g) (element_mul bc a.1 b.0 h)) (below _ _) tt)

abbrev v7 : Expr
v7 = Expr.var 7

-- with bd = (b + ..)(d + ..) as four more words
abbrev bd_expr : Expr × Expr
bd_expr = (complex exprs).mul (v2, v3) (v6, v7)

abbrev first_expr : Expr × Expr
first_expr = (complex exprs).add ((complex exprs).mul (v0, v1) (v4, v5)) ((complex exprs).mul (two_plus_i exprs) bd_expr)

abbrev second_expr : Expr × Expr
second_expr = (complex exprs).add ((complex exprs).mul (v0, v1) (v6, v7)) ((complex exprs).mul (v2, v3) (v4, v5))

module _ (a b c d : ℕ × ℕ) where
  abbrev env : List ℕ
  env = a.0 ∷ a.1 ∷ b.0 ∷ b.1 ∷ c.0 ∷ c.1 ∷ d.0 ∷ d.1 ∷ []

  -- ac + (2 + i) bd
  pub first_part : {x y plus less left right re im : ℕ} → (x, y) ≡ complex_words.mul b d → plus ≡ a.0 * c.0 → less ≡ a.1 * c.1
      → left ≡ a.0 * c.1 → right ≡ a.1 * c.0
      → less < P * P → y < P → re ≡ (plus + (P * P - less) + 2 * x + (P - y)) % P → im ≡ (left + right + x + 2 * y) % P
      → (re, im) ≡ complex_words.add (complex_words.mul a c) (complex_words.mul (two_plus_i words31) (complex_words.mul b d))
  first_part {x} {y} {plus} {less} {left} {right} q e f g h l m j k =
      pair_path
      (j ∙ mod_P_is_value env (v0 :* v4 :+ :- (v1 :* v5) :+ (bd_expr.0 :+ bd_expr.0) :+ :- bd_expr.1) first_expr.0
      (plus + (P * P - less) + 2 * x + (P - y))
      (element_add (plus + (P * P - less) + 2 * x) (P - y)
      (element_add (plus + (P * P - less)) (2 * x) (element_add plus (P * P - less) (element_mul plus a.0 c.0 e)
      (element_minus P less (omega arith) (element_mul less a.1 c.1 f))) (element_double x x_is))
      (ap element one_less ∙ element_minus 1 y (omega arith) y_is))
      (below _ _) tt)
      (k ∙ mod_P_is_value env (v0 :* v5 :+ v1 :* v4 :+ bd_expr.0 :+ (bd_expr.1 :+ bd_expr.1)) first_expr.1 (left + right + x + 2 * y)
      (element_add (left + right + x) (2 * y) (element_add (left + right) x
      (element_add left right (element_mul left a.0 c.1 g) (element_mul right a.1 c.0 h)) x_is) (element_double y y_is))
      (below _ _) tt)
    where
      one_less : P - y ≡ 1 * P - y
      one_less = refl

      x_is : element x ≡ value m31 (map element env) bd_expr.0
      x_is = ap (λ p. element p.0) q ∙ to_value words31 m31 element element_homomorphism env bd_expr.0

      y_is : element y ≡ value m31 (map element env) bd_expr.1
      y_is = ap (λ p. element p.1) q ∙ to_value words31 m31 element element_homomorphism env bd_expr.1

  -- ad + bc
  pub second_part : {p₁ p₂ m₁ m₂ l₁ l₂ r₁ r₂ re im : ℕ} → p₁ ≡ a.0 * d.0 → p₂ ≡ b.0 * c.0 → m₁ ≡ a.1 * d.1 → m₂ ≡ b.1 * c.1
      → l₁ ≡ a.0 * d.1 → l₂ ≡ a.1 * d.0 → r₁ ≡ b.0 * c.1 → r₂ ≡ b.1 * c.0 → m₁ < P * P → m₂ < P * P
      → re ≡ (p₁ + p₂ + (2 * (P * P) - (m₁ + m₂))) % P → im ≡ (l₁ + l₂ + (r₁ + r₂)) % P
      → (re, im) ≡ complex_words.add (complex_words.mul a d) (complex_words.mul b c)
  second_part {p₁} {p₂} {m₁} {m₂} {l₁} {l₂} {r₁} {r₂} e f g h k l m n u v j i =
      pair_path
      (j ∙ mod_P_is_value env (v0 :* v6 :+ v2 :* v4 :+ :- (v1 :* v7 :+ v3 :* v5)) second_expr.0 (p₁ + p₂ + (2 * (P * P) - (m₁ + m₂)))
      (element_add (p₁ + p₂) (2 * (P * P) - (m₁ + m₂)) (element_add p₁ p₂ (element_mul p₁ a.0 d.0 e) (element_mul p₂ b.0 c.0 f))
      (element_minus (2 * P) (m₁ + m₂) (omega arith) (element_add m₁ m₂ (element_mul m₁ a.1 d.1 g) (element_mul m₂ b.1 c.1 h))))
      (below _ _) tt)
      (i ∙ mod_P_is_value env (v0 :* v7 :+ v1 :* v6 :+ (v2 :* v5 :+ v3 :* v4)) second_expr.1 (l₁ + l₂ + (r₁ + r₂))
      (element_add (l₁ + l₂) (r₁ + r₂) (element_add l₁ l₂ (element_mul l₁ a.0 d.1 k) (element_mul l₂ a.1 d.0 l))
      (element_add r₁ r₂ (element_mul r₁ b.0 c.1 m) (element_mul r₂ b.1 c.0 n))) (below _ _) tt)

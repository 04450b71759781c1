-- The pair formulas as the code computes them.
use Rattle.std.specs.Prelude.{◌≡◌, ℕ, ◌<◌, [], ◌∷◌}
use Rattle.std.proofs.Common.{◌∙◌, ap, ap₂}
use Rattle.algebra.specs.Polynomial.{Expr, ◌:+◌, :-◌, exprs, v0, v1}
use Rattle.algebra.specs.Ring.{Ops, sub}
use Rattle.algebra.specs.Extension.{ext_inverse}
use Rattle.algebra.specs.Tower.{complex, two_plus_i}
use Rattle.algebra.specs.M31.{P, m31}
use Rattle.fields.specs.Words.{add_p, sub_p, neg_p, mul_p, inv_p, words31, complex_words, complex_inverse}
use Rattle.fields.specs.Representation as R
use Rattle.fields.specs.Inverse.{m31_representation}

pub pair_path : {A B : Type 0} {a c : A} {b d : B} → a ≡ c → b ≡ d → ◌≡◌ {A = A × B} (a, b) (c, d)
pair_path e f = λ i. (e i, f i)

pub four_path : {A : Type 0} {a a' b b' c c' d d' : A} → a ≡ a' → b ≡ b' → c ≡ c' → d ≡ d'
    → ◌≡◌ {A = (A × A) × (A × A)} ((a, b), (c, d)) ((a', b'), (c', d'))
four_path e f g h = pair_path (pair_path e f) (pair_path g h)

-- the inverse of an extension, part by part
module _ (O : Ops) (r : O.El) where
  pub ext_inverse_lem : (inv : O.El → O.El) (a : O.El × O.El) {square bb rest norm over first negated second : O.El}
      → square ≡ O.mul a.0 a.0 → bb ≡ O.mul a.1 a.1 → rest ≡ O.mul r bb → norm ≡ sub O square rest → over ≡ inv norm
      → first ≡ O.mul a.0 over → negated ≡ O.mul a.1 over → second ≡ O.neg negated → (first, second) ≡ ext_inverse O r inv a
  ext_inverse_lem inv a {square} {bb} {rest} {norm} {over} e f g h k l m n =
      pair_path (l ∙ ap (O.mul a.0) o) (n ∙ ap O.neg (m ∙ ap (O.mul a.1) o))
    where
      o : over ≡ inv (sub O (O.mul a.0 a.0) (O.mul r (O.mul a.1 a.1)))
      o = k ∙ ap inv (h ∙ ap₂ (sub O) e (g ∙ ap (O.mul r) f))

-- CM31
-- the parts of (2 + i)(a + bi), and of what the code computes
abbrev by_two_plus_i : Expr × Expr
by_two_plus_i = (complex exprs).mul (two_plus_i exprs) (v0, v1)

pub product_two_plus_i : (a : ℕ × ℕ) {twice-re twice-im re im : ℕ} → twice-re ≡ add_p a.0 a.0 → twice-im ≡ add_p a.1 a.1
    → re ≡ sub_p twice-re a.1 → im ≡ add_p a.0 twice-im → (re, im) ≡ complex_words.mul (two_plus_i words31) a
product_two_plus_i a e f g h =
    pair_path
    (g ∙ ap (λ (t : ℕ). sub_p t a.1) e ∙ R.solve_words words31 m31 m31_representation (a.0 ∷ a.1 ∷ []) (v0 :+ v0 :+ :- v1)
    by_two_plus_i.0 (below _ _) (below _ _) tt)
    (h ∙ ap (add_p a.0) f ∙ R.solve_words words31 m31 m31_representation (a.0 ∷ a.1 ∷ []) (v0 :+ (v1 :+ v1)) by_two_plus_i.1
    (below _ _) (below _ _) tt)
  where
    below : (x y : ℕ) → add_p x y < P
    below = m31_representation.add-reduced

pub complex_inverse_lem : (a : ℕ × ℕ) {aa bb norm over re im' im : ℕ} → aa ≡ mul_p a.0 a.0 → bb ≡ mul_p a.1 a.1 → norm ≡ add_p aa bb
    → over ≡ inv_p norm → re ≡ mul_p a.0 over → im' ≡ mul_p a.1 over → im ≡ neg_p im' → (re, im) ≡ complex_inverse a
complex_inverse_lem a {aa} {bb} {norm} {over} e f g h k l m = pair_path (k ∙ ap (mul_p a.0) o) (m ∙ ap neg_p (l ∙ ap (mul_p a.1) o))
  where
    o : over ≡ inv_p (sub_p (mul_p a.0 a.0) (mul_p (neg_p 1) (mul_p a.1 a.1)))
    o = h ∙ ap inv_p (g ∙ ap₂ add_p e f ∙ R.add-minus_one words31 m31 m31_representation (mul_p a.0 a.0) (mul_p a.1 a.1))

-- Operations on words that stand for those of a field, for any field: an element is known by its reduced words.
use Rattle.std.specs.Prelude.{◌≡◌, ℕ, zero, suc, ◌/◌, ◌%◌, T, List, [], ◌∷◌, map}
use Rattle.std.proofs.Math.Path.{sym, ap}
use Rattle.std.proofs.Common.{◌∙◌, ap₂}
use Rattle.algebra.specs.Ring.{Ops}
use Rattle.algebra.specs.Ring as R
use Rattle.algebra.specs.Polynomial.{Expr, ◌:+◌, ◌:*◌, :-◌, v0, v1, v2, v3, equal}
use Rattle.algebra.specs.Solver.{value, solve}
use Rattle.algebra.specs.Power.{pow, square_and_multiply}
use Rattle.algebra.specs.Extension.{ext, embed, norm, ext_inverse}
use Rattle.algebra.specs.Field.{Field}
use Rattle.algebra.specs.Field as F
use Rattle.algebra.specs.ExtensionField.{ext_field, norm-zero}
use Rattle.algebra.specs.Homomorphism.{Homomorphism, on_pair, to_pow, to_value, to_norm, ext_homomorphism}

-- W on words, K the field
pub record Representation (W K : Ops) : Type 1 where
  pub field : Field K
  pub element : W.El → K.El
  pub homomorphism : Homomorphism W K element
  pub Reduced : W.El → Type 0
  pub injective : (a b : W.El) → Reduced a → Reduced b → element a ≡ element b → a ≡ b
  pub zero_reduced : Reduced W.zero
  pub one_reduced : Reduced W.one
  pub add-reduced : (a b : W.El) → Reduced (W.add a b)
  pub mul-reduced : (a b : W.El) → Reduced (W.mul a b)
  pub neg-reduced : (a : W.El) → Reduced (W.neg a)
  pub inverse : W.El → W.El
  pub inverse_reduced : (a : W.El) → Reduced (inverse a)
  pub inverse_element : (a : W.El) → ¬ (element a ≡ K.zero) → element (inverse a) ≡ field.inv (element a)

module _ (W K : Ops) (H : Representation W K) where
  open K use {El, zero as 𝟘, one as 𝟙, mul as ◌⊗◌}
  open H use {field, element, homomorphism, Reduced, injective, inverse, inverse_reduced, inverse_element}
  open H use {zero_reduced, one_reduced, add-reduced, mul-reduced, neg-reduced}
  open homomorphism use {to_zero, to_one, to_add, to_mul, to_neg}

  infixl 70 ◌⊗◌
  -- what can be inverted: reduced and not zero
  abbrev pub Unit : W.El → Type 0
  Unit a = Reduced a × ¬ (a ≡ W.zero)

  pub unit-nonzero : (a : W.El) → Unit a → ¬ (element a ≡ 𝟘)
  unit-nonzero a u e = u.1 (injective a W.zero u.0 zero_reduced (e ∙ sym to_zero))

  -- the inverse of a is one
  pub mul_inverse : (a : W.El) → Unit a → W.mul a (inverse a) ≡ W.one
  mul_inverse a u =
      injective (W.mul a (inverse a)) W.one (mul-reduced a (inverse a)) one_reduced
      (to_mul a (inverse a) ∙ ap (◌⊗◌ (element a)) (inverse_element a (unit-nonzero a u))
      ∙ field.mul_inv (element a) (unit-nonzero a u) ∙ sym to_one)

  inverse_of_elements : (a b : W.El) → Reduced b → element a ⊗ element b ≡ 𝟙 → b ≡ inverse a
  inverse_of_elements a b h e =
      injective b (inverse a) h (inverse_reduced a)
      (F.inv_unique K field (element a) (element b) e ∙ sym (inverse_element a (F.nonzero_of_inverse K field (element a) (element b) e)))

  -- the inverse of a is the only one
  pub inverse_unique : (a b : W.El) → Reduced b → W.mul a b ≡ W.one → b ≡ inverse a
  inverse_unique a b h e = inverse_of_elements a b h (sym (to_mul a b) ∙ ap element e ∙ to_one)

  pub mul-unit : (a b : W.El) → Unit a → Unit b → Unit (W.mul a b)
  mul-unit a b u v = (
    mul-reduced a b,
    λ e. F.mul-nonzero K field (element a) (element b) (unit-nonzero a u) (unit-nonzero b v) (sym (to_mul a b) ∙ ap element e ∙ to_zero),
  )

  pub inverse_unit : (a : W.El) → Unit a → Unit (inverse a)
  inverse_unit a u = (
    inverse_reduced a,
    λ z. field.one_nonzero (sym to_one ∙ sym (ap element (mul_inverse a u)) ∙ ap (λ t. element (W.mul a t)) z ∙ to_mul a W.zero
        ∙ ap (◌⊗◌ (element a)) to_zero ∙ R.mul-zero K field.laws (element a)),
  )

  product_inverse : (a b : W.El) → Unit a → Unit b → element a ⊗ element b ⊗ element (inverse (W.mul a b)) ≡ 𝟙
  product_inverse a b u v =
      ap (λ t. t ⊗ element (inverse (W.mul a b))) (sym (to_mul a b)) ∙ sym (to_mul (W.mul a b) (inverse (W.mul a b)))
      ∙ ap element (mul_inverse (W.mul a b) (mul-unit a b u v)) ∙ to_one

  -- the inverse of a product times one factor is the inverse of the other
  pub inverse_second : (a b : W.El) → Unit a → Unit b → W.mul a (inverse (W.mul a b)) ≡ inverse b
  inverse_second a b u v =
      inverse_of_elements b (W.mul a x) (mul-reduced a x)
      (ap (◌⊗◌ (element b)) (to_mul a x) ∙ sym (field.laws.mul_assoc (element b) (element a) (element x))
      ∙ ap (λ t. t ⊗ element x) (field.laws.mul_comm (element b) (element a)) ∙ product_inverse a b u v)
    where
      x : W.El
      x = inverse (W.mul a b)

  pub inverse_first : (a b : W.El) → Unit a → Unit b → W.mul (inverse (W.mul a b)) b ≡ inverse a
  inverse_first a b u v =
      inverse_of_elements a (W.mul x b) (mul-reduced x b)
      (ap (◌⊗◌ (element a)) (to_mul x b ∙ field.laws.mul_comm (element x) (element b))
      ∙ sym (field.laws.mul_assoc (element a) (element b) (element x))
      ∙ product_inverse a b u v)
    where
      x : W.El
      x = inverse (W.mul a b)

  -- an equation of the ring holds on words, where both sides are reduced
  pub solve_words : (env : List W.El) (e f : Expr) → Reduced (value W env e) → Reduced (value W env f) → T (equal e f)
      → value W env e ≡ value W env f
  solve_words env e f h k t =
      injective (value W env e) (value W env f) h k
      (to_value W K element homomorphism env e ∙ solve K field.laws (map element env) e f t
      ∙ sym (to_value W K element homomorphism env f))

  pub mul-one : (a : W.El) → Reduced a → W.mul a W.one ≡ a
  mul-one a h = solve_words (a ∷ []) (v0 :* Expr.:1) v0 (mul-reduced _ _) h tt

  pub one-mul : (a : W.El) → Reduced a → W.mul W.one a ≡ a
  one-mul a h = solve_words (a ∷ []) (Expr.:1 :* v0) v0 (mul-reduced _ _) h tt

  -- - 1 times b is - b
  pub add-minus_one : (a b : W.El) → W.add a b ≡ W.add a (W.neg (W.mul (W.neg W.one) b))
  add-minus_one a b = solve_words (a ∷ b ∷ []) (v0 :+ v1) (v0 :+ :- (:- Expr.:1 :* v1)) (add-reduced _ _) (add-reduced _ _) tt

  -- operations of a pair with m + 0 t
  module _ (r a b m : W.El) where
    abbrev env : List W.El
    env = a ∷ b ∷ m ∷ r ∷ []

    pub add-embed : Reduced b → (W.add a m, b) ≡ (ext W r).add (a, b) (embed W m)
    add-embed h = λ i. (W.add a m, solve_words env v1 (v1 :+ Expr.:0) h (add-reduced _ _) tt i)

    pub sub-embed : Reduced b → (W.add a (W.neg m), b) ≡ (ext W r).add (a, b) ((ext W r).neg (embed W m))
    sub-embed h = λ i. (W.add a (W.neg m), solve_words env v1 (v1 :+ :- Expr.:0) h (add-reduced _ _) tt i)

    pub mul-embed : (W.mul a m, W.mul b m) ≡ (ext W r).mul (a, b) (embed W m)
    mul-embed = λ i. (
      solve_words env (v0 :* v2) (v0 :* v2 :+ v3 :* (v1 :* Expr.:0)) (mul-reduced _ _) (add-reduced _ _) tt i,
      solve_words env (v1 :* v2) (v0 :* Expr.:0 :+ v1 :* v2) (mul-reduced _ _) (add-reduced _ _) tt i,
    )

  pub pow-reduced : (a : W.El) (n : ℕ) → Reduced (pow W a n)
  unfolding pow
  pow-reduced a zero = one_reduced
  pow-reduced a (suc n) = mul-reduced a (pow W a n)

  -- the product with b to the power of a bit
  pub mul_bit_one : (a b : W.El) (bit : ℕ) → Reduced b → bit ≡ 1 → W.mul a b ≡ W.mul a (pow W b bit)
  unfolding pow
  mul_bit_one a b bit h e = ap (W.mul a) (sym (mul-one b h) ∙ ap (pow W b) (sym e))

  pub mul_bit_zero : (a b : W.El) (bit : ℕ) → Reduced a → bit ≡ 0 → a ≡ W.mul a (pow W b bit)
  unfolding pow
  mul_bit_zero a b bit h e = sym (mul-one a h) ∙ ap (λ (n : ℕ). W.mul a (pow W b n)) (sym e)

  square_step : (res base : W.El) (n : ℕ)
      → W.mul (W.mul res (pow W base (n % 2))) (pow W (W.mul base base) (n / 2)) ≡ W.mul res (pow W base n)
  square_step res base n =
      injective (W.mul (W.mul res low) high) (W.mul res (pow W base n)) (mul-reduced (W.mul res low) high)
      (mul-reduced res (pow W base n))
      (to_mul (W.mul res low) high ∙ ap₂ ◌⊗◌ (to_mul res low ∙ ap (◌⊗◌ (element res)) (powers base (n % 2)))
      (powers (W.mul base base) (n / 2) ∙ ap (λ t. pow K t (n / 2)) (to_mul base base))
      ∙ square_and_multiply K field.laws (element res) (element base) n
      ∙ ap (◌⊗◌ (element res)) (sym (powers base n)) ∙ sym (to_mul res (pow W base n)))
    where
      low : W.El
      low = pow W base (n % 2)

      high : W.El
      high = pow W (W.mul base base) (n / 2)

      powers : (x : W.El) (m : ℕ) → element (pow W x m) ≡ pow K (element x) m
      powers = to_pow W K element homomorphism

  -- square-and-multiply: res and base before and after a step, n the exponent that was left before it
  pub pow_step : (res base res' base' : W.El) (n : ℕ) → res' ≡ W.mul res (pow W base (n % 2)) → base' ≡ W.mul base base
      → W.mul res' (pow W base' (n / 2)) ≡ W.mul res (pow W base n)
  pow_step res base res' base' n e f = ap₂ (λ x y. W.mul x (pow W y (n / 2))) e f ∙ square_step res base n

  -- what holds before the first step and is kept says, where nothing is left of the exponent, that res is the power
  pub pow_end : (res base a : W.El) (m n : ℕ) → Reduced res → m ≡ 0 → W.mul res (pow W base m) ≡ W.mul W.one (pow W a n)
      → res ≡ pow W a n
  pow_end res base a m n h z e = mul_bit_zero res base m h z ∙ e ∙ one-mul (pow W a n) (pow-reduced a n)

  -- pairs of words and the extension by a square root of r
  module _ (r : W.El) (s : El) (root : element r ≡ s) (nonsquare : (x : El) → ¬ (x ⊗ x ≡ s)) where
    inverse_norm : (a : W.El × W.El) → ¬ (on_pair element a ≡ (𝟘, 𝟘))
        → element (inverse (norm W r a)) ≡ field.inv (norm K s (on_pair element a))
    inverse_norm a n =
        inverse_element (norm W r a)
        (λ z. n (norm-zero K field s nonsquare (on_pair element a) (sym (to_norm W K element homomorphism r s root a) ∙ z)))
        ∙ ap field.inv (to_norm W K element homomorphism r s root a)

    pub ext_inverse-element : (a : W.El × W.El) → ¬ (on_pair element a ≡ (𝟘, 𝟘))
        → on_pair element (ext_inverse W r inverse a) ≡ ext_inverse K s field.inv (on_pair element a)
    ext_inverse-element a n = λ i. (
      (to_mul a.0 (inverse (norm W r a)) ∙ ap (◌⊗◌ (element a.0)) (inverse_norm a n)) i,
      (to_neg (W.mul a.1 (inverse (norm W r a)))
          ∙ ap K.neg (to_mul a.1 (inverse (norm W r a)) ∙ ap (◌⊗◌ (element a.1)) (inverse_norm a n))) i,
    )

    abbrev pub extension : Representation (ext W r) (ext K s)
    extension = record {
      field = ext_field K field s nonsquare;
      element = on_pair element;
      homomorphism = ext_homomorphism W K element homomorphism r s root;
      Reduced = λ p. Reduced p.0 × Reduced p.1;
      injective = λ a b h k e i. (
        injective a.0 b.0 h.0 k.0 (ap (λ p. p.0) e) i,
        injective a.1 b.1 h.1 k.1 (ap (λ p. p.1) e) i,
      );
      zero_reduced = (zero_reduced, zero_reduced);
      one_reduced = (one_reduced, zero_reduced);
      add-reduced = λ a b. (add-reduced a.0 b.0, add-reduced a.1 b.1);
      mul-reduced = λ a b. (add-reduced _ _, add-reduced _ _);
      neg-reduced = λ a. (neg-reduced a.0, neg-reduced a.1);
      inverse = ext_inverse W r inverse;
      inverse_reduced = λ a. (mul-reduced _ _, neg-reduced _);
      inverse_element = ext_inverse-element;
    }

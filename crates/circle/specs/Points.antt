-- Points on words, for any field that words stand for: their laws come from the field's.
use Rattle.std.specs.Prelude.{◌≡◌, ℕ, zero, suc, ◌+◌, ◌*◌, ◌/◌, ◌%◌, [], ◌∷◌}
use Rattle.std.proofs.Math.Path.{sym, ap}
use Rattle.std.proofs.Common.{◌∙◌, ap₂}
use Rattle.algebra.specs.Ring.{Ops, sub, two}
use Rattle.algebra.specs.Polynomial.{◌:+◌, ◌:*◌, exprs, v0}
use Rattle.algebra.specs.Power.{pow}
use Rattle.algebra.specs.Tower.{complex}
use Rattle.algebra.specs.Homomorphism.{Homomorphism, on_pair, to_pow, ext_homomorphism}
use Rattle.algebra.specs.Circle.{plus, zero_point, multiple, double_x}
use Rattle.algebra.specs.Circle as C
use Rattle.algebra.specs.CircleHomomorphism as T
use Rattle.algebra.specs.Doubling.{iterate, double}
use Rattle.fields.specs.Representation.{Representation, solve_words}

module _ (W K : Ops) (H : Representation W K) where
  open H use {field, element, homomorphism, Reduced, injective, zero_reduced, one_reduced, add-reduced, mul-reduced}
  open homomorphism use {to_zero, to_one, to_neg}

  abbrev pub PointReduced : W.El × W.El → Type 0
  PointReduced p = Reduced p.0 × Reduced p.1

  pub add_self_two : (a : W.El) → W.add a a ≡ W.mul (two W) a
  add_self_two a = solve_words W K H (a ∷ []) (v0 :+ v0) (two exprs :* v0) (add-reduced _ _) (mul-reduced _ _) tt

  -- 2x² - 1 as s + s - 1, where s is the square of x
  pub square_double_x : (x s t one r : W.El) → s ≡ W.mul x x → t ≡ W.add s s → one ≡ W.one → r ≡ sub W t one → r ≡ double_x W x
  square_double_x x s t one r e f g h = h ∙ ap₂ (sub W) (f ∙ add_self_two s ∙ ap (W.mul (two W)) e) g

  -- reduced words of one point are equal
  pub point_injective : (p q : W.El × W.El) → PointReduced p → PointReduced q → on_pair element p ≡ on_pair element q → p ≡ q
  point_injective p q h k e =
      λ i. (injective p.0 q.0 h.0 k.0 (ap (λ t. t.0) e) i, injective p.1 q.1 h.1 k.1 (ap (λ t. t.1) e) i)

  to_plus : (p q : W.El × W.El) → on_pair element (plus W p q) ≡ plus K (on_pair element p) (on_pair element q)
  to_plus = T.to_plus W K element homomorphism

  to_multiple : (n : ℕ) (p : W.El × W.El) → on_pair element (multiple W n p) ≡ multiple K n (on_pair element p)
  to_multiple = T.to_multiple W K element homomorphism

  pub plus-reduced : (p q : W.El × W.El) → PointReduced (plus W p q)
  plus-reduced p q = (add-reduced _ _, add-reduced _ _)

  pub multiple-reduced : (n : ℕ) (p : W.El × W.El) → PointReduced (multiple W n p)
  unfolding multiple
  multiple-reduced zero p = (one_reduced, zero_reduced)
  multiple-reduced (suc n) p = plus-reduced p (multiple W n p)

  pub doublings_reduced : (n : ℕ) (p : W.El × W.El) → PointReduced p → PointReduced (iterate n (double W) p)
  unfolding iterate
  doublings_reduced zero p h = h
  doublings_reduced (suc n) p h = doublings_reduced n (double W p) (plus-reduced p p)

  pub plus_assoc : (p q s : W.El × W.El) → plus W (plus W p q) s ≡ plus W p (plus W q s)
  plus_assoc p q s =
      point_injective (plus W (plus W p q) s) (plus W p (plus W q s)) (plus-reduced _ _) (plus-reduced _ _)
      (to_plus (plus W p q) s ∙ ap (λ t. plus K t (on_pair element s)) (to_plus p q)
      ∙ C.plus_assoc K field.laws (on_pair element p) (on_pair element q) (on_pair element s)
      ∙ sym (to_plus p (plus W q s) ∙ ap (plus K (on_pair element p)) (to_plus q s)))

  pub plus_comm : (p q : W.El × W.El) → plus W p q ≡ plus W q p
  plus_comm p q =
      point_injective (plus W p q) (plus W q p) (plus-reduced _ _) (plus-reduced _ _)
      (to_plus p q ∙ C.plus_comm K field.laws (on_pair element p) (on_pair element q) ∙ sym (to_plus q p))

  pub plus-zero : (p : W.El × W.El) → PointReduced p → plus W p (zero_point W) ≡ p
  plus-zero p h =
      point_injective (plus W p (zero_point W)) p (plus-reduced _ _) h
      (to_plus p (zero_point W) ∙ ap (plus K (on_pair element p)) (λ i. (to_one i, to_zero i))
      ∙ C.plus-zero K field.laws (on_pair element p))

  pub zero_plus : (p : W.El × W.El) → PointReduced p → plus W (zero_point W) p ≡ p
  zero_plus p h = plus_comm (zero_point W) p ∙ plus-zero p h

  pub multiple-one : (p : W.El × W.El) → PointReduced p → multiple W 1 p ≡ p
  unfolding multiple
  multiple-one p h = plus-zero p h

  pub multiple-add : (m n : ℕ) (p : W.El × W.El) → multiple W (m + n) p ≡ plus W (multiple W m p) (multiple W n p)
  multiple-add m n p =
      point_injective (multiple W (m + n) p) (plus W (multiple W m p) (multiple W n p)) (multiple-reduced (m + n) p) (plus-reduced _ _)
      (to_multiple (m + n) p ∙ C.multiple-add K field.laws m n (on_pair element p)
      ∙ sym (to_plus (multiple W m p) (multiple W n p) ∙ ap₂ (plus K) (to_multiple m p) (to_multiple n p)))

  pub multiple-mul : (m n : ℕ) (p : W.El × W.El) → multiple W (m * n) p ≡ multiple W m (multiple W n p)
  multiple-mul m n p =
      point_injective (multiple W (m * n) p) (multiple W m (multiple W n p)) (multiple-reduced (m * n) p)
      (multiple-reduced m (multiple W n p))
      (to_multiple (m * n) p ∙ C.multiple-mul K field.laws m n (on_pair element p)
      ∙ sym (to_multiple m (multiple W n p) ∙ ap (multiple K m) (to_multiple n p)))

  -- the sum is the product of x + yi and z + wi, and a multiple the power
  to_complex : Homomorphism (complex W) (complex K) (on_pair element)
  to_complex = ext_homomorphism W K element homomorphism (W.neg W.one) (K.neg K.one) (to_neg W.one ∙ ap K.neg to_one)

  pub product_plus : (p q : W.El × W.El) → (complex W).mul p q ≡ plus W p q
  product_plus p q =
      point_injective ((complex W).mul p q) (plus W p q) (add-reduced _ _, add-reduced _ _) (plus-reduced _ _)
      (to_complex.to_mul p q ∙ sym (C.plus-mul K field.laws (on_pair element p) (on_pair element q)) ∙ sym (to_plus p q))

  power_reduced : (n : ℕ) (p : W.El × W.El) → PointReduced (pow (complex W) p n)
  unfolding pow
  power_reduced zero p = (one_reduced, zero_reduced)
  power_reduced (suc n) p = (add-reduced _ _, add-reduced _ _)

  pub power_multiple : (n : ℕ) (p : W.El × W.El) → pow (complex W) p n ≡ multiple W n p
  power_multiple n p =
      point_injective (pow (complex W) p n) (multiple W n p) (power_reduced n p) (multiple-reduced n p)
      (to_pow (complex W) (complex K) (on_pair element) to_complex p n ∙ sym (C.multiple-pow K field.laws n (on_pair element p))
      ∙ sym (to_multiple n p))

  -- double-and-add: res and cur before and after a step, n the count that was left before it
  pub add_step : (res cur res' cur' : W.El × W.El) (n : ℕ) → res' ≡ plus W res (multiple W (n % 2) cur) → cur' ≡ plus W cur cur
      → plus W res' (multiple W (n / 2) cur') ≡ plus W res (multiple W n cur)
  add_step res cur res' cur' n e f = ap₂ (λ p q. plus W p (multiple W (n / 2) q)) e f ∙ step
    where
      low : W.El × W.El
      low = multiple W (n % 2) cur

      high : W.El × W.El
      high = multiple W (n / 2) (plus W cur cur)

      step : plus W (plus W res low) high ≡ plus W res (multiple W n cur)
      step =
          point_injective (plus W (plus W res low) high) (plus W res (multiple W n cur)) (plus-reduced _ _) (plus-reduced _ _)
          (to_plus (plus W res low) high
          ∙ ap₂ (plus K) (to_plus res low ∙ ap (plus K (on_pair element res)) (to_multiple (n % 2) cur))
          (to_multiple (n / 2) (plus W cur cur) ∙ ap (multiple K (n / 2)) (to_plus cur cur))
          ∙ C.double_and_add K field.laws (on_pair element res) (on_pair element cur) n
          ∙ sym (to_plus res (multiple W n cur) ∙ ap (plus K (on_pair element res)) (to_multiple n cur)))

  -- the sum with q taken as often as a bit says
  pub add_bit_one : (p q : W.El × W.El) (bit : ℕ) → PointReduced q → bit ≡ 1 → plus W p q ≡ plus W p (multiple W bit q)
  add_bit_one p q bit h e = ap (plus W p) (sym (multiple-one q h) ∙ ap (λ (n : ℕ). multiple W n q) (sym e))

  pub add_bit_zero : (p q : W.El × W.El) (bit : ℕ) → PointReduced p → bit ≡ 0 → p ≡ plus W p (multiple W bit q)
  unfolding multiple
  add_bit_zero p q bit h e = sym (plus-zero p h) ∙ ap (λ (n : ℕ). plus W p (multiple W n q)) (sym e)

  -- where nothing is left of the count, res is the multiple
  pub add_end : (res cur p : W.El × W.El) (m n : ℕ) → PointReduced res → m ≡ 0
      → plus W res (multiple W m cur) ≡ plus W (zero_point W) (multiple W n p) → res ≡ multiple W n p
  add_end res cur p m n h z e = add_bit_zero res cur m h z ∙ e ∙ zero_plus (multiple W n p) (multiple-reduced n p)

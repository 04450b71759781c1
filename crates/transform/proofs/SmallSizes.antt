-- Log sizes 1 and 2: y is -1 there, or -x.
use Prim.Native.Nat.{ℕ, zero, suc, ◌+◌, ◌-◌, ◌*◌, ◌%◌, ◌^◌, ◌<◌}
use mathlib.Core.Path.{◌≡◌, refl, sym, ◌∙◌, ap}
use mathlib.Core.List.{List, [], ◌∷◌}
use native.Mathlib.Omega.{arith}
use lib.ListN.{length, get_or, set}
use Rattle.algebra.specs.Ring.{two}
use Rattle.algebra.specs.Polynomial.{◌:+◌, ◌:*◌, exprs, v0}
use Rattle.algebra.specs.M31.{P, m31}
use Rattle.fields.specs.Words.{add_p, mul_p, neg_p, words31}
use Rattle.fields.specs.Representation.{solve_words}
use Rattle.fields.specs.Inverse.{m31_representation}
use Rattle.circle.specs.Index.{index_point}
use Rattle.circle.specs.IndexPoints.{index_below}
use Rattle.domains.specs.BitReversed.{half_index, half_point}
use Rattle.domains.proofs.BitReversed.{half_index_start, half_neighbour, half_point-one}
use Rattle.domains.proofs.Doubled.{half_two}
use Rattle.column.specs.Butterflies.{butterflies, evaluate_block, inverse_butterflies, interpolate_block, scaled}
use Rattle.column.specs.Tree.{HoldsTwiddles}
use Rattle.transform.specs.Transform.{values_of, Column}
use Rattle.transform.specs.Tree.{PartlyReduced, reduced_words, pair_twiddle, Unscaled}
use Rattle.transform.specs.Twiddles.{twiddle}
use Rattle.transform.specs.Elements.{column_words, tree_values, tree_coefficients}
use Rattle.transform.specs.TreeLaws.{neg-neg, neg-mul-neg, holds_inverse, root_square}
use Rattle.transform.proofs.WordLaws.{words_evaluate, words_inverse, words-scaled}
use Rattle.transform.proofs.Partly.{partly_words, reduced_same}
use Rattle.transform.proofs.Scaling.{scaled-reduced}
use Rattle.transform.proofs.Fours.{evaluate_two_layers, interpolate_two_layers}

-- ---- one pair

two_holds : HoldsTwiddles words31 1 (λ t i. P - 1) (twiddle 1)
unfolding twiddle
two_holds zero d e i h = sym (ap (λ (p : ℕ × ℕ). p.1) (half_point-one i))
two_holds (suc t) d e i h = absurd (omega arith)

as_block : (tw : ℕ → ℕ → ℕ) (i : ℕ) (c : List ℕ) → butterflies words31 1 (tw 0 i) c ≡ evaluate_block words31 1 tw i c
unfolding butterflies evaluate_block
as_block tw i c = refl

-- two words, each reduced
pub two_reduced : (l : List ℕ) → length l ≡ 2 → (a b : ℕ) → a ≡ get_or l 0 0 % P → b ≡ get_or l 1 0 % P → set (set l 0 a) 1 b ≡
    reduced_words l
two_reduced [] e a b ea eb = absurd (omega arith)
two_reduced (x ∷ []) e a b ea eb = absurd (omega arith)
two_reduced (x ∷ y ∷ []) e a b ea eb = λ i. ea i ∷ eb i ∷ []
two_reduced (x ∷ y ∷ z ∷ l) e a b ea eb = absurd (omega arith)

pub two_evaluated : (c r : List ℕ) → Column 1 c → r ≡ butterflies words31 1 (P - 1) c → r ≡ values_of 1 c
two_evaluated c r h e =
    e ∙ as_block (λ t i. P - 1) 1 c
    ∙ tree_values 1 (omega arith) (omega arith) (λ t i. P - 1) two_holds c h.size
    (words_evaluate 1 (λ t i. P - 1) 1 c (column_words 1 c h))

as_inverse_block : (tw : ℕ → ℕ → ℕ) (i : ℕ) (c : List ℕ) → inverse_butterflies words31 1 (tw 0 i) c ≡ interpolate_block words31 1 tw i c
unfolding inverse_butterflies interpolate_block
as_inverse_block tw i c = refl

pub two_interpolated : (c r : List ℕ) → Column 1 c → r ≡ inverse_butterflies words31 1 (P - 1) c → Unscaled 1 c r
two_interpolated c r h e = record {
  words = partly_words r (λ k. rw e (words_inverse 1 (P - 1) c k));
  coefficients = tree_coefficients 1 (omega arith) (omega arith) (λ t i. P - 1)
      (holds_inverse 1 (λ t i. P - 1) (λ t i. P - 1) two_holds (λ s d e j h. refl)) c (scaled words31 (2 ^ 30) r) h
      (ap (scaled words31 (2 ^ 30)) (e ∙ as_inverse_block (λ t i. P - 1) 1 c)) (words-scaled (2 ^ 30) r);
}

-- ---- four words

module _ (x : ℕ) (is : x ≡ (half_point 2 0).0) where
  x_word : x < P
  x_word = rw is (index_below (half_index 2 0)).0

  -- y of the two half coset points
  first_y : neg_p x ≡ (half_point 2 0).1
  first_y = ap neg_p is ∙ sym (half_two 0)

  second_y : x ≡ (half_point 2 1).1
  second_y = sym (ap (λ (p : ℕ × ℕ). p.1) (half_neighbour 2 0 (omega arith) (omega arith)) ∙ ap neg_p (sym first_y) ∙ neg-neg x x_word)

  pub four_holds : HoldsTwiddles words31 2 (pair_twiddle x (neg_p x) x) (twiddle 2)
  unfolding pair_twiddle twiddle
  four_holds zero zero e i h = absurd (omega arith)
  four_holds zero (suc zero) e zero h = first_y
  four_holds zero (suc zero) e (suc zero) h = second_y
  four_holds zero (suc zero) e (suc (suc i)) h = absurd (omega arith)
  four_holds zero (suc (suc d)) e i h = absurd (omega arith)
  four_holds (suc zero) zero e i h = let first : i ≡ 0 = omega arith in is ∙ ap (λ (k : ℕ). (half_point 2 (2 * k)).0) (sym first)
  four_holds (suc zero) (suc d) e i h = absurd (omega arith)
  four_holds (suc (suc t)) d e i h = absurd (omega arith)

  pub four_evaluated_values : (c r : List ℕ) → Column 2 c → r ≡ evaluate_block words31 2 (pair_twiddle x (neg_p x) x) 0 c → r ≡
      values_of 2 c
  unfolding pair_twiddle
  four_evaluated_values c r h e =
      e ∙ evaluate_two_layers (pair_twiddle x (neg_p x) x) (pair_twiddle x (neg_p x) x) 0 1 refl refl refl c
      ∙ tree_values 2 (omega arith) (omega arith) (pair_twiddle x (neg_p x) x) four_holds c h.size
      (words_evaluate 2 (pair_twiddle x (neg_p x) x) 1 c (column_words 2 c h))

  -- 1 / x is 2x
  doubled_inverse : mul_p (add_p x x) x ≡ 1
  doubled_inverse =
      solve_words words31 m31 m31_representation (x ∷ []) ((v0 :+ v0) :* v0) (two exprs :* (v0 :* v0)) (m31_representation.mul-reduced _ _)
      (m31_representation.mul-reduced _ _) tt
      ∙ root_square x is

  four_inverse : (s d : ℕ) → s + suc d ≡ 2 → (j : ℕ) → j < 2 ^ d
      → mul_p (pair_twiddle (add_p x x) (neg_p (add_p x x)) (add_p x x) s (2 ^ d + j)) (pair_twiddle x (neg_p x) x s (2 ^ d + j)) ≡ 1
  unfolding pair_twiddle
  four_inverse zero zero e j h = absurd (omega arith)
  four_inverse zero (suc zero) e zero h = neg-mul-neg (add_p x x) x ∙ doubled_inverse
  four_inverse zero (suc zero) e (suc zero) h = doubled_inverse
  four_inverse zero (suc zero) e (suc (suc j)) h = absurd (omega arith)
  four_inverse zero (suc (suc d)) e j h = absurd (omega arith)
  four_inverse (suc s) d e j h = doubled_inverse

  pub four_interpolated_values : (c r : List ℕ) → Column 2 c
      → reduced_words r ≡ interpolate_block words31 2 (pair_twiddle (add_p x x) (neg_p (add_p x x)) (add_p x x)) 0 (reduced_words c)
      → PartlyReduced r → Unscaled 2 c r
  unfolding pair_twiddle
  four_interpolated_values c r h e p =
      let tv : ℕ → ℕ → ℕ = pair_twiddle (add_p x x) (neg_p (add_p x x)) (add_p x x) in
      let same : reduced_words c ≡ c = reduced_same c (column_words 2 c h) in
      record {
        words = p;
        coefficients =
            tree_coefficients 2 (omega arith) (omega arith) tv (holds_inverse 2 (pair_twiddle x (neg_p x) x) tv four_holds four_inverse)
            c (scaled words31 (2 ^ 29) r) h
            (scaled-reduced (2 ^ 29) r
            ∙ ap (scaled words31 (2 ^ 29))
            (e ∙ ap (interpolate_block words31 2 tv 0) same ∙ interpolate_two_layers tv tv 0 1 refl refl refl c))
            (words-scaled (2 ^ 29) r);
      }

-- the point of index 2^28
pub two_start : (p : ℕ × ℕ) → p ≡ index_point (2 ^ 28) → p.0 ≡ (half_point 2 0).0
two_start p e = ap (λ (q : ℕ × ℕ). q.0) (e ∙ ap index_point (sym (half_index_start 2)))

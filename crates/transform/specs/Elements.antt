-- Columns of words as columns of the field M31, where the laws of a ring hold: evaluation by halves gives the values, and
-- interpolation by halves the coefficients.
use Prim.Native.Nat.{ℕ, zero, suc, ◌+◌, ◌-◌, ◌*◌, ◌%◌, ◌^◌, ◌≤◌, ◌<◌}
use Rattle.std.specs.Prelude.{◌≡◌, refl, List, [], ◌∷◌, map, length}
use Rattle.std.proofs.Common.{sym, ◌∙◌, ap, ap₂, arith}
use Rattle.std.proofs.Math.Nat as N
use Rattle.std.proofs.Math.Decide.{dec_lt}
use Rattle.std.proofs.lemmas.List.{length-map}
use Rattle.std.proofs.Math.ListN.{get_or-eq_default}
use Rattle.std.proofs.Math.Pow as W
use Rattle.algebra.specs.Ring.{two}
use Rattle.algebra.specs.Power.{pow}
use Rattle.algebra.specs.ZMod.{Z, residue-val, val-residue, mul-mod-mod, val_below}
use Rattle.algebra.specs.M31.{P, P_pos, m31, m31_laws, element}
use Rattle.algebra.proofs.M31.{m31_field}
use Rattle.algebra.specs.Homomorphism.{on_pair}
use Rattle.fields.specs.Words.{mul_p, pow_p, words31}
use Rattle.fields.specs.Elements.{element_homomorphism, element_injective, element_pow}
use Rattle.circle.specs.IndexPoints.{index_below}
use Rattle.domains.specs.BitReversed.{half_index}
use Rattle.domains.proofs.Doubled.{half_y_nonzero, half_x_nonzero}
use Rattle.column.specs.Column.{sum, combination, values}
use Rattle.column.specs.Butterflies.{evaluate_block, interpolate_block, scaled}
use Rattle.column.specs.Inverse.{Inverses}
use Rattle.column.specs.OneList.{OneList, Twiddles, values_length, values-at, evaluate_values}
use Rattle.column.specs.OneList.{interpolation-length, values-interpolation, one_list}
use Rattle.column.specs.Homomorphism.{to_factor, to_values, to_way, to_evaluate, to_interpolate, to_scaled}
use Rattle.column.specs.Tree.{HoldsTwiddles, tree_evaluate, tree_interpolate}
use Rattle.transform.specs.Transform.{position_point, values_of, Column, Coefficients}
use Rattle.transform.specs.Tree.{Words}
use Rattle.transform.specs.Twiddles.{twiddle, domain_twiddles}

-- ---- words and elements

abbrev pub elements : List ℕ → List (Z P)
elements = map element

abbrev pub words : List (Z P) → List ℕ
words = map (λ (a : Z P). a.val)

pub words-equal : (a b : List ℕ) → Words a → Words b → elements a ≡ elements b → a ≡ b
words-equal a b wa wb e = sym (words-elements a wa) ∙ ap words e ∙ words-elements b wb
  where
    words-elements : (c : List ℕ) → Words c → words (elements c) ≡ c
    words-elements [] w = refl
    words-elements (x ∷ c) w = ap₂ ◌∷◌ (val-residue P P_pos x ∙ N.mod-eq_of_lt (w 0)) (words-elements c (λ k. w (suc k)))

pub elements-words : (c : List (Z P)) → elements (words c) ≡ c
elements-words [] = refl
elements-words (x ∷ c) = ap₂ ◌∷◌ (residue-val P P_pos x) (elements-words c)

pub words_below : (c : List (Z P)) → Words (words c)
words_below [] k = P_pos
words_below (x ∷ c) zero = val_below x
words_below (x ∷ c) (suc k) = words_below c k

pub column_words : (n : ℕ) (c : List ℕ) → Column n c → Words c
column_words n c h k = elim (dec_lt k (length c)) [ yes l ↦ h.below k l | no g ↦ rw (get_or-eq_default c 0 {n = k} (omega arith)) P_pos ]

-- ---- values

sum_below : (count : ℕ) (f : ℕ → ℕ) → sum words31 count f < P
unfolding sum
sum_below zero f = P_pos
sum_below (suc count) f = N.mod-lt (sum words31 count f + f count) P_pos

pub values_below : (n : ℕ) (c : List ℕ) → Words (values_of n c)
unfolding combination
values_below n c k = elim (dec_lt k (2 ^ n)) [
  | yes l ↦ rw (values-at words31 n (position_point n) c k l) (sum_below (2 ^ n) _)
  | no g ↦ rw (get_or-eq_default (values_of n c) 0 {n = k} (omega (arith, values_length words31 n (position_point n) c))) P_pos
]

abbrev pub field_point : ℕ → ℕ → Z P × Z P
field_point n p = on_pair element (position_point n p)

pub elements-values : (n : ℕ) (c : List ℕ) → elements (values_of n c) ≡ values m31 n (field_point n) (elements c)
elements-values n c = to_values words31 m31 element element_homomorphism n (position_point n) c

-- ---- twiddles, their inverses and that of 2^n

abbrev pub field_twiddle : ℕ → ℕ → ℕ → Z P
field_twiddle n t i = element (twiddle n t i)

abbrev pub field_inverse : ℕ → ℕ → ℕ → Z P
field_inverse n t i = m31_field.inv (field_twiddle n t i)

-- 2^31 is 1 modulo P, so 2^(31 - n) is the inverse of 2^n
abbrev pub halved : ℕ → ℕ
halved n = 2 ^ (31 - n)

module _ (n : ℕ) (lo : 1 ≤ n) (hi : n ≤ 30) where
  field_twiddles : Twiddles m31 n (field_point n) (field_twiddle n)
  field_twiddles p t hp ht =
      sym (to_way words31 m31 element element_homomorphism (twiddle n) p t) ∙ ap element (domain_twiddles n lo hi p t hp ht)
      ∙ to_factor words31 m31 element element_homomorphism (position_point n p) t

  pub twiddle_below : (t i : ℕ) → twiddle n t i < P
  unfolding twiddle
  twiddle_below zero i = (index_below (half_index n i)).1
  twiddle_below (suc t) i = (index_below (half_index (n - t) (2 * i))).0

  pub twiddle-nonzero : (t i : ℕ) → t < n → ¬ (field_twiddle n t i ≡ m31.zero)
  unfolding twiddle
  twiddle-nonzero t i h e = nonzero t h (element_injective (twiddle n t i) 0 (twiddle_below t i) P_pos e)
    where
      nonzero : (t : ℕ) → t < n → ¬ (twiddle n t i ≡ 0)
      nonzero zero h = half_y_nonzero n lo hi i
      nonzero (suc t) h = half_x_nonzero (n - t) (omega arith) (omega arith) (omega arith) (2 * i)

  field_inverses : Inverses m31 n (field_twiddle n) (field_inverse n)
  field_inverses t i h = m31_field.mul_inv (field_twiddle n t i) (twiddle-nonzero t i h)

  halved_inverse : m31.mul (element (halved n)) (pow m31 (two m31) n) ≡ m31.one
  halved_inverse =
      ap (m31.mul (element (halved n)))
      (ap (λ (a : Z P). pow m31 a n) (sym (element_homomorphism.to_add 1 1)) ∙ sym (element_pow 2 n))
      ∙ sym (element_homomorphism.to_mul (halved n) (pow_p 2 n))
      ∙ ap element halved_times_power
    where
      sum_bits : 31 - n + n ≡ 31
      sum_bits = omega arith

      halved_times_power : mul_p (halved n) (pow_p 2 n) ≡ 1
      halved_times_power =
          mul-mod-mod (halved n) (2 ^ n) P ∙ ap (λ (a : ℕ). a % P) (sym (W.pow-add 2 (31 - n) n) ∙ ap (λ (a : ℕ). 2 ^ a) sum_bits)

  -- ---- evaluation and interpolation of words

  module _ (tree : ℕ → ℕ → ℕ) where
    pub tree_values : HoldsTwiddles words31 n tree (twiddle n) → (c : List ℕ) → length c ≡ 2 ^ n → Words (evaluate_block words31 n tree 1 c)
        → evaluate_block words31 n tree 1 c ≡ values_of n c
    tree_values holds c e w =
        words-equal (evaluate_block words31 n tree 1 c) (values_of n c) w (values_below n c)
        (ap elements (tree_evaluate words31 n tree (twiddle n) holds n 0 (N.add-zero n) 0 (W.pow_pos 0) c)
        ∙ to_evaluate words31 m31 element element_homomorphism n (twiddle n) 0 c
        ∙ evaluate_values m31 m31_laws n (field_point n) (field_twiddle n) field_twiddles (elements c) (length-map c element ∙ e)
        ∙ sym (elements-values n c))

    pub tree_coefficients : HoldsTwiddles m31 n (λ t i. element (tree t i)) (field_inverse n) → (v r : List ℕ) → Column n v
        → r ≡ scaled words31 (halved n) (interpolate_block words31 n tree 1 v) → Words r → Coefficients n r v
    tree_coefficients holds v r h e w = record {
      column = record {
        size = sym (length-map r element) ∙ ap length is
            ∙ interpolation-length m31 m31_laws n (field_point n) (field_twiddle n) field_twiddles (field_inverse n) field_inverses
            (element (halved n)) halved_inverse (elements v) size;
        below = λ k l. w k;
      };
      give = words-equal (values_of n r) v (values_below n r) (column_words n v h)
          (elements-values n r ∙ ap (values m31 n (field_point n)) is
          ∙ values-interpolation m31 m31_laws n (field_point n) (field_twiddle n) field_twiddles (field_inverse n) field_inverses
          (element (halved n)) halved_inverse (elements v) size);
    }
      where
        size : length (elements v) ≡ 2 ^ n
        size = length-map v element ∙ h.size

        is : elements r ≡ scaled m31 (element (halved n)) (interpolate_block m31 n (field_inverse n) 0 (elements v))
        is =
            ap elements e ∙ to_scaled words31 m31 element element_homomorphism (halved n) (interpolate_block words31 n tree 1 v)
            ∙ ap (scaled m31 (element (halved n)))
            (to_interpolate words31 m31 element element_homomorphism n tree 1 v
            ∙ tree_interpolate m31 n (λ t i. element (tree t i)) (field_inverse n) holds n 0 (N.add-zero n) 0 (W.pow_pos 0) (elements v))

  -- exactly one list over the field
  pub field_one_list : (v : List (Z P)) → length v ≡ 2 ^ n → OneList m31 n (field_point n) v
  field_one_list =
      one_list m31 m31_laws n (field_point n) (field_twiddle n) field_twiddles (field_inverse n) field_inverses
      (element (halved n)) halved_inverse

-- Two layers on four words.
use Prim.Native.Nat.{ℕ, ◌+◌, ◌-◌, ◌*◌, ◌%◌, ◌≤◌}
use mathlib.Core.Path.{◌≡◌, refl, sym, ◌∙◌, ap, ap₂}
use mathlib.Core.Bool.{Bool, true, false, cond}
use mathlib.Core.List.{List, [], ◌∷◌, ◌++◌, zip_with}
use native.Mathlib.Nat as N
use native.Mathlib.Omega.{arith}
use lib.ListN.{length, get_or, set, take, drop}
use Rattle.algebra.specs.Polynomial.{◌:+◌, ◌:*◌, :-◌, v0, v1, v2}
use Rattle.algebra.specs.M31.{P, m31}
use Rattle.fields.specs.Words.{add_p, sub_p, mul_p, neg_p, words31}
use Rattle.fields.specs.Representation.{solve_words}
use Rattle.fields.specs.Inverse.{m31_representation}
use Rattle.column.specs.Butterflies.{on_halves, butterfly_sum, butterfly_difference, evaluate_block}
use Rattle.column.specs.Butterflies.{inverse_sum, inverse_difference, interpolate_block}
use Rattle.transform.specs.Tree.{PartlyReduced, reduced_words, pair_twiddle, four_twiddle}
use Rattle.transform.proofs.Partly.{partly_set, reduced-at, reduced-set, partly_sum, partly_difference}

-- a butterfly with the negative of a twiddle: its results change places
sum_negative : (v x y : ℕ) → butterfly_sum words31 (neg_p v) x y ≡ butterfly_difference words31 v x y
unfolding butterfly_sum butterfly_difference
sum_negative v x y =
    solve_words words31 m31 m31_representation (v ∷ x ∷ y ∷ []) (v1 :+ v2 :* :- v0) (v1 :+ :- (v2 :* v0))
    (m31_representation.add-reduced _ _) (m31_representation.add-reduced _ _) tt

difference_negative : (v x y : ℕ) → butterfly_difference words31 (neg_p v) x y ≡ butterfly_sum words31 v x y
unfolding butterfly_sum butterfly_difference
difference_negative v x y =
    solve_words words31 m31 m31_representation (v ∷ x ∷ y ∷ []) (v1 :+ :- (v2 :* :- v0)) (v1 :+ v2 :* v0)
    (m31_representation.add-reduced _ _) (m31_representation.add-reduced _ _) tt

inverse_negative : (v x y : ℕ) → inverse_difference words31 (neg_p v) x y ≡ inverse_difference words31 v y x
unfolding inverse_difference
inverse_negative v x y =
    solve_words words31 m31 m31_representation (v ∷ x ∷ y ∷ []) ((v1 :+ :- v2) :* :- v0) ((v2 :+ :- v1) :* v0)
    (m31_representation.mul-reduced _ _) (m31_representation.mul-reduced _ _) tt

inverse_sum_comm : (x y : ℕ) → inverse_sum words31 x y ≡ inverse_sum words31 y x
unfolding inverse_sum
inverse_sum_comm x y = ap (λ (n : ℕ). n % P) (N.add_comm x y)

-- four words, written
written : (block : List ℕ) → length block ≡ 4 → (r0 r1 r2 r3 : ℕ) → set (set (set (set block 0 r0) 1 r1) 2 r2) 3 r3 ≡ r0 ∷ r1 ∷ r2 ∷ r3 ∷ []
written [] e r0 r1 r2 r3 = absurd (omega arith)
written (a ∷ []) e r0 r1 r2 r3 = absurd (omega arith)
written (a ∷ b ∷ []) e r0 r1 r2 r3 = absurd (omega arith)
written (a ∷ b ∷ c ∷ []) e r0 r1 r2 r3 = absurd (omega arith)
written (a ∷ b ∷ c ∷ d ∷ []) e r0 r1 r2 r3 = refl
written (a ∷ b ∷ c ∷ d ∷ f ∷ g) e r0 r1 r2 r3 = absurd (omega arith)

four_words : (block : List ℕ) → length block ≡ 4 → block ≡ get_or block 0 0 ∷ get_or block 1 0 ∷ get_or block 2 0 ∷ get_or block 3 0 ∷ []
four_words [] e = absurd (omega arith)
four_words (a ∷ []) e = absurd (omega arith)
four_words (a ∷ b ∷ []) e = absurd (omega arith)
four_words (a ∷ b ∷ c ∷ []) e = absurd (omega arith)
four_words (a ∷ b ∷ c ∷ d ∷ []) e = refl
four_words (a ∷ b ∷ c ∷ d ∷ f ∷ g) e = absurd (omega arith)

four_equal : {a b c d a' b' c' d' : ℕ} → a ≡ a' → b ≡ b' → c ≡ c' → d ≡ d' → a ∷ b ∷ c ∷ d ∷ [] ≡ a' ∷ b' ∷ c' ∷ d' ∷ []
four_equal e f g h = λ i. e i ∷ f i ∷ g i ∷ h i ∷ []

-- the words before the last layer
abbrev pub lower_sum : ℕ → List ℕ → ℕ
lower_sum w l = butterfly_sum words31 w (get_or l 0 0) (get_or l 2 0)

abbrev pub upper_sum : ℕ → List ℕ → ℕ
upper_sum w l = butterfly_sum words31 w (get_or l 1 0) (get_or l 3 0)

abbrev pub lower_difference : ℕ → List ℕ → ℕ
lower_difference w l = butterfly_difference words31 w (get_or l 0 0) (get_or l 2 0)

abbrev pub upper_difference : ℕ → List ℕ → ℕ
upper_difference w l = butterfly_difference words31 w (get_or l 1 0) (get_or l 3 0)

-- from partly reduced words, of which the first one is reduced to a before the sum
module _ (w : ℕ) (l : List ℕ) where
  module _ (a c : ℕ) (ea : a ≡ get_or l 0 0 % P) (ec : c % P ≡ mul_p (get_or l 2 0) w) where
    pub lower-sum : (r : ℕ) → r ≡ add_p a c → r ≡ lower_sum w (reduced_words l)
    lower-sum r e =
        partly_sum w (get_or l 0 0) (get_or l 2 0) c ec r (e ∙ ap (λ (t : ℕ). add_p t c) ea ∙ N.mod-add-mod (get_or l 0 0) P c)
        ∙ ap₂ (butterfly_sum words31 w) (sym (reduced-at l 0)) (sym (reduced-at l 2))

    pub lower_difference_lem : (r : ℕ) → r ≡ sub_p a c → r ≡ lower_difference w (reduced_words l)
    lower_difference_lem r e =
        partly_difference w (get_or l 0 0) (get_or l 2 0) c ec r
        (e ∙ ap (λ (t : ℕ). sub_p t c) ea ∙ N.mod-add-mod (get_or l 0 0) P ((P - c % P) % P))
        ∙ ap₂ (butterfly_difference words31 w) (sym (reduced-at l 0)) (sym (reduced-at l 2))

  module _ (d : ℕ) (ed : d % P ≡ mul_p (get_or l 3 0) w) where
    pub upper-sum : (r : ℕ) → r ≡ add_p (get_or l 1 0) d → r ≡ upper_sum w (reduced_words l)
    upper-sum r e =
        partly_sum w (get_or l 1 0) (get_or l 3 0) d ed r e ∙ ap₂ (butterfly_sum words31 w) (sym (reduced-at l 1)) (sym (reduced-at l 3))

    pub upper_difference_lem : (r : ℕ) → r ≡ sub_p (get_or l 1 0) d → r ≡ upper_difference w (reduced_words l)
    upper_difference_lem r e = partly_difference w (get_or l 1 0) (get_or l 3 0) d ed r e
        ∙ ap₂ (butterfly_difference words31 w) (sym (reduced-at l 1)) (sym (reduced-at l 3))

evaluate_four : (w v u : ℕ) (l : List ℕ) → length l ≡ 4
    → evaluate_block words31 2 (pair_twiddle w v u) 0 l
    ≡ butterfly_sum words31 v (lower_sum w l) (upper_sum w l) ∷ butterfly_difference words31 v (lower_sum w l) (upper_sum w l)
    ∷ butterfly_sum words31 u (lower_difference w l) (upper_difference w l) ∷ butterfly_difference words31 u (lower_difference w l)
    (upper_difference w l) ∷ []
unfolding evaluate_block zip_with pair_twiddle
evaluate_four w v u l e = ap (evaluate_block words31 2 (pair_twiddle w v u) 0) (four_words l e)

-- two layers depend on three twiddles
pub evaluate_two_layers : (tw tv : ℕ → ℕ → ℕ) (i j : ℕ) → tw 1 i ≡ tv 1 j → tw 0 (2 * i) ≡ tv 0 (2 * j)
    → tw 0 (2 * i + 1) ≡ tv 0 (2 * j + 1)
    → (l : List ℕ) → evaluate_block words31 2 tw i l ≡ evaluate_block words31 2 tv j l
unfolding evaluate_block
evaluate_two_layers tw tv i j e f g l = λ k. layered (e k) (f k) (g k)
  where
    layered : ℕ → ℕ → ℕ → List ℕ
    layered w v u =
        (on_halves (butterfly_sum words31 v) 1 (on_halves (butterfly_sum words31 w) 2 l)
        ++ on_halves (butterfly_difference words31 v) 1 (on_halves (butterfly_sum words31 w) 2 l))
        ++ (on_halves (butterfly_sum words31 u) 1 (on_halves (butterfly_difference words31 w) 2 l)
        ++ on_halves (butterfly_difference words31 u) 1 (on_halves (butterfly_difference words31 w) 2 l))

-- four words below P, written over those that stand for l
module _ (w v : ℕ) (block l : List ℕ) (size : length block ≡ 4) (e : length l ≡ 4) (r0 r1 r2 r3 : ℕ) where
  plain_evaluated : r0 ≡ butterfly_sum words31 v (lower_sum w l) (upper_sum w l)
      → r1 ≡ butterfly_difference words31 v (lower_sum w l) (upper_sum w l)
      → r2 ≡ butterfly_difference words31 v (lower_difference w l) (upper_difference w l)
      → r3 ≡ butterfly_sum words31 v (lower_difference w l) (upper_difference w l)
      → set (set (set (set block 0 r0) 1 r1) 2 r2) 3 r3 ≡ evaluate_block words31 2 (pair_twiddle w v (neg_p v)) 0 l
  plain_evaluated e0 e1 e2 e3 =
      written block size r0 r1 r2 r3
      ∙ four_equal e0 e1 (e2 ∙ sym (sum_negative v (lower_difference w l) (upper_difference w l)))
      (e3 ∙ sym (difference_negative v (lower_difference w l) (upper_difference w l)))
      ∙ sym (evaluate_four w v (neg_p v) l e)

  negated_evaluated : r0 ≡ butterfly_difference words31 v (lower_sum w l) (upper_sum w l)
      → r1 ≡ butterfly_sum words31 v (lower_sum w l) (upper_sum w l)
      → r2 ≡ butterfly_sum words31 v (lower_difference w l) (upper_difference w l)
      → r3 ≡ butterfly_difference words31 v (lower_difference w l) (upper_difference w l)
      → set (set (set (set block 0 r0) 1 r1) 2 r2) 3 r3 ≡ evaluate_block words31 2 (pair_twiddle w (neg_p v) v) 0 l
  negated_evaluated e0 e1 e2 e3 =
      written block size r0 r1 r2 r3
      ∙ four_equal (e0 ∙ sym (sum_negative v (lower_sum w l) (upper_sum w l)))
      (e1 ∙ sym (difference_negative v (lower_sum w l) (upper_sum w l))) e2 e3
      ∙ sym (evaluate_four w (neg_p v) v l e)

  -- the sum and the difference of each pair, which change places where v is negated
  pub four_evaluated : (negated : Bool) (s d t u : ℕ) → s ≡ butterfly_sum words31 v (lower_sum w l) (upper_sum w l)
      → d ≡ butterfly_difference words31 v (lower_sum w l) (upper_sum w l)
      → t ≡ butterfly_sum words31 v (lower_difference w l) (upper_difference w l)
      → u ≡ butterfly_difference words31 v (lower_difference w l) (upper_difference w l)
      → (r0 ≡ cond negated d s) × (r1 ≡ cond negated s d) → (r2 ≡ cond negated t u) × (r3 ≡ cond negated u t)
      → set (set (set (set block 0 r0) 1 r1) 2 r2) 3 r3 ≡ evaluate_block words31 2 (four_twiddle negated w v) 0 l
  four_evaluated false s d t u es ed et eu p q = plain_evaluated (p.0 ∙ es) (p.1 ∙ ed) (q.0 ∙ eu) (q.1 ∙ et)
  four_evaluated true s d t u es ed et eu p q = negated_evaluated (p.0 ∙ ed) (p.1 ∙ es) (q.0 ∙ et) (q.1 ∙ eu)

-- ---- interpolation

-- the words after the first layer
abbrev pub first_sum : List ℕ → ℕ
first_sum l = inverse_sum words31 (get_or l 0 0) (get_or l 1 0)

abbrev pub second_sum : List ℕ → ℕ
second_sum l = inverse_sum words31 (get_or l 2 0) (get_or l 3 0)

abbrev pub first_difference : ℕ → List ℕ → ℕ
first_difference v l = inverse_difference words31 v (get_or l 0 0) (get_or l 1 0)

abbrev pub second_difference : ℕ → List ℕ → ℕ
second_difference v l = inverse_difference words31 v (get_or l 2 0) (get_or l 3 0)

-- the same with the negative of the twiddle
abbrev pub first_negative : ℕ → List ℕ → ℕ
first_negative v l = inverse_difference words31 v (get_or l 1 0) (get_or l 0 0)

abbrev pub second_negative : ℕ → List ℕ → ℕ
second_negative v l = inverse_difference words31 v (get_or l 3 0) (get_or l 2 0)

interpolate_four : (w v u : ℕ) (l : List ℕ) → length l ≡ 4
    → interpolate_block words31 2 (pair_twiddle w v u) 0 l
    ≡ inverse_sum words31 (first_sum l) (second_sum l) ∷ inverse_sum words31 (first_difference v l) (second_difference u l)
    ∷ inverse_difference words31 w (first_sum l) (second_sum l) ∷ inverse_difference words31 w (first_difference v l)
    (second_difference u l) ∷ []
unfolding interpolate_block zip_with pair_twiddle
interpolate_four w v u l e = ap (interpolate_block words31 2 (pair_twiddle w v u) 0) (four_words l e)

pub interpolate_two_layers : (tw tv : ℕ → ℕ → ℕ) (i j : ℕ) → tw 1 i ≡ tv 1 j → tw 0 (2 * i) ≡ tv 0 (2 * j)
    → tw 0 (2 * i + 1) ≡ tv 0 (2 * j + 1)
    → (l : List ℕ) → interpolate_block words31 2 tw i l ≡ interpolate_block words31 2 tv j l
unfolding interpolate_block
interpolate_two_layers tw tv i j e f g l = λ k. layered (e k) (pair (f k) (take 2 l)) (pair (g k) (drop 2 l))
  where
    pair : ℕ → List ℕ → List ℕ
    pair v d = on_halves (inverse_sum words31) 1 d ++ on_halves (inverse_difference words31 v) 1 d

    layered : ℕ → List ℕ → List ℕ → List ℕ
    layered w a b = zip_with (inverse_sum words31) a b ++ zip_with (inverse_difference words31 w) a b

-- what the one of two words stands for
pub chosen_reduced : (negated : Bool) (l : List ℕ) (i j r : ℕ) → r ≡ cond negated (get_or l i 0) (get_or l j 0)
    → r % P ≡ cond negated (get_or (reduced_words l) i 0) (get_or (reduced_words l) j 0)
chosen_reduced false l i j r e = ap (λ (n : ℕ). n % P) e ∙ sym (reduced-at l j)
chosen_reduced true l i j r e = ap (λ (n : ℕ). n % P) e ∙ sym (reduced-at l i)

-- four words, written, and what they stand for
pub four_reduced : (l : List ℕ) (r0 r1 r2 r3 : ℕ)
    → reduced_words (set (set (set (set l 0 r0) 1 r1) 2 r2) 3 r3)
    ≡ set (set (set (set (reduced_words l) 0 (r0 % P)) 1 (r1 % P)) 2 (r2 % P)) 3 (r3 % P)
four_reduced l r0 r1 r2 r3 =
    reduced-set (set (set (set l 0 r0) 1 r1) 2 r2) 3 r3
    ∙ ap (λ (m : List ℕ). set m 3 (r3 % P)) (reduced-set (set (set l 0 r0) 1 r1) 2 r2
    ∙ ap (λ (m : List ℕ). set m 2 (r2 % P)) (reduced-set (set l 0 r0) 1 r1 ∙ ap (λ (m : List ℕ). set m 1 (r1 % P)) (reduced-set l 0 r0)))

pub four_partly : (l : List ℕ) (r0 r1 r2 r3 : ℕ) → PartlyReduced l → r0 ≤ P → r1 ≤ P → r2 ≤ P → r3 ≤ P
    → PartlyReduced (set (set (set (set l 0 r0) 1 r1) 2 r2) 3 r3)
four_partly l r0 r1 r2 r3 p h0 h1 h2 h3 =
    partly_set (set (set (set l 0 r0) 1 r1) 2 r2) 3 r3
    (partly_set (set (set l 0 r0) 1 r1) 2 r2 (partly_set (set l 0 r0) 1 r1 (partly_set l 0 r0 p h0) h1) h2) h3

module _ (w v : ℕ) (l : List ℕ) (e : length l ≡ 4) (r0 r1 r2 r3 : ℕ) where
  plain_interpolated : r0 ≡ inverse_sum words31 (first_sum l) (second_sum l)
      → r1 ≡ inverse_sum words31 (first_difference v l) (second_negative v l)
      → r2 ≡ inverse_difference words31 w (first_sum l) (second_sum l)
      → r3 ≡ inverse_difference words31 w (first_difference v l) (second_negative v l)
      → set (set (set (set l 0 r0) 1 r1) 2 r2) 3 r3 ≡ interpolate_block words31 2 (pair_twiddle w v (neg_p v)) 0 l
  plain_interpolated e0 e1 e2 e3 =
      let negated : second_negative v l ≡ second_difference (neg_p v) l = sym (inverse_negative v (get_or l 2 0) (get_or l 3 0)) in
      written l e r0 r1 r2 r3
      ∙ four_equal e0 (e1 ∙ ap (inverse_sum words31 (first_difference v l)) negated) e2
      (e3 ∙ ap (inverse_difference words31 w (first_difference v l)) negated)
      ∙ sym (interpolate_four w v (neg_p v) l e)

  negated_interpolated : r0 ≡ inverse_sum words31 (first_sum l) (second_sum l)
      → r1 ≡ inverse_sum words31 (first_negative v l) (second_difference v l)
      → r2 ≡ inverse_difference words31 w (first_sum l) (second_sum l)
      → r3 ≡ inverse_difference words31 w (first_negative v l) (second_difference v l)
      → set (set (set (set l 0 r0) 1 r1) 2 r2) 3 r3 ≡ interpolate_block words31 2 (pair_twiddle w (neg_p v) v) 0 l
  negated_interpolated e0 e1 e2 e3 =
      let negated : first_negative v l ≡ first_difference (neg_p v) l = sym (inverse_negative v (get_or l 0 0) (get_or l 1 0)) in
      written l e r0 r1 r2 r3
      ∙ four_equal e0 (e1 ∙ ap (λ (m : ℕ). inverse_sum words31 m (second_difference v l)) negated) e2
      (e3 ∙ ap (λ (m : ℕ). inverse_difference words31 w m (second_difference v l)) negated)
      ∙ sym (interpolate_four w (neg_p v) v l e)

  -- by the words of the pairs, which change places where v is negated
  pub four_interpolated : (negated : Bool) (a b c d : ℕ)
      → (a ≡ cond negated (get_or l 1 0) (get_or l 0 0)) × (b ≡ cond negated (get_or l 0 0) (get_or l 1 0))
      → (c ≡ cond negated (get_or l 2 0) (get_or l 3 0)) × (d ≡ cond negated (get_or l 3 0) (get_or l 2 0))
      → r0 ≡ inverse_sum words31 (inverse_sum words31 a b) (inverse_sum words31 c d)
      → r1 ≡ inverse_sum words31 (inverse_difference words31 v a b) (inverse_difference words31 v c d)
      → r2 ≡ inverse_difference words31 w (inverse_sum words31 a b) (inverse_sum words31 c d)
      → r3 ≡ inverse_difference words31 w (inverse_difference words31 v a b) (inverse_difference words31 v c d)
      → set (set (set (set l 0 r0) 1 r1) 2 r2) 3 r3 ≡ interpolate_block words31 2 (four_twiddle negated w v) 0 l
  four_interpolated false a b c d p q e0 e1 e2 e3 =
      let first : inverse_sum words31 a b ≡ first_sum l = ap₂ (inverse_sum words31) p.0 p.1 in
      let second : inverse_sum words31 c d ≡ second_sum l = ap₂ (inverse_sum words31) q.0 q.1 ∙ inverse_sum_comm _ _ in
      let lower : inverse_difference words31 v a b ≡ first_difference v l = ap₂ (inverse_difference words31 v) p.0 p.1 in
      let upper : inverse_difference words31 v c d ≡ second_negative v l = ap₂ (inverse_difference words31 v) q.0 q.1 in
      plain_interpolated (e0 ∙ ap₂ (inverse_sum words31) first second) (e1 ∙ ap₂ (inverse_sum words31) lower upper)
      (e2 ∙ ap₂ (inverse_difference words31 w) first second) (e3 ∙ ap₂ (inverse_difference words31 w) lower upper)
  four_interpolated true a b c d p q e0 e1 e2 e3 =
      let first : inverse_sum words31 a b ≡ first_sum l = ap₂ (inverse_sum words31) p.0 p.1 ∙ inverse_sum_comm _ _ in
      let second : inverse_sum words31 c d ≡ second_sum l = ap₂ (inverse_sum words31) q.0 q.1 in
      let lower : inverse_difference words31 v a b ≡ first_negative v l = ap₂ (inverse_difference words31 v) p.0 p.1 in
      let upper : inverse_difference words31 v c d ≡ second_difference v l = ap₂ (inverse_difference words31 v) q.0 q.1 in
      negated_interpolated (e0 ∙ ap₂ (inverse_sum words31) first second) (e1 ∙ ap₂ (inverse_sum words31) lower upper)
      (e2 ∙ ap₂ (inverse_difference words31 w) first second) (e3 ∙ ap₂ (inverse_difference words31 w) lower upper)

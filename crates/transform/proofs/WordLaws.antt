-- Words stay below P.
use Prim.Native.Nat.{ℕ, zero, suc, ◌+◌, ◌*◌, ◌^◌, ◌<◌}
use mathlib.Core.List.{List, [], ◌∷◌, ◌++◌, zip_with}
use lib.ListN.{take, drop, set}
use lib.Seq.{get_or-drop}
use Rattle.algebra.specs.M31.{P, P_pos}
use Rattle.fields.specs.Words.{words31}
use Rattle.fields.specs.Inverse.{m31_representation}
use Rattle.column.specs.Butterflies.{on_halves, butterfly_sum, butterfly_difference, evaluate_block}
use Rattle.column.specs.Butterflies.{inverse_sum, inverse_difference, inverse_butterflies, scaled}
use Rattle.transform.specs.Tree.{Each, Words}

-- a property of each word; past the end stands 0
module _ (C : ℕ → Type 0) (none : C 0) where
  pub each_append : (a b : List ℕ) → Each C a → Each C b → Each C (a ++ b)
  each_append [] b wa wb k = wb k
  each_append (x ∷ a) b wa wb zero = wa 0
  each_append (x ∷ a) b wa wb (suc k) = each_append a b (λ j. wa (suc j)) wb k

  pub each_take : (n : ℕ) (a : List ℕ) → Each C a → Each C (take n a)
  each_take zero a wa k = none
  each_take (suc n) [] wa k = none
  each_take (suc n) (x ∷ a) wa zero = wa 0
  each_take (suc n) (x ∷ a) wa (suc k) = each_take n a (λ j. wa (suc j)) k

  pub each_drop : (n : ℕ) (a : List ℕ) → Each C a → Each C (drop n a)
  each_drop n a wa k = rw (get_or-drop n a k 0) (wa (n + k))

  pub each_set : (l : List ℕ) (i w : ℕ) → Each C l → C w → Each C (set l i w)
  each_set [] i w wl cw k = wl k
  each_set (x ∷ l) zero w wl cw zero = cw
  each_set (x ∷ l) zero w wl cw (suc k) = wl (suc k)
  each_set (x ∷ l) (suc i) w wl cw zero = wl 0
  each_set (x ∷ l) (suc i) w wl cw (suc k) = each_set l i w (λ j. wl (suc j)) cw k

abbrev pub words_append : (a b : List ℕ) → Words a → Words b → Words (a ++ b)
words_append = each_append (λ (w : ℕ). w < P) P_pos

abbrev pub words-drop : (n : ℕ) (a : List ℕ) → Words a → Words (drop n a)
words-drop = each_drop (λ (w : ℕ). w < P) P_pos

words-zip : (f : ℕ → ℕ → ℕ) → ((x y : ℕ) → f x y < P) → (a b : List ℕ) → Words (zip_with f a b)
unfolding zip_with
words-zip f h [] b k = P_pos
words-zip f h (x ∷ a) [] k = P_pos
words-zip f h (x ∷ a) (y ∷ b) zero = h x y
words-zip f h (x ∷ a) (y ∷ b) (suc k) = words-zip f h a b k

pub sum_word : (w x y : ℕ) → butterfly_sum words31 w x y < P
unfolding butterfly_sum
sum_word w x y = m31_representation.add-reduced _ _

pub difference_word : (w x y : ℕ) → butterfly_difference words31 w x y < P
unfolding butterfly_difference
difference_word w x y = m31_representation.add-reduced _ _

inverse_sum_word : (x y : ℕ) → inverse_sum words31 x y < P
unfolding inverse_sum
inverse_sum_word x y = m31_representation.add-reduced _ _

inverse_difference_word : (t x y : ℕ) → inverse_difference words31 t x y < P
unfolding inverse_difference
inverse_difference_word t x y = m31_representation.mul-reduced _ _

pub words_inverse : (half t : ℕ) (c : List ℕ) → Words (inverse_butterflies words31 half t c)
unfolding inverse_butterflies
words_inverse half t c =
    words_append (on_halves (inverse_sum words31) half c) (on_halves (inverse_difference words31 t) half c)
    (words-zip (inverse_sum words31) inverse_sum_word (take half c) (drop half c))
    (words-zip (inverse_difference words31 t) (inverse_difference_word t) (take half c) (drop half c))

pub words_evaluate : (k : ℕ) (tw : ℕ → ℕ → ℕ) (i : ℕ) (c : List ℕ) → Words c → Words (evaluate_block words31 k tw i c)
unfolding evaluate_block
words_evaluate zero tw i c w = w
words_evaluate (suc k) tw i c w =
    let lower : List ℕ = on_halves (butterfly_sum words31 (tw k i)) (2 ^ k) c in
    let upper : List ℕ = on_halves (butterfly_difference words31 (tw k i)) (2 ^ k) c in
    words_append (evaluate_block words31 k tw (2 * i) lower) (evaluate_block words31 k tw (2 * i + 1) upper)
    (words_evaluate k tw (2 * i) lower (words-zip (butterfly_sum words31 (tw k i)) (sum_word (tw k i)) (take (2 ^ k) c) (drop (2 ^ k) c)))
    (words_evaluate k tw (2 * i + 1) upper (words-zip (butterfly_difference words31 (tw k i)) (difference_word (tw k i))
    (take (2 ^ k) c) (drop (2 ^ k) c)))

pub words-scaled : (s : ℕ) (c : List ℕ) → Words (scaled words31 s c)
unfolding scaled
words-scaled s [] k = P_pos
words-scaled s (x ∷ c) zero = m31_representation.mul-reduced _ _
words-scaled s (x ∷ c) (suc k) = words-scaled s c k

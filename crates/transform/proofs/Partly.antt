-- Partly reduced words: lists of them, and what sums, differences and products with them stand for.
use Prim.Native.Nat.{ℕ, zero, suc, ◌+◌, ◌-◌, ◌%◌, ◌≤◌}
use mathlib.Core.Path.{◌≡◌, refl, sym, ◌∙◌, ap, ap₂}
use mathlib.Core.List.{List, [], ◌∷◌, ◌++◌, map-append}
use native.Mathlib.Nat as N
use native.Mathlib.Omega.{arith}
use lib.ListN.{length, get_or, take, drop, set, length-map, get_or-map}
use Rattle.algebra.specs.M31.{P, P_pos}
use Rattle.algebra.specs.ZMod.{mod-mul-mod}
use Rattle.fields.specs.Words.{add_p, sub_p, mul_p, words31}
use Rattle.column.specs.Butterflies.{butterfly_sum, butterfly_difference, inverse_sum, inverse_difference}
use Rattle.column.specs.Homomorphism.{map-take, map-drop}
use Rattle.transform.specs.Tree.{Words, PartlyReduced, reduced_words}
use Rattle.transform.proofs.WordLaws.{each_append, each_take, each_drop, each_set}

-- ---- lists

none : 0 ≤ P
none = omega arith

pub partly_words : (l : List ℕ) → Words l → PartlyReduced l
partly_words l w k = omega (arith, w k)

pub partly_set : (l : List ℕ) (i w : ℕ) → PartlyReduced l → w ≤ P → PartlyReduced (set l i w)
partly_set = each_set (λ (w : ℕ). w ≤ P) none

pub partly_take : (n : ℕ) (l : List ℕ) → PartlyReduced l → PartlyReduced (take n l)
partly_take = each_take (λ (w : ℕ). w ≤ P) none

pub partly_drop : (n : ℕ) (l : List ℕ) → PartlyReduced l → PartlyReduced (drop n l)
partly_drop = each_drop (λ (w : ℕ). w ≤ P) none

-- a part of a list rewritten
pub partly_spliced : (s n : ℕ) (l q : List ℕ) → PartlyReduced l → PartlyReduced q → PartlyReduced (take s l ++ (q ++ drop n (drop s l)))
partly_spliced s n l q pl pq =
    let append = each_append (λ (w : ℕ). w ≤ P) none in
    append (take s l) (q ++ drop n (drop s l)) (partly_take s l pl) (append q (drop n (drop s l)) pq (partly_drop n (drop s l)
    (partly_drop s l pl)))

pub reduced-length : (l : List ℕ) → length (reduced_words l) ≡ length l
reduced-length l = length-map l (λ (w : ℕ). w % P)

pub reduced-at : (l : List ℕ) (k : ℕ) → get_or (reduced_words l) k 0 ≡ get_or l k 0 % P
reduced-at l k = get_or-map (λ (w : ℕ). w % P) l k 0

pub reduced_below : (l : List ℕ) → Words (reduced_words l)
reduced_below l k = rw (reduced-at l k) (N.mod-lt (get_or l k 0) P_pos)

-- reduced words stand for themselves
pub reduced_same : (l : List ℕ) → Words l → reduced_words l ≡ l
reduced_same [] w = refl
reduced_same (x ∷ l) w = ap₂ ◌∷◌ (N.mod-eq_of_lt (w 0)) (reduced_same l (λ k. w (suc k)))

-- words below P are what they stand for
pub stands_for : (f : List ℕ → List ℕ) (q l : List ℕ) → Words q → Words l → reduced_words q ≡ f (reduced_words l) → q ≡ f l
stands_for f q l wq wl e = sym (reduced_same q wq) ∙ e ∙ ap f (reduced_same l wl)

pub reduced-set : (l : List ℕ) (i w : ℕ) → reduced_words (set l i w) ≡ set (reduced_words l) i (w % P)
reduced-set [] i w = refl
reduced-set (x ∷ l) zero w = refl
reduced-set (x ∷ l) (suc i) w = ap (λ (r : List ℕ). x % P ∷ r) (reduced-set l i w)

pub reduced-take : (n : ℕ) (l : List ℕ) → reduced_words (take n l) ≡ take n (reduced_words l)
reduced-take = map-take (λ (w : ℕ). w % P)

pub reduced-drop : (n : ℕ) (l : List ℕ) → reduced_words (drop n l) ≡ drop n (reduced_words l)
reduced-drop = map-drop (λ (w : ℕ). w % P)

pub reduced-part : (n s : ℕ) (l : List ℕ) → reduced_words (take n (drop s l)) ≡ take n (drop s (reduced_words l))
reduced-part n s l = reduced-take n (drop s l) ∙ ap (take n) (reduced-drop s l)

pub reduced_spliced : (s n : ℕ) (l q : List ℕ)
    → reduced_words (take s l ++ (q ++ drop n (drop s l))) ≡ take s (reduced_words l) ++ (reduced_words q ++ drop n
    (drop s (reduced_words l)))
reduced_spliced s n l q =
    map-append (λ (w : ℕ). w % P) (take s l) (q ++ drop n (drop s l))
    ∙ ap₂ ◌++◌ (reduced-take s l)
    (map-append (λ (w : ℕ). w % P) q (drop n (drop s l)) ∙ ap (λ (r : List ℕ). reduced_words q ++ r) (reduced-drop n (drop s l) ∙ ap
    (drop n) (reduced-drop s l)))

-- ---- sums and differences with a number that is reduced only by them

pub add_partly : (u v m : ℕ) → v % P ≡ m → add_p u v ≡ add_p u m
add_partly u v m e = sym (N.add-mod-mod u v P) ∙ ap (λ (t : ℕ). (u + t) % P) e

pub sub_partly : (u v m : ℕ) → v % P ≡ m → sub_p u v ≡ sub_p u m
sub_partly u v m e = ap (λ (t : ℕ). (u + (P - t) % P) % P) (sym (N.mod-mod v P) ∙ ap (λ (t : ℕ). t % P) e)

-- a product by what its first factor stands for
pub product_partly : (p r v u : ℕ) → p % P ≡ mul_p r v → r % P ≡ u → p % P ≡ mul_p u v
product_partly p r v u e f = e ∙ sym (mod-mul-mod r v P) ∙ ap (λ (t : ℕ). mul_p t v) f

-- ---- butterflies by their partly reduced product v

module _ (w x y v : ℕ) (e : v % P ≡ mul_p y w) where
  -- with a reduced word x
  pub reduced-sum : (r : ℕ) → r ≡ add_p x v → r ≡ butterfly_sum words31 w x y
  unfolding butterfly_sum
  reduced-sum r f = f ∙ add_partly x v (mul_p y w) e

  pub reduced_difference : (r : ℕ) → r ≡ sub_p x v → r ≡ butterfly_difference words31 w x y
  unfolding butterfly_difference
  reduced_difference r f = f ∙ sub_partly x v (mul_p y w) e

  -- of what x and y stand for
  pub partly_sum : (r : ℕ) → r ≡ add_p x v → r ≡ butterfly_sum words31 w (x % P) (y % P)
  unfolding butterfly_sum
  partly_sum r f =
      f ∙ add_partly x v (mul_p y w) e ∙ sym (N.mod-add-mod x P (mul_p y w)) ∙ ap (add_p (x % P)) (sym (mod-mul-mod y w P))

  pub partly_difference : (r : ℕ) → r ≡ sub_p x v → r ≡ butterfly_difference words31 w (x % P) (y % P)
  unfolding butterfly_difference
  partly_difference r f =
      f ∙ sub_partly x v (mul_p y w) e ∙ sym (N.mod-add-mod x P ((P - mul_p y w % P) % P)) ∙ ap (sub_p (x % P)) (sym (mod-mul-mod y w P))

-- ---- inverse butterflies of numbers that stand for x and y

module _ (u v x y : ℕ) (ex : u % P ≡ x) (ey : v % P ≡ y) where
  pub partly_inverse_sum : (r : ℕ) → r ≡ add_p u v → r ≡ inverse_sum words31 x y
  unfolding inverse_sum
  partly_inverse_sum r e = e ∙ N.add-mod u v P ∙ ap₂ add_p ex ey

  pub partly_inverse_difference : (t d r : ℕ) → d % P ≡ sub_p u v → r ≡ mul_p d t → r ≡ inverse_difference words31 t x y
  unfolding inverse_difference
  partly_inverse_difference t d r e f =
      f ∙ sym (mod-mul-mod d t P) ∙ ap (λ (m : ℕ). mul_p m t) (e ∙ sub_partly u v y ey ∙ sym (N.mod-add-mod u P ((P - y % P) % P)) ∙
      ap (λ (m : ℕ). sub_p m y) ex)

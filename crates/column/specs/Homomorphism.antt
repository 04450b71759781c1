-- A map that keeps the operations keeps values, evaluation and interpolation: words modulo P are tied to M31 once.
use Prim.Native.Nat.{ℕ, zero, suc, ◌+◌, ◌*◌, ◌/◌, ◌%◌, ◌^◌}
use Rattle.std.specs.Prelude.{◌≡◌, Bool, true, false, cond, eqb, get_or, take, drop}
use Rattle.std.proofs.Math.Path.{refl, ap, ap₂}
use Rattle.std.proofs.Common.{◌∙◌}
use mathlib.Core.List.{List, [], ◌∷◌, ◌++◌, map, map-append, zip_with}
use Rattle.algebra.specs.Ring.{Ops, sub}
use Rattle.algebra.specs.Homomorphism.{Homomorphism, on_pair, to_sub}
use Rattle.algebra.specs.CircleHomomorphism.{to_doublings_x}
use Rattle.algebra.specs.Listing.{listing}
use Rattle.column.specs.Column.{factor, product, sum, combination, value, values}
use Rattle.column.specs.Butterflies.{on_halves, butterfly_sum, butterfly_difference, evaluate_block}
use Rattle.column.specs.Butterflies.{inverse_sum, inverse_difference, interpolate_block, scaled, on_the_way}

module _ {X Y : Type 0} (f : X → Y) where
  pub map-take : (n : ℕ) (a : List X) → map f (take n a) ≡ take n (map f a)
  map-take zero a = refl
  map-take (suc n) [] = refl
  map-take (suc n) (x ∷ a) = ap (λ (r : List Y). f x ∷ r) (map-take n a)

  pub map-drop : (n : ℕ) (a : List X) → map f (drop n a) ≡ drop n (map f a)
  map-drop zero a = refl
  map-drop (suc n) [] = refl
  map-drop (suc n) (x ∷ a) = map-drop n a

  map-listing : (count : ℕ) (g : ℕ → X) (h : ℕ → Y) → ((i : ℕ) → f (g i) ≡ h i) → map f (listing count g) ≡ listing count h
  unfolding listing
  map-listing zero g h e = refl
  map-listing (suc count) g h e = ap₂ ◌∷◌ (e 0) (map-listing count (λ i. g (suc i)) (λ i. h (suc i)) (λ i. e (suc i)))

  module _ (g : X → X → X) (h : Y → Y → Y) (e : (x y : X) → f (g x y) ≡ h (f x) (f y)) where
    map-zip : (a b : List X) → map f (zip_with g a b) ≡ zip_with h (map f a) (map f b)
    unfolding zip_with
    map-zip [] b = refl
    map-zip (x ∷ a) [] = refl
    map-zip (x ∷ a) (y ∷ b) = ap₂ ◌∷◌ (e x y) (map-zip a b)

    map_halves : (half : ℕ) (c : List X) → map f (on_halves g half c) ≡ on_halves h half (map f c)
    map_halves half c = map-zip (take half c) (drop half c) ∙ ap₂ (zip_with h) (map-take half c) (map-drop half c)

module _ (A B : Ops) (f : A.El → B.El) (H : Homomorphism A B f) where
  open H use {to_zero, to_one, to_add, to_mul, to_neg}

  -- ---- the transform's sums

  pub to_factor : (p : A.El × A.El) (t : ℕ) → f (factor A p t) ≡ factor B (on_pair f p) t
  unfolding factor
  to_factor p zero = refl
  to_factor p (suc t) = to_doublings_x A B f H t p.0

  to_chosen : (b : Bool) (x y : A.El) → f (cond b x y) ≡ cond b (f x) (f y)
  to_chosen true x y = refl
  to_chosen false x y = refl

  to_product : (n : ℕ) (g : ℕ → A.El) (h : ℕ → B.El) → ((t : ℕ) → f (g t) ≡ h t) → (j : ℕ) → f (product A n g j) ≡ product B n h j
  unfolding product
  to_product zero g h e j = to_one
  to_product (suc n) g h e j =
      to_mul (product A n g j) (cond (eqb (j / 2 ^ n % 2) 1) (g n) A.one)
      ∙ ap₂ B.mul (to_product n g h e j)
      (to_chosen (eqb (j / 2 ^ n % 2) 1) (g n) A.one ∙ ap₂ (cond (eqb (j / 2 ^ n % 2) 1)) (e n) to_one)

  to_sum : (count : ℕ) (g : ℕ → A.El) (h : ℕ → B.El) → ((j : ℕ) → f (g j) ≡ h j) → f (sum A count g) ≡ sum B count h
  unfolding sum
  to_sum zero g h e = to_zero
  to_sum (suc count) g h e = to_add (sum A count g) (g count) ∙ ap₂ B.add (to_sum count g h e) (e count)

  to_at : (c : List A.El) (j : ℕ) → f (get_or c j A.zero) ≡ get_or (map f c) j B.zero
  to_at [] j = to_zero
  to_at (x ∷ c) zero = refl
  to_at (x ∷ c) (suc j) = to_at c j

  to_value : (n : ℕ) (c : List A.El) (p : A.El × A.El) → f (value A n c p) ≡ value B n (map f c) (on_pair f p)
  unfolding combination
  to_value n c p =
      to_sum (2 ^ n) (λ j. A.mul (get_or c j A.zero) (product A n (factor A p) j))
      (λ j. B.mul (get_or (map f c) j B.zero) (product B n (factor B (on_pair f p)) j))
      (λ j. to_mul (get_or c j A.zero) (product A n (factor A p) j)
      ∙ ap₂ B.mul (to_at c j) (to_product n (factor A p) (factor B (on_pair f p)) (to_factor p) j))

  pub to_values : (n : ℕ) (point : ℕ → A.El × A.El) (c : List A.El)
      → map f (values A n point c) ≡ values B n (λ p. on_pair f (point p)) (map f c)
  unfolding values
  to_values n point c =
      map-listing f (2 ^ n) (λ p. value A n c (point p)) (λ p. value B n (map f c) (on_pair f (point p))) (λ p. to_value n c (point p))

  -- ---- butterflies

  pub to_way : (tw : ℕ → ℕ → A.El) (q t : ℕ) → f (on_the_way A tw q t) ≡ on_the_way B (λ t i. f (tw t i)) q t
  unfolding on_the_way
  to_way tw q t =
      to_chosen (eqb (q / 2 ^ t % 2) 0) (tw t (q / 2 ^ suc t)) (A.neg (tw t (q / 2 ^ suc t)))
      ∙ ap (cond (eqb (q / 2 ^ t % 2) 0) (f (tw t (q / 2 ^ suc t)))) (to_neg (tw t (q / 2 ^ suc t)))

  to_butterfly_sum : (w x y : A.El) → f (butterfly_sum A w x y) ≡ butterfly_sum B (f w) (f x) (f y)
  unfolding butterfly_sum
  to_butterfly_sum w x y = to_add x (A.mul y w) ∙ ap (B.add (f x)) (to_mul y w)

  to_butterfly_difference : (w x y : A.El) → f (butterfly_difference A w x y) ≡ butterfly_difference B (f w) (f x) (f y)
  unfolding butterfly_difference
  to_butterfly_difference w x y = to_sub A B f H x (A.mul y w) ∙ ap (sub B (f x)) (to_mul y w)

  to_inverse_sum : (x y : A.El) → f (inverse_sum A x y) ≡ inverse_sum B (f x) (f y)
  unfolding inverse_sum
  to_inverse_sum x y = to_add x y

  to_inverse_difference : (t x y : A.El) → f (inverse_difference A t x y) ≡ inverse_difference B (f t) (f x) (f y)
  unfolding inverse_difference
  to_inverse_difference t x y = to_mul (sub A x y) t ∙ ap (λ (d : B.El). B.mul d (f t)) (to_sub A B f H x y)

  pub to_evaluate : (k : ℕ) (tw : ℕ → ℕ → A.El) (i : ℕ) (c : List A.El)
      → map f (evaluate_block A k tw i c) ≡ evaluate_block B k (λ t i. f (tw t i)) i (map f c)
  unfolding evaluate_block
  to_evaluate zero tw i c = refl
  to_evaluate (suc k) tw i c =
      let lower : List A.El = on_halves (butterfly_sum A (tw k i)) (2 ^ k) c in
      let upper : List A.El = on_halves (butterfly_difference A (tw k i)) (2 ^ k) c in
      let tv : ℕ → ℕ → B.El = λ t i. f (tw t i) in
      map-append f (evaluate_block A k tw (2 * i) lower) (evaluate_block A k tw (2 * i + 1) upper)
      ∙ ap₂ ◌++◌
      (to_evaluate k tw (2 * i) lower
      ∙ ap (evaluate_block B k tv (2 * i))
      (map_halves f (butterfly_sum A (tw k i)) (butterfly_sum B (f (tw k i))) (to_butterfly_sum (tw k i)) (2 ^ k) c))
      (to_evaluate k tw (2 * i + 1) upper
      ∙ ap (evaluate_block B k tv (2 * i + 1))
      (map_halves f (butterfly_difference A (tw k i)) (butterfly_difference B (f (tw k i))) (to_butterfly_difference (tw k i)) (2 ^ k) c))

  pub to_interpolate : (k : ℕ) (tv : ℕ → ℕ → A.El) (i : ℕ) (v : List A.El)
      → map f (interpolate_block A k tv i v) ≡ interpolate_block B k (λ t i. f (tv t i)) i (map f v)
  unfolding interpolate_block
  to_interpolate zero tv i v = refl
  to_interpolate (suc k) tv i v =
      let a : List A.El = interpolate_block A k tv (2 * i) (take (2 ^ k) v) in
      let b : List A.El = interpolate_block A k tv (2 * i + 1) (drop (2 ^ k) v) in
      let tu : ℕ → ℕ → B.El = λ t i. f (tv t i) in
      let first : map f a ≡ interpolate_block B k tu (2 * i) (take (2 ^ k) (map f v)) =
      to_interpolate k tv (2 * i) (take (2 ^ k) v) ∙ ap (interpolate_block B k tu (2 * i)) (map-take f (2 ^ k) v) in
      let second : map f b ≡ interpolate_block B k tu (2 * i + 1) (drop (2 ^ k) (map f v)) =
      to_interpolate k tv (2 * i + 1) (drop (2 ^ k) v) ∙ ap (interpolate_block B k tu (2 * i + 1)) (map-drop f (2 ^ k) v) in
      map-append f (zip_with (inverse_sum A) a b) (zip_with (inverse_difference A (tv k i)) a b)
      ∙ ap₂ ◌++◌
      (map-zip f (inverse_sum A) (inverse_sum B) to_inverse_sum a b ∙ ap₂ (zip_with (inverse_sum B)) first second)
      (map-zip f (inverse_difference A (tv k i)) (inverse_difference B (f (tv k i))) (to_inverse_difference (tv k i)) a b
      ∙ ap₂ (zip_with (inverse_difference B (f (tv k i)))) first second)

  pub to_scaled : (s : A.El) (a : List A.El) → map f (scaled A s a) ≡ scaled B (f s) (map f a)
  unfolding scaled
  to_scaled s [] = refl
  to_scaled s (x ∷ a) = ap₂ ◌∷◌ (to_mul x s) (to_scaled s a)

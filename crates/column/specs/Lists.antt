-- Laws of zip_with and of the halves of a list.
use Prim.Native.Nat.{ℕ, zero, suc, ◌^◌, ◌<◌}
use Rattle.std.specs.Prelude.{◌≡◌, length, get_or, take, drop}
use Rattle.std.proofs.Math.Path.{refl, ap}
use Rattle.std.proofs.Common.{sym, ◌∙◌, arith, length-drop, length-take-le}
use mathlib.Core.List.{List, [], ◌∷◌, zip_with}
use Rattle.std.proofs.Math.Nat as N
use Rattle.column.specs.Butterflies.{on_halves}

module _ {A : Type 0} where
  pub zip_length : (f : A → A → A) (a b : List A) → length b ≡ length a → length (zip_with f a b) ≡ length a
  unfolding zip_with
  zip_length f [] b e = refl
  zip_length f (x ∷ a) [] e = e
  zip_length f (x ∷ a) (y ∷ b) e = ap suc (zip_length f a b (omega arith))

  pub zip-take : (f : A → A → A) (a b : List A) (n : ℕ) → take n (zip_with f a b) ≡ zip_with f (take n a) (take n b)
  unfolding zip_with
  zip-take f a b zero = refl
  zip-take f [] b (suc n) = refl
  zip-take f (x ∷ a) [] (suc n) = refl
  zip-take f (x ∷ a) (y ∷ b) (suc n) = ap (λ (r : List A). f x y ∷ r) (zip-take f a b n)

  pub zip-drop : (f : A → A → A) (a b : List A) (n : ℕ) → length b ≡ length a → drop n (zip_with f a b) ≡ zip_with f (drop n a) (drop n b)
  unfolding zip_with
  zip-drop f a b zero e = refl
  zip-drop f [] b (suc n) e = refl
  zip-drop f (x ∷ a) [] (suc n) e = absurd (omega arith)
  zip-drop f (x ∷ a) (y ∷ b) (suc n) e = zip-drop f a b n (omega arith)

  pub zip-at : (d : A) (f : A → A → A) (a b : List A) (i : ℕ) → length b ≡ length a → i < length a
      → get_or (zip_with f a b) i d ≡ f (get_or a i d) (get_or b i d)
  unfolding zip_with
  zip-at d f [] b i e h = absurd (omega arith)
  zip-at d f (x ∷ a) [] i e h = absurd (omega arith)
  zip-at d f (x ∷ a) (y ∷ b) zero e h = refl
  zip-at d f (x ∷ a) (y ∷ b) (suc i) e h = zip-at d f a b i (omega arith) (omega arith)

  pub zip-zip : (g f f' : A → A → A) (a b : List A)
      → zip_with g (zip_with f a b) (zip_with f' a b) ≡ zip_with (λ (x y : A). g (f x y) (f' x y)) a b
  unfolding zip_with
  zip-zip g f f' [] b = refl
  zip-zip g f f' (x ∷ a) [] = refl
  zip-zip g f f' (x ∷ a) (y ∷ b) = ap (λ (r : List A). g (f x y) (f' x y) ∷ r) (zip-zip g f f' a b)

  pub zip-equal : (f g : A → A → A) → ((x y : A) → f x y ≡ g x y) → (a b : List A) → zip_with f a b ≡ zip_with g a b
  zip-equal f g e a b = ap (λ (h : A → A → A). zip_with h a b) (λ i x y. e x y i)

  -- the halves of a list of 2^(k + 1)
  module _ (k : ℕ) (c : List A) (e : length c ≡ 2 ^ suc k) where
    pub lower-length : length (take (2 ^ k) c) ≡ 2 ^ k
    lower-length = length-take-le (2 ^ k) c (omega (arith, N.two-pow-succ k))

    pub upper-length : length (drop (2 ^ k) c) ≡ 2 ^ k
    upper-length = length-drop (2 ^ k) c ∙ omega (arith, N.two-pow-succ k)

    pub halves_length : (f : A → A → A) → length (on_halves f (2 ^ k) c) ≡ 2 ^ k
    halves_length f = zip_length f (take (2 ^ k) c) (drop (2 ^ k) c) (upper-length ∙ sym lower-length) ∙ lower-length

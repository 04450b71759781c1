-- Lists of so many values of a function.
use Prim.Native.Nat.{ℕ, zero, suc, ◌<◌}
use Rattle.std.specs.Prelude.{◌≡◌, List, [], ◌∷◌, length, get_or}
use Rattle.std.proofs.Math.Path.{refl, ap}
use Rattle.std.proofs.Math.Nat as N

module _ {A : Type 0} where
  -- f 0, f 1, .., so many of them
  unfoldable pub listing : ℕ → (ℕ → A) → List A
  listing zero f = []
  listing (suc count) f = f 0 ∷ listing count (λ i. f (suc i))

  pub listing-length : (count : ℕ) (f : ℕ → A) → length (listing count f) ≡ count
  unfolding listing
  listing-length zero f = refl
  listing-length (suc count) f = ap suc (listing-length count (λ i. f (suc i)))

  pub listing-at : (d : A) (count : ℕ) (f : ℕ → A) (i : ℕ) → i < count → get_or (listing count f) i d ≡ f i
  unfolding listing
  listing-at d zero f i h = absurd (N.not-suc-le-zero h)
  listing-at d (suc count) f zero h = refl
  listing-at d (suc count) f (suc i) h = listing-at d count (λ i. f (suc i)) i (N.le_of_suc-le-suc h)

-- A listing written word by word over the start of a list.
use Rattle.std.specs.Prelude.{ℕ, zero, suc, ◌+◌, ◌<◌, ◌≡◌, List, [], ◌∷◌, ◌++◌, length, drop, refl}
use Rattle.std.proofs.Common.{ap, add-one}
use Rattle.std.proofs.Math.Nat as N
use Rattle.std.proofs.Math.ListN.{set}
use Rattle.algebra.specs.Listing.{listing}

pub listing_none : (f : ℕ → ℕ) (l : List ℕ) → l ≡ listing 0 f ++ drop 0 l
unfolding listing
listing_none f l = refl

next : (f : ℕ → ℕ) (i : ℕ) (l : List ℕ) → i < length l → set (listing i f ++ drop i l) i (f i) ≡ listing (suc i) f ++ drop (suc i) l
unfolding listing
next f i [] h = absurd (N.not-suc-le-zero h)
next f zero (x ∷ l) h = refl
next f (suc i) (x ∷ l) h = ap (λ (t : List ℕ). f 0 ∷ t) (next (λ k. f (suc k)) i l (N.le_of_suc-le-suc h))

pub listing_next : (f : ℕ → ℕ) (i v : ℕ) (l m : List ℕ) → m ≡ listing i f ++ drop i l → v ≡ f i → i < length l → set m i v ≡ listing
    (i + 1) f ++ drop (i + 1) l
listing_next f i v l m e g h = rw (e, g, add-one) (next f i l h)

pub ruleset shifts = (listing_none, listing_next)

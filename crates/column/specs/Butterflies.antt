-- Evaluation and interpolation by halves, over any operations.
use Rattle.std.specs.Prelude.{ℕ, zero, suc, ◌+◌, ◌*◌, ◌/◌, ◌%◌, ◌^◌, cond, eqb, get_or, take, drop}
use mathlib.Core.List.{List, [], ◌∷◌, ◌++◌, zip_with}
use Rattle.algebra.specs.Ring.{Ops, sub}

-- f on the two halves of a list side by side, so many elements each
abbrev pub on_halves : {A : Type 0} → (A → A → A) → ℕ → List A → List A
on_halves f half c = zip_with f (take half c) (drop half c)

module _ (O : Ops) where
  open O use {El, zero as 𝟘, add as ◌⊕◌, mul as ◌⊗◌, neg as ⊖◌}

  infixl 65 ◌⊕◌
  infixl 70 ◌⊗◌
  infix 80 ⊖◌
  -- a butterfly with twiddle w
  unfoldable pub butterfly_sum : El → El → El → El
  butterfly_sum w u v = u ⊕ v ⊗ w

  unfoldable pub butterfly_difference : El → El → El → El
  butterfly_difference w u v = sub O u (v ⊗ w)

  -- butterflies with twiddle w over the halves of a block
  unfoldable pub butterflies : ℕ → El → List El → List El
  butterflies half w c = on_halves (butterfly_sum w) half c ++ on_halves (butterfly_difference w) half c

  -- A block of 2^k coefficients becomes its values. Block i has the halves 2i and 2i + 1; tw t i is the twiddle of block i
  -- of 2^(t + 1) elements.
  unfoldable pub evaluate_block : ℕ → (ℕ → ℕ → El) → ℕ → List El → List El
  evaluate_block zero tw i c = c
  evaluate_block (suc k) tw i c =
      evaluate_block k tw (2 * i) (on_halves (butterfly_sum (tw k i)) (2 ^ k) c)
      ++ evaluate_block k tw (2 * i + 1) (on_halves (butterfly_difference (tw k i)) (2 ^ k) c)

  -- an inverse butterfly with the inverse t of the twiddle, not halved
  unfoldable pub inverse_sum : El → El → El
  inverse_sum u v = u ⊕ v

  unfoldable pub inverse_difference : El → El → El → El
  inverse_difference t u v = sub O u v ⊗ t

  unfoldable pub inverse_butterflies : ℕ → El → List El → List El
  inverse_butterflies half t c = on_halves inverse_sum half c ++ on_halves (inverse_difference t) half c

  -- a block of 2^k values becomes 2^k times its coefficients; tv holds the inverses of the twiddles
  unfoldable pub interpolate_block : ℕ → (ℕ → ℕ → El) → ℕ → List El → List El
  interpolate_block zero tv i v = v
  interpolate_block (suc k) tv i v =
      zip_with inverse_sum (interpolate_block k tv (2 * i) (take (2 ^ k) v)) (interpolate_block k tv (2 * i + 1) (drop (2 ^ k) v))
      ++ zip_with (inverse_difference (tv k i)) (interpolate_block k tv (2 * i) (take (2 ^ k) v))
      (interpolate_block k tv (2 * i + 1) (drop (2 ^ k) v))

  -- each element times s
  unfoldable pub scaled : El → List El → List El
  scaled s [] = []
  scaled s (x ∷ c) = x ⊗ s ∷ scaled s c

  -- the value by halves: with the factor of the highest bit times the upper half's
  unfoldable pub by_halves : ℕ → (ℕ → El) → List El → El
  by_halves zero factors c = get_or c 0 𝟘
  by_halves (suc n) factors c = by_halves n factors (take (2 ^ n) c) ⊕ by_halves n factors (drop (2 ^ n) c) ⊗ factors n

  -- the twiddle on the way to position q, at bit t: as it is in a lower half, negated in an upper one
  unfoldable pub on_the_way : (ℕ → ℕ → El) → ℕ → ℕ → El
  on_the_way tw q t = cond (eqb (q / 2 ^ t % 2) 0) (tw t (q / 2 ^ suc t)) (⊖ tw t (q / 2 ^ suc t))

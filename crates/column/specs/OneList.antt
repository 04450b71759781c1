-- Over any commutative ring: evaluation by halves gives the transform's sums, interpolation undoes it on both sides, and so
-- exactly one list of coefficients gives a list of values.
use Rattle.std.specs.Prelude.{ℕ, ◌+◌, ◌*◌, ◌^◌, ◌<◌, ◌≡◌, List, length, get_or}
use Rattle.std.proofs.Common.{sym, ◌∙◌, ap, arith, ext_get_or}
use Rattle.algebra.specs.Ring.{Ops, Laws, two}
use Rattle.algebra.specs.Power.{pow}
use Rattle.algebra.specs.Listing.{listing-length, listing-at}
use Rattle.column.specs.Column.{factor, value, values}
use Rattle.column.specs.Butterflies.{evaluate_block, interpolate_block, scaled, by_halves, on_the_way}
use Rattle.column.specs.Sums.{halves_equal, combination_halves}
use Rattle.column.specs.Paths.{evaluate_length, evaluate_at}
use Rattle.column.specs.Inverse.{Inverses, scaled-length, interpolate_length, scaled-one, scaled-scaled}
use Rattle.column.specs.Inverse.{evaluate_scaled, interpolate_evaluate, evaluate_interpolate}

module _ (O : Ops) where
  open O use {El, zero as 𝟘}

  -- exactly one list of 2^n coefficients gives the values v at these points
  pub record OneList (n : ℕ) (point : ℕ → El × El) (v : List El) : Type 0 where
    pub coefficients : List El
    pub size : length coefficients ≡ 2 ^ n
    pub gives : values O n point coefficients ≡ v
    pub only : (c : List El) → length c ≡ 2 ^ n → values O n point c ≡ v → c ≡ coefficients

  -- the twiddles on the way to a position are the factors at its point
  abbrev pub Twiddles : ℕ → (ℕ → El × El) → (ℕ → ℕ → El) → Type 0
  Twiddles n point tw = (p t : ℕ) → p < 2 ^ n → t < n → on_the_way O tw p t ≡ factor O (point p) t

  pub values_length : (n : ℕ) (point : ℕ → El × El) (c : List El) → length (values O n point c) ≡ 2 ^ n
  unfolding values
  values_length n point c = listing-length (2 ^ n) (λ p. value O n c (point p))

  pub values-at : (n : ℕ) (point : ℕ → El × El) (c : List El) (p : ℕ) → p < 2 ^ n → get_or (values O n point c) p 𝟘 ≡ value O n c (point p)
  unfolding values
  values-at n point c p h = listing-at 𝟘 (2 ^ n) (λ p. value O n c (point p)) p h

module _ (O : Ops) (L : Laws O) (n : ℕ) (point : ℕ → O.El × O.El) (tw : ℕ → ℕ → O.El) (twiddles : Twiddles O n point tw) where
  open O use {El, zero as 𝟘, one as 𝟙, mul as ◌⊗◌}

  infixl 70 ◌⊗◌
  pub evaluate_values : (c : List El) → length c ≡ 2 ^ n → evaluate_block O n tw 0 c ≡ values O n point c
  evaluate_values c e =
      ext_get_or 𝟘 (evaluate_block O n tw 0 c) (values O n point c) (size ∙ sym (values_length O n point c))
      (λ p h. at p (omega (arith, size)))
    where
      size : length (evaluate_block O n tw 0 c) ≡ 2 ^ n
      size = evaluate_length O n tw 0 c e

      at : (p : ℕ) → p < 2 ^ n → get_or (evaluate_block O n tw 0 c) p 𝟘 ≡ get_or (values O n point c) p 𝟘
      at p h =
          let place : 0 * 2 ^ n + p ≡ p = omega arith in
          evaluate_at O L tw n 0 c p e h ∙ ap (λ (q : ℕ). by_halves O n (on_the_way O tw q) c) place
          ∙ halves_equal O n (on_the_way O tw p) (factor O (point p)) c (λ t l. twiddles p t h l)
          ∙ sym (combination_halves O L n (factor O (point p)) c) ∙ sym (values-at O n point c p h)

  -- s is the inverse of 2^n
  module _ (tv : ℕ → ℕ → El) (inverses : Inverses O n tw tv) (s : El) (inverse : s ⊗ pow O (two O) n ≡ 𝟙) where
    abbrev pub interpolation : List El → List El
    interpolation v = scaled O s (interpolate_block O n tv 0 v)

    scaled_back : (a : List El) → scaled O s (scaled O (pow O (two O) n) a) ≡ a
    scaled_back a = scaled-scaled O L s (pow O (two O) n) a ∙ ap (λ (x : El). scaled O x a) (L.mul_comm (pow O (two O) n) s ∙ inverse)
        ∙ scaled-one O L a

    pub interpolation-values : (c : List El) → length c ≡ 2 ^ n → interpolation (values O n point c) ≡ c
    interpolation-values c e =
        ap interpolation (sym (evaluate_values c e)) ∙ ap (scaled O s) (interpolate_evaluate O L tw tv n 0 c e inverses) ∙ scaled_back c

    pub interpolation-length : (v : List El) → length v ≡ 2 ^ n → length (interpolation v) ≡ 2 ^ n
    interpolation-length v e = scaled-length O s (interpolate_block O n tv 0 v) ∙ interpolate_length O n tv 0 v e

    pub values-interpolation : (v : List El) → length v ≡ 2 ^ n → values O n point (interpolation v) ≡ v
    values-interpolation v e =
        sym (evaluate_values (interpolation v) (interpolation-length v e)) ∙ evaluate_scaled O L n tw 0 s (interpolate_block O n tv 0 v)
        ∙ ap (scaled O s) (evaluate_interpolate O L tw tv n 0 v e inverses) ∙ scaled_back v

    pub one_list : (v : List El) → length v ≡ 2 ^ n → OneList O n point v
    one_list v e = record {
      coefficients = interpolation v;
      size = interpolation-length v e;
      gives = values-interpolation v e;
      only = λ c h r. sym (interpolation-values c h) ∙ ap interpolation r;
    }

-- The sum over all coefficients is the value by halves.
use Prim.Native.Nat.{ℕ, zero, suc, ◌+◌, ◌*◌, ◌/◌, ◌%◌, ◌^◌, ◌<◌}
use Rattle.std.specs.Prelude.{◌≡◌, List, eqb, take, drop}
use Rattle.std.proofs.Math.Path.{refl, sym, ap, ap₂}
use Rattle.std.proofs.Common.{◌∙◌, get_or-take, get_or-drop}
use Rattle.std.proofs.Math.Bool.{cond}
use Rattle.std.proofs.Math.Nat as N
use native.Mathlib.Omega.{arith}
use Rattle.std.proofs.Math.ListN.{get_or}
use Rattle.std.proofs.Math.Pow as W
use Rattle.algebra.specs.Ring.{Ops, Laws}
use Rattle.algebra.specs.Ring as R
use Rattle.column.specs.Column.{product, sum, combination}
use Rattle.column.specs.Butterflies.{by_halves}

module _ (O : Ops) where
  open O use {El, zero as 𝟘, one as 𝟙, add as ◌⊕◌, mul as ◌⊗◌}

  infixl 65 ◌⊕◌
  infixl 70 ◌⊗◌
  sum-equal : (count : ℕ) (f g : ℕ → El) → ((j : ℕ) → j < count → f j ≡ g j) → sum O count f ≡ sum O count g
  unfolding sum
  sum-equal zero f g e = refl
  sum-equal (suc count) f g e = ap₂ ◌⊕◌ (sum-equal count f g (λ j h. e j (omega arith))) (e count (omega arith))

  pub halves_equal : (n : ℕ) (f g : ℕ → El) (c : List El) → ((t : ℕ) → t < n → f t ≡ g t) → by_halves O n f c ≡ by_halves O n g c
  unfolding by_halves
  halves_equal zero f g c e = refl
  halves_equal (suc n) f g c e =
      ap₂ ◌⊕◌ (halves_equal n f g (take (2 ^ n) c) (λ t h. e t (omega arith)))
      (ap₂ ◌⊗◌ (halves_equal n f g (drop (2 ^ n) c) (λ t h. e t (omega arith))) (e n (omega arith)))

  -- bits from n on make no difference
  product_low : (n : ℕ) (f : ℕ → El) (g j : ℕ) → product O n f (g * 2 ^ n + j) ≡ product O n f j
  unfolding product
  product_low zero f g j = refl
  product_low (suc n) f g j =
      ap (λ (t : ℕ). product O n f (t + j) ⊗ cond (eqb ((t + j) / 2 ^ n % 2) 1) (f n) 𝟙) double
      ∙ ap₂ (λ (p : El) (q : ℕ). p ⊗ cond (eqb q 1) (f n) 𝟙) (product_low n f (g + g) j) bit
    where
      double : g * 2 ^ suc n ≡ (g + g) * 2 ^ n
      double = omega (arith, ap (λ (t : ℕ). g * t) (N.two-pow-succ n))

      bit : ((g + g) * 2 ^ n + j) / 2 ^ n % 2 ≡ j / 2 ^ n % 2
      bit = ap (λ (t : ℕ). t % 2) (N.mul-add-div_right (W.pow_pos n) (g + g) j) ∙ omega arith

module _ (O : Ops) (L : Laws O) where
  open O use {El, zero as 𝟘, one as 𝟙, add as ◌⊕◌, mul as ◌⊗◌}

  infixl 65 ◌⊕◌
  infixl 70 ◌⊗◌
  sum_split : (a b : ℕ) (f : ℕ → El) → sum O (a + b) f ≡ sum O a f ⊕ sum O b (λ j. f (a + j))
  unfolding sum
  sum_split a zero f = ap (λ (t : ℕ). sum O t f) (N.add-zero a) ∙ sym (L.add-zero (sum O a f))
  sum_split a (suc b) f =
      ap (λ (t : ℕ). sum O t f) (N.add-suc a b) ∙ ap (λ (t : El). t ⊕ f (a + b)) (sum_split a b f)
      ∙ L.add_assoc (sum O a f) (sum O b (λ j. f (a + j))) (f (a + b))

  sum-scaled : (count : ℕ) (s : El) (f : ℕ → El) → sum O count (λ j. f j ⊗ s) ≡ sum O count f ⊗ s
  unfolding sum
  sum-scaled zero s f = sym (R.zero-mul O L s)
  sum-scaled (suc count) s f = ap (λ (t : El). t ⊕ f count ⊗ s) (sum-scaled count s f) ∙ sym (R.add-mul O L (sum O count f) (f count) s)

  -- a term of the lower half, and one of the upper half
  module _ (n : ℕ) (f : ℕ → El) (c : List El) (j : ℕ) (h : j < 2 ^ n) where
    lower_term : get_or c j 𝟘 ⊗ product O (suc n) f j ≡ get_or (take (2 ^ n) c) j 𝟘 ⊗ product O n f j
    unfolding product
    lower_term =
        ap₂ ◌⊗◌ (sym (get_or-take (2 ^ n) c j 𝟘 h))
        (ap (λ (t : ℕ). product O n f j ⊗ cond (eqb (t % 2) 1) (f n) 𝟙) (N.div-eq_of_lt h) ∙ L.mul-one (product O n f j))

    upper_term : get_or c (2 ^ n + j) 𝟘 ⊗ product O (suc n) f (2 ^ n + j) ≡ get_or (drop (2 ^ n) c) j 𝟘 ⊗ product O n f j ⊗ f n
    unfolding product
    upper_term =
        ap₂ ◌⊗◌ (sym (get_or-drop (2 ^ n) c j 𝟘)) (ap₂ (λ (x : El) (y : ℕ). x ⊗ cond (eqb (y % 2) 1) (f n) 𝟙) lower-product bit)
        ∙ sym (L.mul_assoc (get_or (drop (2 ^ n) c) j 𝟘) (product O n f j) (f n))
      where
        one_times : 1 * 2 ^ n + j ≡ 2 ^ n + j
        one_times = omega arith

        lower-product : product O n f (2 ^ n + j) ≡ product O n f j
        lower-product = ap (product O n f) (sym one_times) ∙ product_low O n f 1 j

        bit : (2 ^ n + j) / 2 ^ n ≡ 1
        bit = ap (λ (t : ℕ). t / 2 ^ n) (sym one_times) ∙ W.high 1 n h

  pub combination_halves : (n : ℕ) (f : ℕ → El) (c : List El) → combination O n f c ≡ by_halves O n f c
  unfolding combination by_halves sum product
  combination_halves zero f c = R.zero-add O L (get_or c 0 𝟘 ⊗ 𝟙) ∙ L.mul-one (get_or c 0 𝟘)
  combination_halves (suc n) f c =
      ap (λ (t : ℕ). sum O t term) (N.two-pow-succ n) ∙ sum_split half half term
      ∙ ap₂ ◌⊕◌
      (sum-equal O half term (λ j. get_or (take half c) j 𝟘 ⊗ product O n f j) (lower_term n f c) ∙ combination_halves n f (take half c))
      (sum-equal O half (λ j. term (half + j)) (λ j. upper j ⊗ f n) (upper_term n f c)
      ∙ sum-scaled half (f n) upper ∙ ap (λ (t : El). t ⊗ f n) (combination_halves n f (drop half c)))
    where
      half : ℕ
      half = 2 ^ n

      term : ℕ → El
      term j = get_or c j 𝟘 ⊗ product O (suc n) f j

      upper : ℕ → El
      upper j = get_or (drop half c) j 𝟘 ⊗ product O n f j

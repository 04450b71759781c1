-- Element q of an evaluated block is the value by halves whose factors are the twiddles on the way to q.
use Prim.Native.Nat.{ℕ, zero, suc, ◌+◌, ◌-◌, ◌*◌, ◌/◌, ◌%◌, ◌^◌, ◌<◌, ◌≤◌}
use Rattle.std.specs.Prelude.{◌≡◌, cond, eqb, length, take, drop}
use Rattle.std.proofs.Math.Path.{refl, sym, ap, ap₂}
use Rattle.std.proofs.Common.{◌∙◌, get_or-append-add}
use mathlib.Core.List.{List, [], ◌∷◌, ◌++◌, zip_with}
use Rattle.std.proofs.Math.Nat as N
use Rattle.std.proofs.Math.Decide.{dec_lt}
use native.Mathlib.Omega.{arith}
use Rattle.std.proofs.Math.ListN.{get_or, length-append, get_or-append}
use Rattle.std.proofs.Math.Pow as W
use Rattle.algebra.specs.Ring.{Ops, Laws}
use Rattle.algebra.specs.Ring as R
use Rattle.algebra.specs.Polynomial.{◌:+◌, ◌:*◌, v0, v1, v2, v3, v4, v5}
use Rattle.algebra.specs.Solver.{solve}
use Rattle.column.specs.Butterflies.{on_halves, butterfly_sum, butterfly_difference, evaluate_block, by_halves, on_the_way}
use Rattle.column.specs.Lists.{zip-at, zip-take, zip-drop, zip-equal, lower-length, upper-length, halves_length}

-- position q of block i, of 2^k elements, as the halves count it
lower-place : (i k q : ℕ) → 2 * i * 2 ^ k + q ≡ i * 2 ^ suc k + q
lower-place i k q = omega (arith, ap (λ (t : ℕ). i * t) (N.two-pow-succ k))

upper-place : (i k q : ℕ) → 2 ^ k ≤ q → (2 * i + 1) * 2 ^ k + (q - 2 ^ k) ≡ i * 2 ^ suc k + q
upper-place i k q h = omega (arith, ap (λ (t : ℕ). i * t) (N.two-pow-succ k))

module _ (O : Ops) where
  open O use {El, zero as 𝟘, neg as ⊖◌}

  infix 80 ⊖◌
  pub evaluate_length : (k : ℕ) (tw : ℕ → ℕ → El) (i : ℕ) (c : List El) → length c ≡ 2 ^ k → length (evaluate_block O k tw i c) ≡ 2 ^ k
  unfolding evaluate_block
  evaluate_length zero tw i c e = e
  evaluate_length (suc k) tw i c e =
      let lower : List El = on_halves (butterfly_sum O (tw k i)) (2 ^ k) c in
      let upper : List El = on_halves (butterfly_difference O (tw k i)) (2 ^ k) c in
      length-append (evaluate_block O k tw (2 * i) lower) (evaluate_block O k tw (2 * i + 1) upper)
      ∙ omega (
        arith,
        N.two-pow-succ k,
        evaluate_length k tw (2 * i) lower (halves_length k c e (butterfly_sum O (tw k i))),
        evaluate_length k tw (2 * i + 1) upper (halves_length k c e (butterfly_difference O (tw k i))),
      )

  module _ (tw : ℕ → ℕ → El) (i k q : ℕ) where
    abbrev chosen : ℕ → ℕ → El
    chosen bit block = cond (eqb bit 0) (tw k block) (⊖ tw k block)

    way_lower : q < 2 ^ k → on_the_way O tw (i * 2 ^ suc k + q) k ≡ tw k i
    unfolding on_the_way
    way_lower h = ap₂ chosen bit (W.high i (suc k) (omega (arith, N.two-pow-succ k)))
      where
        bit : (i * 2 ^ suc k + q) / 2 ^ k % 2 ≡ 0
        bit = ap (λ (t : ℕ). t / 2 ^ k % 2) (sym (lower-place i k q)) ∙ ap (λ (t : ℕ). t % 2) (W.high (2 * i) k h) ∙ omega arith

    way_upper : 2 ^ k ≤ q → q < 2 ^ suc k → on_the_way O tw (i * 2 ^ suc k + q) k ≡ ⊖ tw k i
    unfolding on_the_way
    way_upper g h = ap₂ chosen bit (W.high i (suc k) h)
      where
        bit : (i * 2 ^ suc k + q) / 2 ^ k % 2 ≡ 1
        bit =
            ap (λ (t : ℕ). t / 2 ^ k % 2) (sym (upper-place i k q g))
            ∙ ap (λ (t : ℕ). t % 2) (W.high (2 * i + 1) k (omega (arith, N.two-pow-succ k))) ∙ omega arith

module _ (O : Ops) (L : Laws O) where
  open O use {El, zero as 𝟘, add as ◌⊕◌, mul as ◌⊗◌, neg as ⊖◌}

  infixl 65 ◌⊕◌
  infixl 70 ◌⊗◌
  infix 80 ⊖◌
  difference_sum : (w u v : El) → butterfly_difference O w u v ≡ butterfly_sum O (⊖ w) u v
  unfolding butterfly_difference butterfly_sum
  difference_sum w u v = ap (◌⊕◌ u) (sym (R.mul-neg O L v w))

  butterfly_sum_is : (w u v : El) → butterfly_sum O w u v ≡ u ⊕ v ⊗ w
  unfolding butterfly_sum
  butterfly_sum_is w u v = refl

  -- the value of a sum of lists is the sum of their values
  by_halves_linear : (n : ℕ) (w : El) (f : ℕ → El) (a b : List El) → length a ≡ 2 ^ n → length b ≡ 2 ^ n
      → by_halves O n f (zip_with (butterfly_sum O w) a b) ≡ butterfly_sum O w (by_halves O n f a) (by_halves O n f b)
  unfolding by_halves
  by_halves_linear zero w f a b ea eb = zip-at 𝟘 (butterfly_sum O w) a b 0 (eb ∙ sym ea) (omega arith)
  by_halves_linear (suc n) w f a b ea eb =
      ap₂ (λ (x y : List El). by_halves O n f x ⊕ by_halves O n f y ⊗ f n)
      (zip-take (butterfly_sum O w) a b half) (zip-drop (butterfly_sum O w) a b half (eb ∙ sym ea))
      ∙ ap₂ (λ (x y : El). x ⊕ y ⊗ f n)
      (by_halves_linear n w f (take half a) (take half b) (lower-length n a ea) (lower-length n b eb)
      ∙ butterfly_sum_is w (by_halves O n f (take half a)) (by_halves O n f (take half b)))
      (by_halves_linear n w f (drop half a) (drop half b) (upper-length n a ea) (upper-length n b eb)
      ∙ butterfly_sum_is w (by_halves O n f (drop half a)) (by_halves O n f (drop half b)))
      ∙ solve O L
      (by_halves O n f (take half a) ∷ by_halves O n f (take half b)
      ∷ by_halves O n f (drop half a) ∷ by_halves O n f (drop half b) ∷ w ∷ f n ∷ [])
      ((v0 :+ v1 :* v4) :+ (v2 :+ v3 :* v4) :* v5) ((v0 :+ v2 :* v5) :+ (v1 :+ v3 :* v5) :* v4) tt
      ∙ sym (butterfly_sum_is w (by_halves O (suc n) f a) (by_halves O (suc n) f b))
    where
      half : ℕ
      half = 2 ^ n

  pub evaluate_at : (tw : ℕ → ℕ → El) (k i : ℕ) (c : List El) (q : ℕ) → length c ≡ 2 ^ k → q < 2 ^ k
      → get_or (evaluate_block O k tw i c) q 𝟘 ≡ by_halves O k (on_the_way O tw (i * 2 ^ k + q)) c
  unfolding evaluate_block by_halves
  evaluate_at tw zero i c q e h = let first : q ≡ 0 = omega arith in ap (λ (t : ℕ). get_or c t 𝟘) first
  evaluate_at tw (suc k) i c q e h =
      by (dec_lt q (2 ^ k)) (λ r. evaluate_at tw k (2 * i) lower r (halves_length k c e (butterfly_sum O w)))
      (λ r. evaluate_at tw k (2 * i + 1) upper r (halves_length k c e (butterfly_difference O w)))
    where
      half : ℕ
      half = 2 ^ k

      w : El
      w = tw k i

      lower : List El
      lower = on_halves (butterfly_sum O w) half c

      upper : List El
      upper = on_halves (butterfly_difference O w) half c

      way : ℕ → El
      way = on_the_way O tw (i * 2 ^ suc k + q)

      first_length : length (evaluate_block O k tw (2 * i) lower) ≡ half
      first_length = evaluate_length O k tw (2 * i) lower (halves_length k c e (butterfly_sum O w))

      joined : (v : El) → by_halves O k way (zip_with (butterfly_sum O v) (take half c) (drop half c))
          ≡ by_halves O k way (take half c) ⊕ by_halves O k way (drop half c) ⊗ v
      joined v =
          by_halves_linear k v way (take half c) (drop half c) (lower-length k c e) (upper-length k c e)
          ∙ butterfly_sum_is v (by_halves O k way (take half c)) (by_halves O k way (drop half c))

      by : Dec (q < 2 ^ k)
          → ((r : ℕ) → r < 2 ^ k → get_or (evaluate_block O k tw (2 * i) lower) r 𝟘 ≡ by_halves O k (on_the_way O tw (2 * i * 2 ^ k + r)) lower)
          → ((r : ℕ) → r < 2 ^ k → get_or (evaluate_block O k tw (2 * i + 1) upper) r 𝟘
          ≡ by_halves O k (on_the_way O tw ((2 * i + 1) * 2 ^ k + r)) upper)
          → get_or (evaluate_block O k tw (2 * i) lower ++ evaluate_block O k tw (2 * i + 1) upper) q 𝟘
          ≡ by_halves O k way (take half c) ⊕ by_halves O k way (drop half c) ⊗ way k
      by (yes l) lower-at upper-at =
          get_or-append (evaluate_block O k tw (2 * i) lower) (evaluate_block O k tw (2 * i + 1) upper) 𝟘 q (omega (arith, first_length))
          ∙ lower-at q l
          ∙ ap (λ (t : ℕ). by_halves O k (on_the_way O tw t) lower) (lower-place i k q)
          ∙ joined w
          ∙ ap (λ (t : El). by_halves O k way (take half c) ⊕ by_halves O k way (drop half c) ⊗ t) (sym (way_lower O tw i k q l))
      by (no m) lower-at upper-at =
          let g : 2 ^ k ≤ q = omega arith in
          let place : q ≡ length (evaluate_block O k tw (2 * i) lower) + (q - 2 ^ k) = omega (arith, first_length) in
          ap (λ (t : ℕ). get_or (evaluate_block O k tw (2 * i) lower ++ evaluate_block O k tw (2 * i + 1) upper) t 𝟘) place
          ∙ get_or-append-add (evaluate_block O k tw (2 * i) lower) (evaluate_block O k tw (2 * i + 1) upper) (q - 2 ^ k) 𝟘
          ∙ upper-at (q - 2 ^ k) (omega (arith, N.two-pow-succ k))
          ∙ ap (λ (t : ℕ). by_halves O k (on_the_way O tw t) upper) (upper-place i k q g)
          ∙ ap (by_halves O k way) (zip-equal (butterfly_difference O w) (butterfly_sum O (⊖ w)) (difference_sum w)
          (take half c) (drop half c))
          ∙ joined (⊖ w)
          ∙ ap (λ (t : El). by_halves O k way (take half c) ⊕ by_halves O k way (drop half c) ⊗ t) (sym (way_upper O tw i k q g h))

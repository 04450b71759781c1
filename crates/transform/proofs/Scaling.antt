-- Multiples by a power of two modulo P, where 2^31 is 1.
use Prim.Native.Nat.{ℕ, zero, suc, ◌+◌, ◌-◌, ◌*◌, ◌/◌, ◌%◌, ◌^◌, ◌≤◌, ◌<◌}
use mathlib.Core.Path.{◌≡◌, refl, sym, ◌∙◌, ap, ap₂}
use mathlib.Core.List.{List, [], ◌∷◌, ◌++◌, zip_with}
use native.Mathlib.Nat as N
use native.Mathlib.Numerals.{add-one}
use native.Mathlib.Omega.{arith}
use lib.Arith.{digits_mod}
use lib.ListN.{length, get_or, set, take, drop}
use lib.Pow as W
use Rattle.algebra.specs.Polynomial.{◌:+◌, ◌:*◌, :-◌, v0, v1, v2, v3}
use Rattle.algebra.specs.ZMod.{mod-mul-mod}
use Rattle.algebra.specs.M31.{P, m31}
use Rattle.fields.specs.Words.{mul_p, words31}
use Rattle.fields.specs.Representation.{solve_words}
use Rattle.fields.specs.Inverse.{m31_representation}
use Rattle.column.specs.Butterflies.{on_halves, inverse_sum, inverse_difference, inverse_butterflies, scaled}
use Rattle.column.specs.Lists.{zip-equal}
use Rattle.column.specs.Inverse.{scaled-length, scaled-zip, zip-scaled, scaled-append, scaled-take, scaled-drop}
use Rattle.transform.specs.Tree.{reduced_words}
use Rattle.transform.proofs.Halves.{over, over-length, over-at, over_next, over_all}

module _ (a s : ℕ) (h : a ≤ P) (hi : s < 31) where
  abbrev upper : ℕ
  upper = a / 2 ^ (31 - s)

  abbrev lower : ℕ
  lower = a % 2 ^ (31 - s)

  powers : 2 ^ (31 - s) * 2 ^ s ≡ 2147483648
  powers =
      let bits : 31 - s + s ≡ 31 = omega arith in
      sym (W.pow-add 2 (31 - s) s) ∙ ap (λ (n : ℕ). 2 ^ n) bits

  product : a * 2 ^ s ≡ upper * 2147483648 + lower * 2 ^ s
  product =
      ap (λ (n : ℕ). n * 2 ^ s) (sym (W.split a (31 - s))) ∙ N.add-mul (upper * 2 ^ (31 - s)) lower (2 ^ s)
      ∙ ap (λ (n : ℕ). n + lower * 2 ^ s) (N.mul_assoc upper (2 ^ (31 - s)) (2 ^ s) ∙ ap (λ (n : ℕ). upper * n) powers)

  shifted : a * 2 ^ s % 4294967296 % 2147483648 ≡ lower * 2 ^ s
  shifted =
      let small : lower * 2 ^ s < 2147483648 =
      omega (arith, N.mul-lt-mul_of_pos_right (N.mod-lt a (W.pow_pos (31 - s))) (W.pow_pos s), powers) in
      W.mod-mod-pow (a * 2 ^ s) 1 31 ∙ ap (λ (n : ℕ). n % 2147483648) product ∙ digits_mod upper small

  -- the bits rotated by s places
  abbrev rotated : ℕ
  rotated = a * 2 ^ s % 4294967296 % 2147483648 + a / 2 ^ (31 - s)

  pub rotated_most : rotated ≤ P
  rotated_most =
      let bits : 31 ≡ s + (31 - s) = omega arith in
      let high : upper < 2 ^ s = W.shr_lt s (31 - s) (rw (← bits) (omega arith)) in
      let low : suc lower ≤ 2 ^ (31 - s) = N.mod-lt a (W.pow_pos (31 - s)) in
      omega (arith, shifted, N.mul-le-mul_right {m = suc lower} {n = 2 ^ (31 - s)} (2 ^ s) low, N.suc-mul lower (2 ^ s), powers)

  pub rotated_bits : rotated % P ≡ mul_p a (2 ^ s)
  rotated_bits =
      let once : upper * 2147483648 + lower * 2 ^ s ≡ upper * P + (lower * 2 ^ s + upper) = omega arith in
      ap (λ (n : ℕ). (n + upper) % P) shifted
      ∙ sym (ap (λ (n : ℕ). n % P) (product ∙ once) ∙ N.mul-add-mod_self_right upper P (lower * 2 ^ s + upper))

-- ---- a column in the middle of a loop: its first i words are scaled

-- words and what they stand for have one multiple
pub scaled-reduced : (t : ℕ) (c : List ℕ) → scaled words31 t c ≡ scaled words31 t (reduced_words c)
unfolding scaled
scaled-reduced t [] = refl
scaled-reduced t (x ∷ c) = ap₂ ◌∷◌ (sym (mod-mul-mod x t P)) (scaled-reduced t c)

scaled_at : (t : ℕ) (c : List ℕ) (i : ℕ) → i < length c → get_or (scaled words31 t c) i 0 ≡ mul_p (get_or c i 0) t
unfolding scaled
scaled_at t [] i h = absurd (omega arith)
scaled_at t (x ∷ c) zero h = refl
scaled_at t (x ∷ c) (suc i) h = scaled_at t c i (omega arith)

module _ (t : ℕ) (c : List ℕ) where
  pub record Scaled (i : ℕ) (column : List ℕ) : Type 0 where
    pub same : length column ≡ length c
    pub before : i ≤ length c
    pub is : column ≡ over c (scaled words31 t c) i

  pub scaled_end : (i : ℕ) (column : List ℕ) → Scaled i column → length column ≤ i → column ≡ scaled words31 t c
  scaled_end i column v h =
      let all : i ≡ length c = omega (arith, v.same, v.before) in
      v.is ∙ over_all c (scaled words31 t c) i (scaled-length words31 t c ∙ sym all) (sym all)

  -- in a turn
  module _ (i : ℕ) (column : List ℕ) (v : Scaled i column) (h : i < length column) where
    inside : i < length c
    inside = omega (arith, v.same)

    next : get_or column i 0 ≡ get_or c i 0
    next = ap (λ (l : List ℕ). get_or l i 0) v.is ∙ over-at c (scaled words31 t c) i (scaled-length words31 t c) inside

    pub scaled_next : (x : ℕ) → x ≡ mul_p (get_or column i 0) t → Scaled (i + 1) (set column i x)
    scaled_next x e = record {
      same = ap length is ∙ over-length c (scaled words31 t c) (i + 1) (scaled-length words31 t c) (omega (arith, inside));
      before = omega (arith, inside);
      is = is;
    }
      where
        is : set column i x ≡ over c (scaled words31 t c) (i + 1)
        is =
            let word : x ≡ get_or (scaled words31 t c) i 0 = e ∙ ap (λ (y : ℕ). mul_p y t) next ∙ sym (scaled_at t c i inside) in
            rw (v.is, word, add-one) (over_next c (scaled words31 t c) i (scaled-length words31 t c) inside)

-- ---- the inverse butterflies of multiples

sum-multiple : (t x y : ℕ) → inverse_sum words31 (mul_p x t) (mul_p y t) ≡ mul_p (inverse_sum words31 x y) t
unfolding inverse_sum
sum-multiple t x y =
    solve_words words31 m31 m31_representation (t ∷ x ∷ y ∷ []) (v1 :* v0 :+ v2 :* v0) ((v1 :+ v2) :* v0)
    (m31_representation.add-reduced _ _) (m31_representation.mul-reduced _ _) tt

difference_multiple : (w t x y : ℕ) → inverse_difference words31 w (mul_p x t) (mul_p y t) ≡ mul_p (inverse_difference words31 w x y) t
unfolding inverse_difference
difference_multiple w t x y =
    solve_words words31 m31 m31_representation (t ∷ x ∷ y ∷ w ∷ []) ((v1 :* v0 :+ :- (v2 :* v0)) :* v3) ((v1 :+ :- v2) :* v3 :* v0)
    (m31_representation.mul-reduced _ _) (m31_representation.mul-reduced _ _) tt

halves_multiple : (f : ℕ → ℕ → ℕ) (t half : ℕ) (c : List ℕ) → ((x y : ℕ) → f (mul_p x t) (mul_p y t) ≡ mul_p (f x y) t)
    → on_halves f half (scaled words31 t c) ≡ scaled words31 t (on_halves f half c)
halves_multiple f t half c h =
    ap₂ (zip_with f) (scaled-take words31 t half c) (scaled-drop words31 t half c)
    ∙ zip-scaled words31 t f (take half c) (drop half c)
    ∙ zip-equal (λ (x y : ℕ). f (mul_p x t) (mul_p y t)) (λ (x y : ℕ). mul_p (f x y) t) h (take half c) (drop half c)
    ∙ sym (scaled-zip words31 t f (take half c) (drop half c))

pub butterflies-multiple : (half w t : ℕ) (c : List ℕ)
    → inverse_butterflies words31 half w (scaled words31 t c) ≡ scaled words31 t (inverse_butterflies words31 half w c)
unfolding inverse_butterflies
butterflies-multiple half w t c =
    ap₂ ◌++◌ (halves_multiple (inverse_sum words31) t half c (sum-multiple t))
    (halves_multiple (inverse_difference words31 w) t half c (difference_multiple w t))
    ∙ sym (scaled-append words31 t (on_halves (inverse_sum words31) half c) (on_halves (inverse_difference words31 w) half c))

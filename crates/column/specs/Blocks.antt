-- A list in blocks of w elements, the first blocks of it rewritten one after the other: what the loops of the transform do.
use Prim.Native.Nat.{ℕ, zero, suc, ◌+◌, ◌*◌, ◌^◌, ◌≤◌}
use Rattle.std.specs.Prelude.{◌≡◌}
use Rattle.std.proofs.Math.Path.{refl, sym, ap, ap₂}
use Rattle.std.proofs.Common.{◌∙◌, drop_of_length-le, take_at, drop-drop, take-add, take_all}
use mathlib.Core.List.{List, ◌++◌, append_assoc, append-nil, zip_with}
use Rattle.std.proofs.Math.Nat as N
use native.Mathlib.Omega.{arith}
use Rattle.std.proofs.Math.ListN.{length, take, drop, length-append, length-drop}
use Rattle.std.proofs.Math.Seq.{drop_at, take-take, length-take-le, take-append-add, drop-append-add}
use Rattle.algebra.specs.Ring.{Ops}
use Rattle.column.specs.Butterflies.{on_halves, butterfly_sum, butterfly_difference, butterflies, evaluate_block}
use Rattle.column.specs.Butterflies.{inverse_sum, inverse_difference, inverse_butterflies, interpolate_block}
use Rattle.column.specs.Lists.{zip_length, halves_length}
use Rattle.column.specs.Inverse.{interpolate_length}

module _ {A : Type 0} where
  -- the first `count` blocks by F, which is told a block's number, from i on; what comes after them stays
  unfoldable pub blocks : ℕ → ℕ → (ℕ → List A → List A) → ℕ → List A → List A
  blocks zero w F i c = c
  blocks (suc count) w F i c = F i (take w c) ++ blocks count w F (i + 1) (drop w c)

  -- F gives as many elements as it takes
  abbrev pub Keeps : ℕ → (ℕ → List A → List A) → Type 0
  Keeps w F = (i : ℕ) (d : List A) → length d ≡ w → length (F i d) ≡ w

  module _ (count w : ℕ) (c : List A) (h : suc count * w ≤ length c) where
    first_length : length (take w c) ≡ w
    first_length = length-take-le w c (omega (arith, N.suc-mul count w))

    rest_length : count * w ≤ length (drop w c)
    rest_length = omega (arith, N.suc-mul count w, length-drop w c)

  pub blocks-length : (count w : ℕ) (F : ℕ → List A → List A) → Keeps w F → (i : ℕ) (c : List A) → count * w ≤ length c
      → length (blocks count w F i c) ≡ length c
  unfolding blocks
  blocks-length zero w F k i c h = refl
  blocks-length (suc count) w F k i c h =
      length-append (F i (take w c)) (blocks count w F (i + 1) (drop w c))
      ∙ omega (
        arith,
        k i (take w c) (first_length count w c h),
        blocks-length count w F k (i + 1) (drop w c) (rest_length count w c h),
        length-drop w c,
        N.suc-mul count w,
      )

  -- one block more: the part of w elements from count * w on is rewritten
  pub blocks_next : (count w : ℕ) (F : ℕ → List A → List A) → Keeps w F → (i : ℕ) (c : List A) → suc count * w ≤ length c
      → take (count * w) (blocks count w F i c)
      ++ (F (i + count) (take w (drop (count * w) (blocks count w F i c))) ++ drop w (drop (count * w) (blocks count w F i c)))
      ≡ blocks (suc count) w F i c
  unfolding blocks
  blocks_next zero w F k i c h =
      let none : 0 * w ≡ 0 = N.zero-mul w in
      ap₂ (λ (s j : ℕ). take s c ++ (F j (take w (drop s c)) ++ drop w (drop s c))) none (N.add-zero i)
  blocks_next (suc count) w F k i c h =
      let first : List A = F i (take w c) in
      let rest : List A = blocks count w F (i + 1) (drop w c) in
      let size : length first ≡ w = k i (take w c) (first_length (suc count) w c h) in
      let further : suc count * w ≡ length first + count * w = omega (arith, size, N.suc-mul count w) in
      let next : i + suc count ≡ i + 1 + count = omega arith in
      ap₂ (λ (s j : ℕ). take s (first ++ rest) ++ (F j (take w (drop s (first ++ rest))) ++ drop w (drop s (first ++ rest)))) further next
      ∙ ap₂ (λ (a b : List A). a ++ (F (i + 1 + count) (take w b) ++ drop w b)) (take-append-add first rest (count * w))
      (drop-append-add first rest (count * w))
      ∙ append_assoc first (take (count * w) rest) (F (i + 1 + count) (take w (drop (count * w) rest)) ++ drop w (drop (count * w) rest))
      ∙ ap (λ (r : List A). first ++ r) (blocks_next count w F k (i + 1) (drop w c) (rest_length (suc count) w c h))

  pub blocks-equal : (count w : ℕ) (F G : ℕ → List A → List A) → ((i : ℕ) (d : List A) → length d ≡ w → F i d ≡ G i d)
      → (i : ℕ) (c : List A) → count * w ≤ length c → blocks count w F i c ≡ blocks count w G i c
  unfolding blocks
  blocks-equal zero w F G e i c h = refl
  blocks-equal (suc count) w F G e i c h =
      ap₂ ◌++◌ (e i (take w c) (first_length count w c h)) (blocks-equal count w F G e (i + 1) (drop w c) (rest_length count w c h))

  -- one after the other, block by block
  pub blocks_compose : (count w : ℕ) (F G : ℕ → List A → List A) → Keeps w F → (i : ℕ) (c : List A) → count * w ≤ length c
      → blocks count w G i (blocks count w F i c) ≡ blocks count w (λ j d. G j (F j d)) i c
  unfolding blocks
  blocks_compose zero w F G k i c h = refl
  blocks_compose (suc count) w F G k i c h =
      let first : List A = F i (take w c) in
      let rest : List A = blocks count w F (i + 1) (drop w c) in
      let size : length first ≡ w = k i (take w c) (first_length count w c h) in
      ap₂ (λ (p q : List A). G i p ++ blocks count w G (i + 1) q) (take_at first rest w size) (drop_at first rest w size)
      ∙ ap (λ (q : List A). G i first ++ q) (blocks_compose count w F G k (i + 1) (drop w c) (rest_length count w c h))

  -- F on the halves of a block
  abbrev pub two_blocks : ℕ → (ℕ → List A → List A) → ℕ → List A → List A
  two_blocks w F j d = F (2 * j) (take w d) ++ F (2 * j + 1) (drop w d)

  -- two blocks as one
  pub blocks-pair : (count w : ℕ) (F : ℕ → List A → List A) (i : ℕ) (c : List A) → count * (w + w) ≤ length c
      → blocks (count + count) w F (2 * i) c ≡ blocks count (w + w) (two_blocks w F) i c
  unfolding blocks
  blocks-pair zero w F i c h = refl
  blocks-pair (suc count) w F i c h =
      let further : 2 * i + 1 + 1 ≡ 2 * (i + 1) = omega arith in
      let size : length (take w c) ≡ w = length-take-le w c (omega (arith, N.suc-mul count (w + w))) in
      let lower : take w (take (w + w) c) ≡ take w c = take-take w (w + w) c (omega arith) in
      let upper : drop w (take (w + w) c) ≡ take w (drop w c) =
      ap (drop w) (take-add w w c) ∙ drop_at (take w c) (take w (drop w c)) w size in
      let rest : List A = blocks count (w + w) (two_blocks w F) (i + 1) (drop (w + w) c) in
      two_more (count + count) (suc count + suc count) (omega arith)
      ∙ ap₂ (λ (j : ℕ) (d : List A). F (2 * i) (take w c) ++ (F (2 * i + 1) (take w (drop w c)) ++ blocks (count + count) w F j d)) further
      (drop-drop w w c)
      ∙ ap (λ (q : List A). F (2 * i) (take w c) ++ (F (2 * i + 1) (take w (drop w c)) ++ q))
      (blocks-pair count w F (i + 1) (drop (w + w) c) (rest_length count (w + w) c h))
      ∙ sym (append_assoc (F (2 * i) (take w c)) (F (2 * i + 1) (take w (drop w c))) rest)
      ∙ ap₂ (λ (x y : List A). (F (2 * i) x ++ F (2 * i + 1) y) ++ rest) (sym lower) (sym upper)
    where
      two_more : (n k : ℕ) → k ≡ suc (suc n)
          → blocks k w F (2 * i) c ≡ F (2 * i) (take w c)
          ++ (F (2 * i + 1) (take w (drop w c)) ++ blocks n w F (2 * i + 1 + 1) (drop w (drop w c)))
      two_more n k e = ap (λ (z : ℕ). blocks z w F (2 * i) c) e

  pub one_block : (w : ℕ) (F : ℕ → List A → List A) (i : ℕ) (c : List A) → length c ≡ w → blocks 1 w F i c ≡ F i c
  unfolding blocks
  one_block w F i c e =
      ap₂ (λ (x y : List A). F i x ++ y) (take_all w c (omega arith)) (drop_of_length-le c {i = w} (omega arith)) ∙ append-nil (F i c)

module _ (O : Ops) where
  open O use {El}

  on_halves-length : (f : El → El → El) (half : ℕ) (d : List El) → length d ≡ half + half → length (on_halves f half d) ≡ half
  on_halves-length f half d e =
      let lower : length (take half d) ≡ half = length-take-le half d (omega arith) in
      zip_length f (take half d) (drop half d) (length-drop half d ∙ omega arith) ∙ lower

  pub butterflies-length : (half : ℕ) (w : El) (d : List El) → length d ≡ half + half → length (butterflies O half w d) ≡ half + half
  unfolding butterflies
  butterflies-length half w d e =
      length-append (on_halves (butterfly_sum O w) half d) (on_halves (butterfly_difference O w) half d)
      ∙ ap₂ ◌+◌ (on_halves-length (butterfly_sum O w) half d e) (on_halves-length (butterfly_difference O w) half d e)

  pub inverse_length : (half : ℕ) (t : El) (d : List El) → length d ≡ half + half → length (inverse_butterflies O half t d) ≡ half + half
  unfolding inverse_butterflies
  inverse_length half t d e =
      length-append (on_halves (inverse_sum O) half d) (on_halves (inverse_difference O t) half d)
      ∙ ap₂ ◌+◌ (on_halves-length (inverse_sum O) half d e) (on_halves-length (inverse_difference O t) half d e)

  -- a layer of butterflies takes the blocks of one size to those of half the size
  module _ (tw : ℕ → ℕ → El) (k : ℕ) where
    pub layer_block : (j : ℕ) (d : List El) → length d ≡ 2 ^ k + 2 ^ k
        → two_blocks (2 ^ k) (evaluate_block O k tw) j (butterflies O (2 ^ k) (tw k j) d) ≡ evaluate_block O (suc k) tw j d
    unfolding butterflies evaluate_block
    layer_block j d e =
        let size : length d ≡ 2 ^ suc k = e ∙ sym (N.two-pow-succ k) in
        let lower : List El = on_halves (butterfly_sum O (tw k j)) (2 ^ k) d in
        let upper : List El = on_halves (butterfly_difference O (tw k j)) (2 ^ k) d in
        let same : length lower ≡ 2 ^ k = halves_length k d size (butterfly_sum O (tw k j)) in
        ap₂ (λ (x y : List El). evaluate_block O k tw (2 * j) x ++ evaluate_block O k tw (2 * j + 1) y) (take_at lower upper (2 ^ k) same)
        (drop_at lower upper (2 ^ k) same)

    pub evaluate_layer : (count i : ℕ) (c : List El) → count * (2 ^ k + 2 ^ k) ≤ length c
        → blocks (count + count) (2 ^ k) (evaluate_block O k tw) (2 * i)
        (blocks count (2 ^ k + 2 ^ k) (λ j. butterflies O (2 ^ k) (tw k j)) i c)
        ≡ blocks count (2 ^ k + 2 ^ k) (evaluate_block O (suc k) tw) i c
    evaluate_layer count i c h =
        let F : ℕ → List El → List El = λ j. butterflies O (2 ^ k) (tw k j) in
        let keeps : Keeps (2 ^ k + 2 ^ k) F = λ j d. butterflies-length (2 ^ k) (tw k j) d in
        blocks-pair count (2 ^ k) (evaluate_block O k tw) i (blocks count (2 ^ k + 2 ^ k) F i c)
        (omega (arith, blocks-length count (2 ^ k + 2 ^ k) F keeps i c h))
        ∙ blocks_compose count (2 ^ k + 2 ^ k) F (two_blocks (2 ^ k) (evaluate_block O k tw)) keeps i c h
        ∙ blocks-equal count (2 ^ k + 2 ^ k) (λ j d. two_blocks (2 ^ k) (evaluate_block O k tw) j (F j d))
        (evaluate_block O (suc k) tw) layer_block i c h

  -- a layer of inverse butterflies takes the blocks of one size to those of twice the size
  module _ (tv : ℕ → ℕ → El) (k : ℕ) where
    keeps_two : Keeps (2 ^ k + 2 ^ k) (two_blocks (2 ^ k) (interpolate_block O k tv))
    keeps_two j d e =
        length-append (interpolate_block O k tv (2 * j) (take (2 ^ k) d)) (interpolate_block O k tv (2 * j + 1) (drop (2 ^ k) d))
        ∙ ap₂ ◌+◌ (interpolate_length O k tv (2 * j) (take (2 ^ k) d) (length-take-le (2 ^ k) d (omega arith)))
        (interpolate_length O k tv (2 * j + 1) (drop (2 ^ k) d) (length-drop (2 ^ k) d ∙ omega arith))

    pub inverse_block : (j : ℕ) (d : List El) → length d ≡ 2 ^ k + 2 ^ k
        → inverse_butterflies O (2 ^ k) (tv k j) (two_blocks (2 ^ k) (interpolate_block O k tv) j d) ≡ interpolate_block O (suc k) tv j d
    unfolding inverse_butterflies interpolate_block
    inverse_block j d e =
        let a : List El = interpolate_block O k tv (2 * j) (take (2 ^ k) d) in
        let b : List El = interpolate_block O k tv (2 * j + 1) (drop (2 ^ k) d) in
        let same : length a ≡ 2 ^ k = interpolate_length O k tv (2 * j) (take (2 ^ k) d) (length-take-le (2 ^ k) d (omega arith)) in
        ap₂ (λ (x y : List El). zip_with (inverse_sum O) x y ++ zip_with (inverse_difference O (tv k j)) x y) (take_at a b (2 ^ k) same)
        (drop_at a b (2 ^ k) same)

    pub interpolate_layer : (count i : ℕ) (c : List El) → count * (2 ^ k + 2 ^ k) ≤ length c
        → blocks count (2 ^ k + 2 ^ k) (λ j. inverse_butterflies O (2 ^ k) (tv k j)) i
        (blocks (count + count) (2 ^ k) (interpolate_block O k tv) (2 * i) c)
        ≡ blocks count (2 ^ k + 2 ^ k) (interpolate_block O (suc k) tv) i c
    interpolate_layer count i c h =
        ap (blocks count (2 ^ k + 2 ^ k) (λ j. inverse_butterflies O (2 ^ k) (tv k j)) i)
        (blocks-pair count (2 ^ k) (interpolate_block O k tv) i c h)
        ∙ blocks_compose count (2 ^ k + 2 ^ k) (two_blocks (2 ^ k) (interpolate_block O k tv))
        (λ j. inverse_butterflies O (2 ^ k) (tv k j)) keeps_two i c h
        ∙ blocks-equal count (2 ^ k + 2 ^ k)
        (λ j d. inverse_butterflies O (2 ^ k) (tv k j) (two_blocks (2 ^ k) (interpolate_block O k tv) j d))
        (interpolate_block O (suc k) tv) inverse_block i c h

-- A block of 2^k words below node i by its halves, below the nodes 2i and 2i + 1.
use Prim.Native.Nat.{ℕ, suc, ◌+◌, ◌-◌, ◌*◌, ◌/◌, ◌^◌, ◌≤◌, ◌<◌}
use mathlib.Core.Path.{◌≡◌, sym, ◌∙◌, ap, ap₂, subst}
use mathlib.Core.List.{List, ◌++◌, append-nil}
use native.Mathlib.Nat as N
use native.Mathlib.Omega.{arith}
use lib.ListN.{length, get_or, take, drop, length-append, length-drop, drop_of_length-le}
use lib.Pow as W
use lib.Seq.{take_at, drop_at, take_all, length-take-le}
use Rattle.fields.specs.Words.{words31}
use Rattle.column.specs.Butterflies.{butterflies, evaluate_block, inverse_butterflies, interpolate_block, scaled}
use Rattle.column.specs.Inverse.{interpolate_length, scaled-length, scaled-append}
use Rattle.column.specs.Blocks.{butterflies-length, two_blocks, layer_block, inverse_block}
use Rattle.transform.specs.Tree.{Words, PartlyReduced, reduced_words, node_twiddle, Block}
use Rattle.transform.proofs.WordLaws.{words-drop, words-scaled}
use Rattle.transform.proofs.Partly.{partly_take, partly_drop, reduced-length, reduced_below, reduced-take, reduced-drop, stands_for}
use Rattle.transform.proofs.Layers.{line_node}
use Rattle.transform.proofs.Scaling.{butterflies-multiple}

-- ---- the two halves of a list, rewritten one after the other

module _ (c : List ℕ) (half : ℕ) (size : length c ≡ half + half) where
  pub lower-length : length (take half c) ≡ half
  lower-length = length-take-le half c (omega arith)

  pub upper-length : length (drop half c) ≡ half
  upper-length = length-drop half c ∙ omega arith

  -- once the lower half is p
  module _ (p : List ℕ) (same : length p ≡ length (take half c)) where
    abbrev pub middle : List ℕ
    middle = p ++ drop half c

    lp : length p ≡ half
    lp = same ∙ lower-length

    pub middle-length : length middle ≡ half + half
    middle-length = length-append p (drop half c) ∙ omega (arith, lp, upper-length)

    pub upper-part : take (length middle - half) (drop half middle) ≡ drop half c
    upper-part =
        ap (take (length middle - half)) (drop_at p (drop half c) half lp)
        ∙ take_all (length middle - half) (drop half c) (omega (arith, middle-length, upper-length))

    pub both_halves : (q : List ℕ) → take half middle ++ (q ++ drop (length middle - half) (drop half middle)) ≡ p ++ q
    both_halves q =
        ap₂ (λ (a b : List ℕ). a ++ (q ++ b)) (take_at p (drop half c) half lp)
        (ap (drop (length middle - half)) (drop_at p (drop half c) half lp)
        ∙ drop_of_length-le (drop half c) {i = length middle - half} (omega (arith, middle-length, upper-length)))
        ∙ ap (λ (r : List ℕ). p ++ r) (append-nil q)

-- ---- sizes

module _ (c tree : List ℕ) (i k : ℕ) (b : Block c tree i k) (big : 14 < k) (half : ℕ) (eh : half ≡ length c / 2) where
  less : k ≡ suc (k - 1)
  less = omega arith

  pow-two_halves : 2 ^ k ≡ 2 ^ (k - 1) + 2 ^ (k - 1)
  pow-two_halves = ap (λ (n : ℕ). 2 ^ n) less ∙ N.two-pow-succ (k - 1)

  pub half_power : half ≡ 2 ^ (k - 1)
  half_power = omega (arith, pow-two_halves, b.size)

  pub halves_size : length c ≡ half + half
  halves_size = omega (arith, pow-two_halves, half_power, b.size)

  pub node_room : i < length tree
  node_room = omega (arith, b.room, N.mul-le-mul_left (i + 1) (W.pow_mono {i = 2} {j = k} (omega arith)))

  pub child_room : (j : ℕ) → j ≤ 2 * i + 1 → (j + 1) * 2 ^ (k - 1) ≤ 4 * length tree
  child_room j h =
      omega (
        arith,
        b.room,
        ap (λ (n : ℕ). (i + 1) * n) pow-two_halves,
        N.mul-le-mul_right {m = j + 1} {n = 2 * (i + 1)} (2 ^ (k - 1)) (omega arith),
      )

  -- a half of the block, as it is or rewritten
  pub half_block : (d : List ℕ) (j : ℕ) → j ≤ 2 * i + 1 → length d ≡ half → Words d → Block d tree j (k - 1)
  half_block d j h e w = record {
    least = omega arith;
    most = omega (arith, b.most);
    size = e ∙ half_power;
    room = child_room j h;
    words = w;
  }

  -- ---- evaluation: the butterflies, then the halves

  module _ (column : List ℕ) (w : ℕ) (node : w ≡ get_or tree i 0) (is : reduced_words column ≡ butterflies words31 half w c)
      (partly : PartlyReduced column) where
    pub column_size : length column ≡ half + half
    column_size = sym (reduced-length column) ∙ ap length is ∙ butterflies-length words31 half w c halves_size

    partly_block : (d : List ℕ) (j : ℕ) → j ≤ 2 * i + 1 → length d ≡ half → PartlyReduced d
        → Block (reduced_words d) tree j (k - 1) × PartlyReduced d
    partly_block d j h e p = (half_block (reduced_words d) j h (reduced-length d ∙ e) (reduced_below d), p)

    pub first_block : Block (reduced_words (take half column)) tree (2 * i) (k - 1) × PartlyReduced (take half column)
    first_block =
        partly_block (take half column) (2 * i) (omega arith) (lower-length column half column_size) (partly_take half column partly)

    module _ (p : List ℕ) (same : length p ≡ length (take half column)) where
      abbrev upper : List ℕ
      upper = take (length (middle column half column_size p same) - half) (drop half (middle column half column_size p same))

      pub second_block : Block (reduced_words upper) tree (2 * i + 1) (k - 1) × PartlyReduced upper
      second_block =
          subst (λ (d : List ℕ). Block (reduced_words d) tree (2 * i + 1) (k - 1) × PartlyReduced d)
          (sym (upper-part column half column_size p same))
          (partly_block (drop half column) (2 * i + 1) (omega arith) (upper-length column half column_size)
          (partly_drop half column partly))

      pub block_evaluated : (q : List ℕ) → p ≡ evaluate_block words31 (k - 1) (node_twiddle tree) (2 * i) (reduced_words (take half column))
          → q ≡ evaluate_block words31 (k - 1) (node_twiddle tree) (2 * i + 1) (reduced_words upper)
          → take half (middle column half column_size p same)
          ++ (q ++ drop (length (middle column half column_size p same) - half) (drop half (middle column half column_size p same)))
          ≡ evaluate_block words31 k (node_twiddle tree) i c
      block_evaluated q ep eq =
          both_halves column half column_size p same q
          ∙ ap₂ ◌++◌ (ep ∙ ap (evaluate_block words31 (k - 1) (node_twiddle tree) (2 * i)) (reduced-take half column))
          (eq ∙ ap (λ (d : List ℕ). evaluate_block words31 (k - 1) (node_twiddle tree) (2 * i + 1) (reduced_words d))
          (upper-part column half column_size p same)
          ∙ ap (evaluate_block words31 (k - 1) (node_twiddle tree) (2 * i + 1)) (reduced-drop half column))
          ∙ ap (two_blocks half (evaluate_block words31 (k - 1) (node_twiddle tree)) i) is
          ∙ ap₂ (λ (h w : ℕ). two_blocks h (evaluate_block words31 (k - 1) (node_twiddle tree)) i (butterflies words31 h w c)) half_power
          (node ∙ line_node tree (k - 1) i (omega arith))
          ∙ layer_block words31 (node_twiddle tree) (k - 1) i c (b.size ∙ pow-two_halves)
          ∙ ap (λ (n : ℕ). evaluate_block words31 n (node_twiddle tree) i c) (sym less)

  -- ---- interpolation: the halves, then the inverse butterflies

  module _ (p : List ℕ) (same : length p ≡ length (take half c)) where
    pub upper_block : Block (take (length (middle c half halves_size p same) - half) (drop half (middle c half halves_size p same))) tree
        (2 * i + 1) (k - 1)
    upper_block =
        rw (upper-part c half halves_size p same)
        (half_block (drop half c) (2 * i + 1) (omega arith) (upper-length c half halves_size) (words-drop half c b.words))

    module _ (t : ℕ) (q : List ℕ) (ep : p ≡ scaled words31 t (interpolate_block words31 (k - 1) (node_twiddle tree) (2 * i) (take half c)))
        (eq : q ≡ scaled words31 t
        (interpolate_block words31 (k - 1) (node_twiddle tree) (2 * i + 1)
        (take (length (middle c half halves_size p same) - half) (drop half (middle c half halves_size p same))))) where
      abbrev joined : List ℕ
      joined = take half (middle c half halves_size p same)
          ++ (q ++ drop (length (middle c half halves_size p same) - half) (drop half (middle c half halves_size p same)))

      abbrev blocks : List ℕ
      blocks = two_blocks half (interpolate_block words31 (k - 1) (node_twiddle tree)) i c

      upper_is : q ≡ scaled words31 t (interpolate_block words31 (k - 1) (node_twiddle tree) (2 * i + 1) (drop half c))
      upper_is = eq ∙ ap (λ (d : List ℕ). scaled words31 t (interpolate_block words31 (k - 1) (node_twiddle tree) (2 * i + 1) d))
          (upper-part c half halves_size p same)

      joined_is : joined ≡ scaled words31 t blocks
      joined_is =
          both_halves c half halves_size p same q ∙ ap₂ ◌++◌ ep upper_is
          ∙ sym (scaled-append words31 t (interpolate_block words31 (k - 1) (node_twiddle tree) (2 * i) (take half c))
          (interpolate_block words31 (k - 1) (node_twiddle tree) (2 * i + 1) (drop half c)))

      pub joined_length : length joined ≡ half + half
      joined_length =
          ap length joined_is ∙ scaled-length words31 t blocks
          ∙ length-append (interpolate_block words31 (k - 1) (node_twiddle tree) (2 * i) (take half c))
          (interpolate_block words31 (k - 1) (node_twiddle tree) (2 * i + 1) (drop half c))
          ∙ ap₂ ◌+◌
          (interpolate_length words31 (k - 1) (node_twiddle tree) (2 * i) (take half c) (lower-length c half halves_size ∙ half_power)
          ∙ sym half_power)
          (interpolate_length words31 (k - 1) (node_twiddle tree) (2 * i + 1) (drop half c) (upper-length c half halves_size ∙ half_power)
          ∙ sym half_power)

      pub joined_words : Words joined
      joined_words w = rw joined_is (words-scaled t blocks w)

      pub block_interpolated : (exit : List ℕ) (w : ℕ) → w ≡ get_or tree i 0 → Words exit
          → reduced_words exit ≡ inverse_butterflies words31 half w (reduced_words joined)
          → exit ≡ scaled words31 t (interpolate_block words31 k (node_twiddle tree) i c)
      block_interpolated exit w node words e =
          stands_for (inverse_butterflies words31 half w) exit joined words joined_words e
          ∙ ap (inverse_butterflies words31 half w) joined_is
          ∙ butterflies-multiple half w t blocks
          ∙ ap (scaled words31 t)
          (ap₂ (λ (h w : ℕ). inverse_butterflies words31 h w
          (two_blocks h (interpolate_block words31 (k - 1) (node_twiddle tree)) i c)) half_power
          (node ∙ line_node tree (k - 1) i (omega arith))
          ∙ inverse_block words31 (node_twiddle tree) (k - 1) i c (b.size ∙ pow-two_halves)
          ∙ ap (λ (n : ℕ). interpolate_block words31 n (node_twiddle tree) i c) (sym less))

-- A block of 2^k values below node i between two layers of its interpolation: its parts of 2^t words are done.
use Prim.Native.Nat.{ℕ, suc, ◌+◌, ◌-◌, ◌*◌, ◌/◌, ◌^◌, ◌≤◌, ◌<◌}
use mathlib.Core.Path.{◌≡◌, sym, ◌∙◌, ap, ap₂}
use mathlib.Core.List.{List, ◌++◌}
use native.Mathlib.Nat as N
use native.Mathlib.Omega.{arith}
use lib.ListN.{length, get_or, take, drop}
use lib.Pow as W
use Rattle.fields.specs.Words.{neg_p, words31}
use Rattle.column.specs.Butterflies.{inverse_butterflies, interpolate_block}
use Rattle.column.specs.Inverse.{interpolate_length}
use Rattle.column.specs.Blocks.{blocks, blocks-length, blocks-equal, blocks-pair, two_blocks, one_block, interpolate_layer}
use Rattle.transform.specs.Tree.{node_twiddle, pair_twiddle, interpolate_eight, Block}
use Rattle.transform.proofs.Fours.{interpolate_two_layers}
use Rattle.transform.proofs.Layers.{Parts, all_words, nodes_room, count_even, node_even, parts_doubled, x, y, Siblings, siblings, line_node}

interpolate_siblings : (tree : List ℕ) (j : ℕ) (d : List ℕ)
    → interpolate_eight (get_or tree (2 * j) 0) (get_or tree (2 * j + 1) 0) d ≡ two_blocks 4 (interpolate_block words31 2
    (node_twiddle tree)) j d
interpolate_siblings tree j d =
    let s : Siblings tree j = siblings tree j in
    ap₂ ◌++◌
    (interpolate_two_layers (pair_twiddle (x tree j) (y tree j) (neg_p (y tree j))) (node_twiddle tree) 0 (2 * j) s.x_fours
    s.x_first s.x_second (take 4 d))
    (interpolate_two_layers (pair_twiddle (y tree j) (neg_p (x tree j)) (x tree j)) (node_twiddle tree) 0 (2 * j + 1) s.y_fours
    s.y_first s.y_second (drop 4 d))

module _ (column₀ tree : List ℕ) (i k : ℕ) (b : Block column₀ tree i k) where
  pub record Done (t count node : ℕ) (column : List ℕ) : Type 0 where
    pub parts : Parts tree i k t count node
    pub low : 2 ≤ t
    pub is : column ≡ blocks count (2 ^ t) (interpolate_block words31 t (node_twiddle tree)) node column₀

  -- ---- the first two layers

  module _ (count node : ℕ) (ec : count ≡ length column₀ / 4) (en : node ≡ i * count) where
    first_parts : Parts tree i k 2 count node
    first_parts = record { high = omega (arith, b.least); count_is = omega (arith, four, b.size); node_is = en }
      where
        four : 2 ^ k ≡ 4 * 2 ^ (k - 2)
        four =
            let bits : k ≡ 2 + (k - 2) = omega (arith, b.least) in
            ap (λ (n : ℕ). 2 ^ n) bits ∙ W.pow-add 2 2 (k - 2)

    more : 2 < k
    more = omega (arith, b.least)

    whole : count ≡ count / 2 + count / 2
    whole = count_even tree i k 2 count node first_parts more

    pub eights_size : length column₀ ≡ count / 2 * 8
    eights_size = b.size ∙ sym (all_words tree i k 2 count node first_parts) ∙ omega (arith, whole)

    pub eights_room : 2 * (node / 2 + count / 2) ≤ length tree
    eights_room = omega (
      arith,
      nodes_room tree i k 2 count node first_parts b.room (omega arith),
      whole,
      node_even tree i k 2 count
          node first_parts more,
    )

    pub done_start : (column : List ℕ) → column ≡ blocks (count / 2) 8 (λ j. interpolate_eight (get_or tree (2 * j) 0) (get_or tree
        (2 * j + 1) 0)) (node / 2) column₀
        → Done 2 count node column
    done_start column e = record {
      parts = first_parts;
      low = omega arith;
      is =
          e
          ∙ blocks-equal (count / 2) 8 (λ j. interpolate_eight (get_or tree (2 * j) 0) (get_or tree (2 * j + 1) 0)) (two_blocks 4
          (interpolate_block words31 2 (node_twiddle tree)))
          (λ j d l. interpolate_siblings tree j d) (node / 2) column₀ (omega (arith, eights_size))
          ∙ sym (blocks-pair (count / 2) 4 (interpolate_block words31 2 (node_twiddle tree)) (node / 2) column₀ (omega (
            arith,
            eights_size,
          )))
          ∙ ap₂ (λ (m n : ℕ). blocks m 4 (interpolate_block words31 2 (node_twiddle tree)) n column₀) (sym whole)
          (sym (node_even tree i k 2 count node first_parts more));
    }

  -- ---- one layer more

  module _ (t count node : ℕ) (column : List ℕ) (d : Done t count node column) where
    size₀ : length column₀ ≡ count * 2 ^ t
    size₀ = b.size ∙ sym (all_words tree i k t count node d.parts)

    pub done_length : length column ≡ length column₀
    done_length =
        ap length d.is
        ∙ blocks-length count (2 ^ t) (interpolate_block words31 t (node_twiddle tree)) (λ j l e. interpolate_length words31 t
        (node_twiddle tree) j l e) node column₀ (omega (arith, size₀))

    module _ (h : t < k) (half : ℕ) (two : half ≡ 2 ^ t) where
      pair : count ≡ count / 2 + count / 2
      pair = count_even tree i k t count node d.parts h

      double : Parts tree i k (suc t) (count / 2) (node / 2)
      double = parts_doubled tree i k t count node d.parts h

      wide : 2 ^ suc t ≡ half + half
      wide = N.two-pow-succ t ∙ ap₂ ◌+◌ (sym two) (sym two)

      pub layer_size : length column ≡ count / 2 * (half + half)
      layer_size = done_length ∙ b.size ∙ sym (all_words tree i k (suc t) (count / 2) (node / 2) double) ∙ ap (λ (n : ℕ). count / 2
          * n) wide

      pub layer_room : node / 2 + count / 2 ≤ length tree
      layer_room = nodes_room tree i k (suc t) (count / 2) (node / 2) double b.room (omega (arith, d.low))

      pub done_next : (exit : List ℕ) → exit ≡ blocks (count / 2) (half + half) (λ j. inverse_butterflies words31 half (get_or tree
          j 0)) (node / 2) column
          → Done (t + 1) (count / 2) (node / 2) exit
      done_next exit e =
          let next : suc t ≡ t + 1 = omega arith in
          rw (← next) (record {
            parts = double;
            low = omega (arith, d.low);
            is =
                e
                ∙ ap (λ (n : ℕ). blocks (count / 2) (n + n) (λ j. inverse_butterflies words31 n (get_or tree j 0)) (node / 2) column) two
                ∙ ap (λ (f : ℕ → ℕ). blocks (count / 2) (2 ^ t + 2 ^ t) (λ j. inverse_butterflies words31 (2 ^ t) (f j)) (node / 2)
                column) (λ q j. line_node tree t j (omega (arith, d.low)) q)
                ∙ ap (blocks (count / 2) (2 ^ t + 2 ^ t) (λ j. inverse_butterflies words31 (2 ^ t) (node_twiddle tree t j)) (node / 2))
                (d.is ∙ ap₂ (λ (m n : ℕ). blocks m (2 ^ t) (interpolate_block words31 t (node_twiddle tree)) n column₀) pair
                (node_even tree i k t count node d.parts h))
                ∙ interpolate_layer words31 (node_twiddle tree) t (count / 2) (node / 2) column₀
                (omega (
                  arith,
                  b.size,
                  all_words tree i k (suc t) (count / 2) (node / 2) double,
                  ap (λ (n : ℕ). count / 2 * n)
                      (N.two-pow-succ t),
                ))
                ∙ ap (λ (n : ℕ). blocks (count / 2) n (interpolate_block words31 (suc t) (node_twiddle tree)) (node / 2) column₀)
                (sym (N.two-pow-succ t));
          })

    pub done_end : k ≤ t → column ≡ interpolate_block words31 k (node_twiddle tree) i column₀
    done_end g =
        let all : t ≡ k = omega (arith, d.parts.high) in
        let none : k - t ≡ 0 = omega arith in
        let one : count ≡ 1 = d.parts.count_is ∙ ap (λ (n : ℕ). 2 ^ n) none in
        let root : node ≡ i = d.parts.node_is ∙ ap (λ (n : ℕ). i * n) one ∙ N.mul-one i in
        d.is ∙ ap₂ (λ (m n : ℕ). blocks m (2 ^ t) (interpolate_block words31 t (node_twiddle tree)) n column₀) one root
        ∙ ap (λ (n : ℕ). blocks 1 (2 ^ n) (interpolate_block words31 n (node_twiddle tree)) i column₀) all
        ∙ one_block (2 ^ k) (interpolate_block words31 k (node_twiddle tree)) i column₀ b.size

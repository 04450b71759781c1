-- A block of 2^k words below node i between two layers, when its parts of 2^t words, so many of them, stand below the nodes
-- from `node` on.
use Prim.Native.Nat.{ℕ, zero, suc, ◌+◌, ◌-◌, ◌*◌, ◌/◌, ◌%◌, ◌^◌, ◌≤◌, ◌<◌}
use mathlib.Core.Path.{◌≡◌, refl, sym, ◌∙◌, ap, ap₂}
use mathlib.Core.List.{List, ◌++◌}
use native.Mathlib.Nat as N
use native.Mathlib.Omega.{arith}
use lib.ListN.{length, get_or, take, drop}
use lib.Pow as W
use Rattle.fields.specs.Words.{neg_p, words31}
use Rattle.column.specs.Butterflies.{butterflies, evaluate_block}
use Rattle.column.specs.Blocks.{blocks, blocks-length, blocks-equal, blocks-pair, two_blocks, one_block, butterflies-length, evaluate_layer}
use Rattle.transform.specs.Tree.{circle_twiddle, node_twiddle, pair_twiddle, evaluate_eight, Block}
use Rattle.transform.proofs.Fours.{evaluate_two_layers}

-- ---- sizes

pub record Parts (tree : List ℕ) (i k t count node : ℕ) : Type 0 where
  pub high : t ≤ k
  pub count_is : count ≡ 2 ^ (k - t)
  pub node_is : node ≡ i * count

module _ (tree : List ℕ) (i k : ℕ) where
  pub parts_whole : Parts tree i k k 1 i
  parts_whole = record { high = omega arith; count_is = ap (λ (d : ℕ). 2 ^ d) none; node_is = sym (N.mul-one i) }
    where
      none : 0 ≡ k - k
      none = omega arith

  module _ (t count node : ℕ) (p : Parts tree i k t count node) where
    pub all_words : count * 2 ^ t ≡ 2 ^ k
    all_words =
        let bits : k - t + t ≡ k = omega (arith, p.high) in
        ap (λ (n : ℕ). n * 2 ^ t) p.count_is ∙ sym (W.pow-add 2 (k - t) t) ∙ ap (λ (d : ℕ). 2 ^ d) bits

    -- the nodes of a level whose parts have four words or more lie in the tree
    pub nodes_room : (i + 1) * 2 ^ k ≤ 4 * length tree → 2 ≤ t → node + count ≤ length tree
    nodes_room room h =
        omega (
          arith,
          p.node_is,
          ap (λ (n : ℕ). (i + 1) * n) (sym all_words),
          N.mul_assoc (i + 1) count (2 ^ t),
          N.mul-le-mul_left ((i + 1) * count) (W.pow_mono {i = 2} {j = t} h),
        )

    -- parts of half the size
    pub parts_halved : (s : ℕ) → t ≡ suc s → Parts tree i k s (2 * count) (2 * node)
    parts_halved s e = record {
      high = omega (arith, p.high);
      count_is = ap (λ (n : ℕ). 2 * n) p.count_is ∙ sym (N.pow-succ' 2 (k - t)) ∙ ap (λ (d : ℕ). 2 ^ d) more;
      node_is = ap (λ (n : ℕ). 2 * n) p.node_is ∙ omega arith;
    }
      where
        more : suc (k - t) ≡ k - s
        more = omega (arith, p.high)

    -- parts of twice the size
    module _ (h : t < k) where
      pub count_even : count ≡ count / 2 + count / 2
      count_even =
          let bits : k - t ≡ suc (k - suc t) = omega arith in
          omega (arith, p.count_is ∙ ap (λ (d : ℕ). 2 ^ d) bits ∙ N.two-pow-succ (k - suc t))

      pub node_even : node ≡ 2 * (node / 2)
      node_even = omega (arith, p.node_is ∙ ap (λ (n : ℕ). i * n) count_even)

      pub parts_doubled : Parts tree i k (suc t) (count / 2) (node / 2)
      parts_doubled = record {
        high = h;
        count_is = omega (arith, p.count_is ∙ ap (λ (d : ℕ). 2 ^ d) bits ∙ N.two-pow-succ (k - suc t));
        node_is = omega (arith, p.node_is ∙ ap (λ (n : ℕ). i * n) count_even);
      }
        where
          bits : k - t ≡ suc (k - suc t)
          bits = omega arith

-- ---- the twiddles of the pairs

node_circle_twiddle : (tree : List ℕ) (j r m : ℕ) → m ≡ 4 * j + r → r < 4
    → node_twiddle tree 0 m ≡ circle_twiddle r (get_or tree (2 * j) 0) (get_or tree (2 * j + 1) 0)
unfolding node_twiddle
node_circle_twiddle tree j r m e h =
    let node_mod_4 : m % 4 ≡ r = omega arith in
    let node_div_4 : m / 4 ≡ j = omega arith in
    ap₂ (λ (s q : ℕ). circle_twiddle s (get_or tree (2 * q) 0) (get_or tree (2 * q + 1) 0)) node_mod_4 node_div_4

module _ (tree : List ℕ) (j : ℕ) where
  abbrev pub x : ℕ
  x = get_or tree (2 * j) 0

  abbrev pub y : ℕ
  y = get_or tree (2 * j + 1) 0

  -- what the two siblings below j are to the layers of pairs and fours
  pub record Siblings : Type 0 where
    pub x_fours : pair_twiddle x y (neg_p y) 1 0 ≡ node_twiddle tree 1 (2 * j)
    pub x_first : pair_twiddle x y (neg_p y) 0 (2 * 0) ≡ node_twiddle tree 0 (2 * (2 * j))
    pub x_second : pair_twiddle x y (neg_p y) 0 (2 * 0 + 1) ≡ node_twiddle tree 0 (2 * (2 * j) + 1)
    pub y_fours : pair_twiddle y (neg_p x) x 1 0 ≡ node_twiddle tree 1 (2 * j + 1)
    pub y_first : pair_twiddle y (neg_p x) x 0 (2 * 0) ≡ node_twiddle tree 0 (2 * (2 * j + 1))
    pub y_second : pair_twiddle y (neg_p x) x 0 (2 * 0 + 1) ≡ node_twiddle tree 0 (2 * (2 * j + 1) + 1)

  pub siblings : Siblings
  unfolding pair_twiddle node_twiddle circle_twiddle
  siblings = record {
    x_fours = refl;
    x_first = sym (node_circle_twiddle tree j 0 (2 * (2 * j)) (omega arith) (omega arith));
    x_second = sym (node_circle_twiddle tree j 1 (2 * (2 * j) + 1) (omega arith) (omega arith));
    y_fours = refl;
    y_first = sym (node_circle_twiddle tree j 2 (2 * (2 * j + 1)) (omega arith) (omega arith));
    y_second = sym (node_circle_twiddle tree j 3 (2 * (2 * j + 1) + 1) (omega arith) (omega arith));
  }

evaluate_siblings : (tree : List ℕ) (j : ℕ) (d : List ℕ)
    → evaluate_eight (get_or tree (2 * j) 0) (get_or tree (2 * j + 1) 0) d ≡ two_blocks 4 (evaluate_block words31 2 (node_twiddle tree)) j d
evaluate_siblings tree j d =
    let s : Siblings tree j = siblings tree j in
    ap₂ ◌++◌
    (evaluate_two_layers (pair_twiddle (x tree j) (y tree j) (neg_p (y tree j))) (node_twiddle tree) 0 (2 * j) s.x_fours s.x_first
    s.x_second (take 4 d))
    (evaluate_two_layers (pair_twiddle (y tree j) (neg_p (x tree j)) (x tree j)) (node_twiddle tree) 0 (2 * j + 1) s.y_fours s.y_first
    s.y_second (drop 4 d))

-- ---- evaluation

pub line_node : (tree : List ℕ) (s j : ℕ) → 0 < s → get_or tree j 0 ≡ node_twiddle tree s j
unfolding node_twiddle
line_node tree zero j h = absurd (omega arith)
line_node tree (suc s) j h = refl

module _ (column₀ tree : List ℕ) (i k : ℕ) (b : Block column₀ tree i k) where
  -- t layers are left
  pub record Left (t count node : ℕ) (column : List ℕ) : Type 0 where
    pub parts : Parts tree i k t count node
    pub low : 2 ≤ t
    pub same : length column ≡ length column₀
    pub todo : blocks count (2 ^ t) (evaluate_block words31 t (node_twiddle tree)) node column ≡ evaluate_block words31 k
        (node_twiddle tree) i column₀

  pub left_start : Left k 1 i column₀
  left_start = record {
    parts = parts_whole tree i k;
    low = omega (arith, b.least);
    same = refl;
    todo = one_block (2 ^ k) (evaluate_block words31 k (node_twiddle tree)) i column₀ b.size;
  }

  module _ (t count node : ℕ) (column : List ℕ) (l : Left t count node column) where
    pub left_nodes : node + count ≤ length tree
    left_nodes = nodes_room tree i k t count node l.parts b.room l.low

    size : length column ≡ count * 2 ^ t
    size = l.same ∙ b.size ∙ sym (all_words tree i k t count node l.parts)

    module _ (s half : ℕ) (e : s ≡ t - 1) (more : 2 < t) (two : half ≡ 2 ^ s) where
      suc_s : t ≡ suc s
      suc_s = omega arith

      double : 2 ^ t ≡ half + half
      double = ap (λ (d : ℕ). 2 ^ d) suc_s ∙ N.two-pow-succ s ∙ ap₂ ◌+◌ (sym two) (sym two)

      pub left_size : length column ≡ count * (half + half)
      left_size = size ∙ ap (λ (n : ℕ). count * n) double

      pub left_next : (exit : List ℕ) → exit ≡ blocks count (half + half) (λ j. butterflies words31 half (get_or tree j 0)) node column
          → Left s (2 * count) (2 * node) exit
      left_next exit is = record {
        parts = parts_halved tree i k t count node l.parts s suc_s;
        low = omega arith;
        same = ap length is ∙ blocks-length count (half + half) F (λ j d. butterflies-length words31 half (get_or tree j 0) d) node column
            (omega (arith, left_size)) ∙ l.same;
        todo = ap (blocks (2 * count) (2 ^ s) (evaluate_block words31 s (node_twiddle tree)) (2 * node)) (is ∙ as_layer)
            ∙ ap (λ (n : ℕ). blocks n (2 ^ s) (evaluate_block words31 s (node_twiddle tree)) (2 * node)
            (blocks count (2 ^ s + 2 ^ s) (λ j. butterflies words31 (2 ^ s) (node_twiddle tree s j)) node column)) (omega arith)
            ∙ evaluate_layer words31 (node_twiddle tree) s count node column
            (omega (arith, left_size, ap (λ (n : ℕ). count * n) (sym double ∙ ap (λ (d : ℕ). 2 ^ d) suc_s ∙ N.two-pow-succ s)))
            ∙ ap (λ (n : ℕ). blocks count n (evaluate_block words31 (suc s) (node_twiddle tree)) node column)
            (sym (ap (λ (d : ℕ). 2 ^ d) suc_s ∙ N.two-pow-succ s))
            ∙ ap (λ (n : ℕ). blocks count (2 ^ t) (evaluate_block words31 n (node_twiddle tree)) node column) (sym suc_s)
            ∙ l.todo;
      }
        where
          F : ℕ → List ℕ → List ℕ
          F j = butterflies words31 half (get_or tree j 0)

          as_layer : blocks count (half + half) F node column ≡ blocks count (2 ^ s + 2 ^ s)
              (λ j. butterflies words31 (2 ^ s) (node_twiddle tree s j)) node column
          as_layer =
              ap (λ (n : ℕ). blocks count (n + n) (λ j. butterflies words31 n (get_or tree j 0)) node column) two
              ∙ ap (λ (f : ℕ → ℕ). blocks count (2 ^ s + 2 ^ s) (λ j. butterflies words31 (2 ^ s) (f j)) node column)
              (λ q j. line_node tree s j (omega arith) q)

    -- the last two layers
    module _ (last : t ≤ 2) where
      two_left : t ≡ 2
      two_left = omega (arith, l.low)

      below : t < k
      below = omega (arith, b.least, two_left)

      whole : count ≡ count / 2 + count / 2
      whole = count_even tree i k t count node l.parts below

      pub eights_size : length column ≡ count / 2 * 8
      eights_size = size ∙ ap (λ (d : ℕ). count * 2 ^ d) two_left ∙ omega (arith, whole)

      pub eights_room : 2 * (node / 2 + count / 2) ≤ length tree
      eights_room = omega (arith, left_nodes, whole, node_even tree i k t count node l.parts below)

      pub left_end : (exit : List ℕ)
          → exit ≡ blocks (count / 2) 8 (λ j. evaluate_eight (get_or tree (2 * j) 0) (get_or tree (2 * j + 1) 0)) (node / 2) column
          → exit ≡ evaluate_block words31 k (node_twiddle tree) i column₀
      left_end exit is =
          is
          ∙ blocks-equal (count / 2) 8 (λ j. evaluate_eight (get_or tree (2 * j) 0) (get_or tree (2 * j + 1) 0))
          (two_blocks 4 (evaluate_block words31 2 (node_twiddle tree)))
          (λ j d e. evaluate_siblings tree j d) (node / 2) column (omega (arith, eights_size))
          ∙ sym (blocks-pair (count / 2) 4 (evaluate_block words31 2 (node_twiddle tree)) (node / 2) column (omega (arith, eights_size)))
          ∙ ap₂ (λ (m n : ℕ). blocks m 4 (evaluate_block words31 2 (node_twiddle tree)) n column) (sym whole)
          (sym (node_even tree i k t count node l.parts below))
          ∙ ap (λ (d : ℕ). blocks count (2 ^ d) (evaluate_block words31 d (node_twiddle tree)) node column) (sym two_left)
          ∙ l.todo

-- The tree of twiddles in scratch, and what the inner functions of the transform leave.
use Rattle.std.specs.Prelude.{ℕ, zero, suc, ◌+◌, ◌-◌, ◌*◌, ◌/◌, ◌%◌, ◌^◌, ◌≤◌}
use Rattle.std.specs.Prelude.{◌<◌, ◌≡◌, Bool, true, false, cond, List, ◌++◌, map, eqb, length, get_or, take, drop}
use Rattle.algebra.specs.M31.{P}
use Rattle.algebra.specs.Circle.{plus, double_x}
use Rattle.fields.specs.Words.{mul_p, neg_p, words31}
use Rattle.circle.specs.Index.{index_point}
use Rattle.circle.specs.Point.{Reduced}
use Rattle.circle.specs.Table.{point_at}
use Rattle.fields.specs.declared.m31.M31.{M31}
use Rattle.circle.specs.declared.point.CirclePoint.{CirclePoint}
use Rattle.domains.specs.BitReversed.{half_point}
use Rattle.column.specs.Butterflies.{evaluate_block, interpolate_block, scaled}
use Rattle.transform.specs.Transform.{Coefficients}

-- a property of each word; past the end stands 0
abbrev pub Each : (ℕ → Type 0) → List ℕ → Type 0
Each fits l = (k : ℕ) → fits (get_or l k 0)

-- each word is below P
abbrev pub Words : List ℕ → Type 0
Words = Each (λ w. w < P)

-- Between layers words are reduced only so far that each is at most P, which stands for 0.
abbrev pub PartlyReduced : List ℕ → Type 0
PartlyReduced = Each (λ w. w ≤ P)

-- the words below P that such words stand for
abbrev pub reduced_words : List ℕ → List ℕ
reduced_words l = map (λ (w : ℕ). w % P) l

-- The levels from m on of the tree of log size n: node 2^k + b, for b below 2^k, holds the x of half coset point 2b of log size
-- k + 2, in bit-reversed order. Its children hold x and y of one point, which doubles to it.
abbrev pub LinesFrom : ℕ → ℕ → List ℕ → Type 0
LinesFrom n m tree = (k b : ℕ) → m ≤ k → k + 2 ≤ n → b < 2 ^ k → get_or tree (2 ^ k + b) 0 ≡ (half_point (k + 2) (2 * b)).0

-- the whole tree, with a copy of node 1 in word 0
pub record LineTree (n : ℕ) (tree : List ℕ) : Type 0 where
  pub size : 2 * length tree ≡ 2 ^ n
  pub lines : LinesFrom n 0 tree
  pub copied : get_or tree 0 0 ≡ get_or tree 1 0

-- the twiddles of the four pairs below the nodes that hold x and y: y, -y, -x, x
unfoldable pub circle_twiddle : ℕ → ℕ → ℕ → ℕ
circle_twiddle zero x y = y
circle_twiddle (suc zero) x y = neg_p y
circle_twiddle (suc (suc zero)) x y = neg_p x
circle_twiddle (suc (suc (suc r))) x y = x

-- the twiddle of node i for blocks of 2^(t + 1) words; those of pairs aren't stored
unfoldable pub node_twiddle : List ℕ → ℕ → ℕ → ℕ
node_twiddle tree zero i = circle_twiddle (i % 4) (get_or tree (2 * (i / 4)) 0) (get_or tree (2 * (i / 4) + 1) 0)
node_twiddle tree (suc t) i = get_or tree i 0

-- the y of the point whose x stands at node i
abbrev pub beside : List ℕ → ℕ → ℕ
beside tree i = cond (eqb (i % 2) 0) (get_or tree (i + 1) 0) (neg_p (get_or tree (i - 1) 0))

-- A tree that can be inverted from its root down: the root x has 2x² = 1, and the children x and y of a node have 2xy = the
-- y beside it.
pub record Invertible (tree : List ℕ) : Type 0 where
  pub even : length tree % 2 ≡ 0
  pub least : 2 ≤ length tree
  pub words : Words tree
  pub copied : get_or tree 0 0 ≡ get_or tree 1 0
  pub root : mul_p 2 (mul_p (get_or tree 1 0) (get_or tree 1 0)) ≡ 1
  pub children : (i : ℕ) → 0 < i → 2 * i < length tree → mul_p 2 (mul_p (get_or tree (2 * i) 0) (get_or tree (2 * i + 1) 0)) ≡ beside tree i

-- word by word the inverses of a tree
pub record InvertedTree (tree exit : List ℕ) : Type 0 where
  pub size : length exit ≡ length tree
  pub words : Words exit
  pub inverse : (j : ℕ) → j < length tree → mul_p (get_or exit j 0) (get_or tree j 0) ≡ 1

-- ---- filling

-- the first points of a level, x at word 2c and y at word 2c + 1 for point c: every fourth of the half coset of log size n
pub record Points (n count : ℕ) (level : List ℕ) : Type 0 where
  pub each : (c : ℕ) → c < count → point_at level c ≡ half_point n (4 * c)

-- the last level of the tree of log size n, to be filled with those points
pub record LastLevel (n : ℕ) (level : List ℕ) : Type 0 where
  pub least : 3 ≤ n
  pub most : n ≤ 30
  pub size : 4 * length level ≡ 2 ^ n

-- so many points more, each a step further than the one so many before it
pub record Extended (count : ℕ) (step : ℕ × ℕ) (level exit : List ℕ) : Type 0 where
  pub kept : (c : ℕ) → c < count → point_at exit c ≡ point_at level c
  pub added : (c : ℕ) → c < count → point_at exit (count + c) ≡ plus words31 (point_at level c) step

-- what adding the steps up to bit s asks: room, a first point and the step of bit s
pub record Stepping (s : ℕ) (step : CirclePoint M31) (level : List ℕ) : Type 0 where
  pub least : 1 ≤ s
  pub most : s ≤ 28
  pub room : 2 ^ s ≤ length level
  pub first_x : get_or level 0 0 < P
  pub first_y : get_or level 1 0 < P
  pub reduced : Reduced step

-- the points that the steps up to bit s give, from the first one on; step is that of bit s
pub record Stepped (s : ℕ) (step : ℕ × ℕ) (level exit : List ℕ) : Type 0 where
  pub below : (j : ℕ) → j < 2 ^ s → get_or exit j 0 < P
  pub points : (n : ℕ) → s + 2 ≤ n → n ≤ 30 → step ≡ index_point (2 ^ (30 - s)) → Points n 1 level → Points n (2 ^ (s - 1)) exit

-- the nodes first, .., 2 first - 1 from their left children, the others as they were
pub record Doubled (first : ℕ) (tree exit : List ℕ) : Type 0 where
  pub doubled : (j : ℕ) → first ≤ j → j < 2 * first → get_or exit j 0 ≡ double_x words31 (get_or tree (2 * j) 0)
  pub kept : (j : ℕ) → 2 * first ≤ j → get_or exit j 0 ≡ get_or tree j 0

-- ---- blocks

-- two layers on four words: w for the halves, v and u for the pairs
unfoldable pub pair_twiddle : ℕ → ℕ → ℕ → ℕ → ℕ → ℕ
pair_twiddle w v u zero i = cond (eqb (i % 2) 0) v u
pair_twiddle w v u (suc t) i = w

-- the same where the pairs have v and -v, or -v and v
abbrev pub four_twiddle : Bool → ℕ → ℕ → ℕ → ℕ → ℕ
four_twiddle negated w v = pair_twiddle w (cond negated (neg_p v) v) (cond negated v (neg_p v))

-- two layers on eight words, below the nodes that hold x and y, by what they make of four words
abbrev pub of_eight : (Bool → ℕ → ℕ → List ℕ → List ℕ) → ℕ → ℕ → List ℕ → List ℕ
of_eight of_four x y block = of_four false x y (take 4 block) ++ of_four true y x (drop 4 block)

abbrev pub evaluate_eight : ℕ → ℕ → List ℕ → List ℕ
evaluate_eight = of_eight (λ negated w v. evaluate_block words31 2 (four_twiddle negated w v) 0)

abbrev pub interpolate_eight : ℕ → ℕ → List ℕ → List ℕ
interpolate_eight = of_eight (λ negated w v. interpolate_block words31 2 (four_twiddle negated w v) 0)

-- a block of 2^k words below node i, for k from 3 to 30, and the part of the tree that it needs
pub record Block (block tree : List ℕ) (i k : ℕ) : Type 0 where
  pub least : 3 ≤ k
  pub most : k ≤ 30
  pub size : length block ≡ 2 ^ k
  pub room : (i + 1) * 2 ^ k ≤ 4 * length tree
  pub words : Words block

-- 2^n times the coefficients of a column of values
pub record Unscaled (n : ℕ) (column exit : List ℕ) : Type 0 where
  pub words : PartlyReduced exit
  pub coefficients : Coefficients n (scaled words31 (2 ^ (31 - n)) exit) column

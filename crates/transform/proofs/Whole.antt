-- A whole column, with the tree in the first half of scratch.
use Prim.Native.Nat.{ℕ, suc, ◌+◌, ◌-◌, ◌*◌, ◌/◌, ◌^◌, ◌≤◌}
use mathlib.Core.Path.{◌≡◌, sym, ◌∙◌, ap, subst}
use mathlib.Core.List.{List, ◌++◌}
use native.Mathlib.Nat as N
use native.Mathlib.Omega.{arith}
use lib.ListN.{length, take, drop, length-append, length-drop}
use lib.Seq.{take_at, drop-append-add, drop-drop, length-take-le}
use Rattle.fields.specs.Words.{words31}
use Rattle.column.specs.Butterflies.{evaluate_block, interpolate_block, scaled}
use Rattle.transform.specs.Transform.{values_of, Column, Coefficients}
use Rattle.transform.specs.Tree.{PartlyReduced, reduced_words, LineTree, node_twiddle, InvertedTree, Block}
use Rattle.transform.specs.Elements.{column_words, tree_values, tree_coefficients}
use Rattle.transform.specs.TreeLaws.{tree_holds, inverse_holds}
use Rattle.transform.proofs.WordLaws.{words_evaluate, words-scaled}
use Rattle.transform.proofs.Partly.{partly_words, reduced_same}

module _ (n : ℕ) (column scratch : List ℕ) (lo : 3 ≤ n) (hi : n ≤ 30) (h : Column n column) (room : 2 ^ n ≤ length scratch) where
  abbrev pub half : ℕ
  half = length column / 2

  whole : length column ≡ half + half
  whole =
      let bits : n ≡ suc (n - 1) = omega arith in
      omega (arith, h.size ∙ ap (λ (k : ℕ). 2 ^ k) bits ∙ N.two-pow-succ (n - 1))

  pub tree_part : length (take half scratch) ≡ half
  tree_part = length-take-le half scratch (omega (arith, h.size))

  pub tree_size : 2 * length (take half scratch) ≡ 2 ^ n
  tree_size = omega (arith, tree_part, whole, h.size)

  -- once scratch starts with a tree
  module _ (tree : List ℕ) (same : length tree ≡ length (take half scratch)) where
    abbrev pub filled : List ℕ
    filled = tree ++ drop half scratch

    nodes : length tree ≡ half
    nodes = same ∙ tree_part

    pub tree_taken : take half filled ≡ tree
    tree_taken = take_at tree (drop half scratch) half nodes

    pub filled-length : length filled ≡ length scratch
    filled-length = length-append tree (drop half scratch) ∙ omega (arith, nodes, length-drop half scratch, h.size)

    -- the words from 2^n on stay
    pub filled_rest : drop (2 ^ n) filled ≡ drop (2 ^ n) scratch
    filled_rest =
        let further : 2 ^ n ≡ length tree + half = omega (arith, nodes, whole, h.size) in
        let both : half + half ≡ 2 ^ n = sym whole ∙ h.size in
        ap (λ (k : ℕ). drop k filled) further ∙ drop-append-add tree (drop half scratch) half ∙ drop-drop half half scratch
        ∙ ap (λ (k : ℕ). drop k scratch) both

    -- the whole column is the block below the root
    pub root_block : Block column (take half filled) 1 n
    root_block = record {
      least = lo;
      most = hi;
      size = h.size;
      room = omega (arith, ap length tree_taken, nodes, whole, h.size);
      words = column_words n column h;
    }

    stands : reduced_words column ≡ column
    stands = reduced_same column (column_words n column h)

    pub evaluation_block : Block (reduced_words column) (take half filled) 1 n × PartlyReduced column
    evaluation_block =
        (subst (λ (c : List ℕ). Block c (take half filled) 1 n) (sym stands) root_block, partly_words column (column_words n column h))

    pub column_evaluated : LineTree n tree → (exit : List ℕ)
        → exit ≡ evaluate_block words31 n (node_twiddle (take half filled)) 1 (reduced_words column) → exit ≡ values_of n column
    column_evaluated t exit e =
        e ∙ ap (evaluate_block words31 n (node_twiddle (take half filled)) 1) stands
        ∙ ap (λ (l : List ℕ). evaluate_block words31 n (node_twiddle l) 1 column) tree_taken
        ∙ tree_values n (omega arith) hi (node_twiddle tree) (tree_holds n tree lo hi t) column h.size
        (words_evaluate n (node_twiddle tree) 1 column (column_words n column h))

    -- with the inverses of a tree's twiddles: 2^n times the coefficients
    pub column_interpolated : (lines : List ℕ) → LineTree n lines → InvertedTree lines tree → (exit : List ℕ)
        → exit ≡ scaled words31 (2 ^ (31 - n)) (interpolate_block words31 n (node_twiddle (take half filled)) 1 column)
        → Coefficients n exit column
    column_interpolated lines t inverted exit e =
        let is : exit ≡ scaled words31 (2 ^ (31 - n)) (interpolate_block words31 n (node_twiddle tree) 1 column)
        = e ∙ ap (λ (l : List ℕ). scaled words31 (2 ^ (31 - n)) (interpolate_block words31 n (node_twiddle l) 1 column)) tree_taken in
        tree_coefficients n (omega arith) hi (node_twiddle tree) (inverse_holds n lines lo hi t tree inverted)
        column exit h is (λ k. rw is (words-scaled (2 ^ (31 - n)) (interpolate_block words31 n (node_twiddle tree) 1 column) k))

use Prim.Native.Nat.{ℕ, ◌≤◌, ◌^◌}
use mathlib.Core.Path.{◌≡◌, sym, ◌∙◌, subst}
use mathlib.Core.List.{List}
use native.Mathlib.Omega.{arith}
use lib.ListN.{length}
use Rattle.transform.specs.Tree.{Invertible, InvertedTree}
use Rattle.transform.specs.TreeLaws.{tree_invertible}
use Rattle.transform.proofs.Whole.{filled, tree_size, tree_taken}
use Rattle.transform.proofs.Whole.{filled-length, filled_rest, column_interpolated}
use Rattle.transform.proofs.interpolation.interpolate.Goals as goal

-- scratch with the tree has room for its inverse
filled-room : (n : ℕ) (scratch tree : List ℕ) → length tree ≡ length scratch → 2 ^ n ≤ length scratch → 2 ^ n ≤ length tree
filled-room n scratch tree e h = omega arith

pub fill-requires : goal.fill-requires
fill-requires c = (
  omega arith,
  c.requires.1,
  tree_size c.args.log_size c.args.column.now c.args.scratch.now (omega arith) c.requires.1
      c.requires.2 c.requires.3,
)

pub invert-requires : goal.invert-requires
invert-requires c = let fill = c.fill in
    let lo : 3 ≤ c.args.log_size = omega arith in
    subst (λ (l : List ℕ). Invertible l)
    (sym (tree_taken c.args.log_size c.args.column.now c.args.scratch.now lo c.requires.1 c.requires.2 c.requires.3
    fill.new.tree fill.auto.tree))
    (tree_invertible c.args.log_size fill.new.tree lo c.requires.1 fill.ensures)

pub returns : goal.returns
returns c = let block = c.block in
    let invert = c.invert in
    let fill = c.fill in
    let lo : 3 ≤ c.args.log_size = omega arith in
    let first = filled c.args.log_size c.args.column.now c.args.scratch.now lo c.requires.1 c.requires.2 c.requires.3
    fill.new.tree fill.auto.tree in
    let same = filled-length c.args.log_size c.args.column.now c.args.scratch.now lo c.requires.1 c.requires.2 c.requires.3
    fill.new.tree fill.auto.tree in
    let room = filled-room c.args.log_size c.args.scratch.now first same c.requires.3 in
    let inverted = subst (λ (l : List ℕ). InvertedTree l invert.new.tree)
    (tree_taken c.args.log_size c.args.column.now c.args.scratch.now lo c.requires.1 c.requires.2 c.requires.3 fill.new.tree
    fill.auto.tree) invert.ensures in (
      column_interpolated c.args.log_size c.args.column.now first lo c.requires.1 c.requires.2 room invert.new.tree
          invert.auto.tree
          fill.new.tree fill.ensures inverted block.new.column block.ensures,
      filled-length c.args.log_size c.args.column.now first lo c.requires.1 c.requires.2 room invert.new.tree
          invert.auto.tree ∙ same,
      filled_rest c.args.log_size c.args.column.now first lo c.requires.1 c.requires.2 room invert.new.tree invert.auto.tree
          ∙ filled_rest c.args.log_size c.args.column.now c.args.scratch.now lo c.requires.1 c.requires.2 c.requires.3
          fill.new.tree fill.auto.tree,
    )

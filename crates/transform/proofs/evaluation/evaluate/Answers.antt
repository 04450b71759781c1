use Prim.Native.Nat.{◌≤◌}
use mathlib.Core.Path.{sym, subst}
use native.Mathlib.Omega.{arith}
use Rattle.transform.specs.Tree.{Words}
use Rattle.transform.specs.TreeLaws.{tree_words}
use Rattle.transform.proofs.Whole.{tree_size, tree_taken, filled-length}
use Rattle.transform.proofs.Whole.{filled_rest, evaluation_block, column_evaluated}
use Rattle.transform.proofs.evaluation.evaluate.Goals as goal

pub fill-requires : goal.fill-requires
fill-requires c = (
  omega arith,
  c.requires.1,
  tree_size c.args.log_size c.args.column.now c.args.scratch.now (omega arith)
      c.requires.1 c.requires.2 c.requires.3,
)

pub invariant_of-tree : goal.invariant_of-tree
invariant_of-tree c = let fill = c.fill in
    let n = c.args.log_size in
    let lo : 3 ≤ n = omega arith in
    record {
      words = subst Words (sym (tree_taken n c.args.column.now c.args.scratch.now lo c.requires.1 c.requires.2 c.requires.3
          fill.new.tree fill.auto.tree)) (tree_words n fill.new.tree lo c.requires.1 fill.ensures);
    }

pub block-requires : goal.block-requires
block-requires c = let fill = c.fill in
    let n = c.args.log_size in
    let lo : 3 ≤ n = omega arith in
    evaluation_block n c.args.column.now c.args.scratch.now lo c.requires.1 c.requires.2 c.requires.3 fill.new.tree fill.auto.tree

pub returns : goal.returns
returns c = let block = c.block in
    let fill = c.fill in
    let n = c.args.log_size in
    let lo : 3 ≤ n = omega arith in (
      column_evaluated n c.args.column.now c.args.scratch.now lo c.requires.1 c.requires.2 c.requires.3 fill.new.tree fill.auto.tree
          fill.ensures block.new.column block.ensures,
      filled-length n c.args.column.now c.args.scratch.now lo c.requires.1 c.requires.2 c.requires.3 fill.new.tree fill.auto.tree,
      filled_rest n c.args.column.now c.args.scratch.now lo c.requires.1 c.requires.2 c.requires.3 fill.new.tree fill.auto.tree,
    )

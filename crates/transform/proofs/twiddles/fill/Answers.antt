use Prim.Native.Nat.{ℕ, ◌*◌}
use mathlib.Core.Path.{◌∙◌, ap}
use Rattle.transform.proofs.Filling.{level_size, tree_size, last_lines, some_nodes}
use Rattle.transform.proofs.twiddles.fill.Goals as goal

pub fill_points-requires : goal.fill_points-requires
fill_points-requires c = record { least = c.requires.0; most = c.requires.1; size = level_size c.args.log_size c.args.tree.now c.requires }

pub double_levels-requires : goal.double_levels-requires
double_levels-requires c = let l = c.fill_points in
    let n = c.args.log_size in
    let tree = c.args.tree.now in (
      c.requires.0,
      c.requires.1,
      ap (λ (m : ℕ). 2 * m) (tree_size n tree c.requires l.new.level l.auto.level) ∙ c.requires.2,
      last_lines n tree c.requires l.new.level l.auto.level l.ensures,
    )

pub bounds-tree-1 : goal.bounds-tree-1
bounds-tree-1 c = let l = c.fill_points in
    some_nodes c.args.log_size c.args.tree.now c.requires l.new.level l.auto.level
    c.double_levels.new.tree c.double_levels.auto.tree

use Prim.Native.Nat.{ℕ, ◌+◌, ◌-◌}
use mathlib.Core.Path.{refl, ◌∙◌, ap}
use mathlib.Core.List.{List}
use native.Mathlib.Omega.{arith}
use lib.ListN.{get_or, take, drop}
use Rattle.transform.specs.Tree.{reduced_words}
use Rattle.transform.proofs.BlockLoops.{partly_start}
use Rattle.transform.proofs.BlockLoops.{partly_next}
use Rattle.transform.proofs.blocks.layer.Given.{Over}
use Rattle.transform.proofs.blocks.layer.Goals as goal

-- what the loop makes of block j
abbrev after : Over → ℕ → List ℕ → ℕ → List ℕ → List ℕ
after g half tree j = g.D.Direction.of_halves half (get_or tree j 0)

pub loop-b-init : goal.loop-b-init
loop-b-init g c = (
  omega arith,
  partly_start c.args.count (c.args.half + c.args.half) (after g c.args.half c.args.tree.nodes.now) c.args.node
      c.args.column.now c.requires.2,
)

pub loop-b-preserved : goal.loop-b-preserved
loop-b-preserved g c = let F = after g c.args.half c.args.tree.nodes.now in
    let halves = g.D.Direction.of_halves c.args.half in
    let start = c.loop-b.start in
    let part = reduced_words (take (start + (c.args.half + c.args.half) - start) (drop start c.loop-b.column)) in (
      omega (arith, c.loop-b.invariant.0),
      partly_next c.args.count (c.args.half + c.args.half) F c.args.node c.args.column.now c.requires.0
          c.loop-b.b c.loop-b.column c.loop-b.invariant.1 (omega arith) _ _ c.loop-b.invariant.0 refl
          (λ j l e. g.met.D.Direction.halves_length c.args.half (get_or c.args.tree.nodes.now j 0) l e)
          c.butterflies.new.block
          (◌∙◌ {b = halves c.twiddle.result part} c.butterflies.ensures.0 (ap (λ (w : ℕ). halves w part) c.twiddle.ensures.0))
          c.butterflies.ensures.1,
    )

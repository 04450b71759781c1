use Prim.Native.Nat.{ℕ, ◌/◌, ◌<◌}
use mathlib.Core.Path.{◌≡◌, sym, ◌∙◌, ap}
use mathlib.Core.List.{List}
use native.Mathlib.Omega.{arith}
use lib.ListN.{length}
use Rattle.transform.specs.Tree.{reduced_words}
use Rattle.transform.proofs.Partly.{reduced-length}
use Rattle.transform.proofs.HalfBlocks.{halves_size, node_room, first_block}
use Rattle.transform.proofs.HalfBlocks.{second_block, block_evaluated}
use Rattle.transform.proofs.evaluation.+block.Goals as goal

-- as many words stand for as many
halved : (c : List ℕ) → length c / 2 ≡ length (reduced_words c) / 2
halved c = ap (λ (n : ℕ). n / 2) (sym (reduced-length c))

pub twiddle-requires : goal.twiddle-requires
twiddle-requires t c = let big : 14 < c.args.k = omega arith in
    node_room (reduced_words c.args.column.now) c.args.tree.nodes.now c.args.i c.args.k c.requires.0 big (length c.args.column.now / 2)
    (halved c.args.column.now)

pub butterflies-requires : goal.butterflies-requires
butterflies-requires t c = let big : 14 < c.args.k = omega arith in (
  sym (reduced-length c.args.column.now) ∙ halves_size (reduced_words c.args.column.now) c.args.tree.nodes.now c.args.i c.args.k
      c.requires.0 big (length c.args.column.now / 2) (halved c.args.column.now),
  c.twiddle.ensures.1,
  c.requires.1,
)

pub block-requires : goal.block-requires
block-requires t c = let big : 14 < c.args.k = omega arith in
    let butterflies = c.butterflies in (
      omega arith,
      first_block (reduced_words c.args.column.now) c.args.tree.nodes.now c.args.i c.args.k c.requires.0 big
          (length c.args.column.now / 2) (halved c.args.column.now) butterflies.new.block
          c.twiddle.result c.twiddle.ensures.0 butterflies.ensures.0 butterflies.ensures.1,
    )

pub block-requires-2 : goal.block-requires-2
block-requires-2 t c = let big : 14 < c.args.k = omega arith in
    let butterflies = c.butterflies in
    let lower = c.block in (
      omega arith,
      second_block (reduced_words c.args.column.now) c.args.tree.nodes.now c.args.i c.args.k c.requires.0 big
          (length c.args.column.now / 2) (halved c.args.column.now) butterflies.new.block
          c.twiddle.result c.twiddle.ensures.0 butterflies.ensures.0 butterflies.ensures.1
          lower.new.column lower.auto.column,
    )

pub returns : goal.returns
returns t c = let big : 14 < c.args.k = omega arith in
    let butterflies = c.butterflies in
    let lower = c.block in
    let upper = c.block-2 in
    block_evaluated (reduced_words c.args.column.now) c.args.tree.nodes.now c.args.i c.args.k c.requires.0 big (length c.args.column.now /
    2) (halved c.args.column.now) butterflies.new.block c.twiddle.result c.twiddle.ensures.0
    butterflies.ensures.0 butterflies.ensures.1 lower.new.column
    lower.auto.column upper.new.column lower.ensures upper.ensures

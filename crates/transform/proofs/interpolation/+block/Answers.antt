use Prim.Native.Nat.{ℕ, ◌/◌, ◌^◌, ◌<◌}
use mathlib.Core.Path.{refl, sym, ◌∙◌, ap, subst}
use mathlib.Core.List.{List}
use native.Mathlib.Omega.{arith}
use lib.ListN.{length}
use Rattle.fields.specs.Words.{words31}
use Rattle.column.specs.Butterflies.{interpolate_block, scaled}
use Rattle.transform.specs.Tree.{node_twiddle, Block}
use Rattle.transform.proofs.Partly.{partly_words, reduced_same}
use Rattle.transform.proofs.Scaling.{scaled-reduced}
use Rattle.transform.proofs.HalfBlocks.{node_room}
use Rattle.transform.proofs.HalfBlocks.{upper_block, joined_length, joined_words, block_interpolated}
use Rattle.transform.proofs.interpolation.+block.Goals as goal

pub layers-requires : goal.layers-requires
layers-requires t c = let block = c.requires.0 in
    let column = c.args.column.now in (
      subst (λ (l : List ℕ). Block l c.args.tree.nodes.now c.args.i c.args.k) (sym (reduced_same column block.words)) block,
      partly_words
          column block.words,
    )

pub returns-then-k-le14 : goal.returns-then-k-le14
returns-then-k-le14 t c = let layers = c.layers in
    let column = c.args.column.now in
    c.scale.ensures ∙ scaled-reduced (2 ^ c.args.s) layers.new.column
    ∙ ap (scaled words31 (2 ^ c.args.s)) (layers.ensures.0 ∙ ap (interpolate_block words31 c.args.k (node_twiddle c.args.tree.nodes.now)
    c.args.i) (reduced_same column c.requires.0.words))

pub block-requires-2 : goal.block-requires-2
block-requires-2 t c = let big : 14 < c.args.k = omega arith in
    let lower = c.block in (
      omega arith,
      (
        upper_block c.args.column.now c.args.tree.nodes.now c.args.i c.args.k c.requires.0 big (length c.args.column.now / 2)
            refl lower.new.column lower.auto.column,
        c.requires.1,
        c.requires.2,
      ),
    )

pub twiddle-requires : goal.twiddle-requires
twiddle-requires t c = let big : 14 < c.args.k = omega arith in
    node_room c.args.column.now c.args.tree.nodes.now c.args.i c.args.k c.requires.0 big (length c.args.column.now / 2) refl

pub inverse_butterflies-requires : goal.inverse_butterflies-requires
inverse_butterflies-requires t c = let big : 14 < c.args.k = omega arith in
    let lower = c.block in
    let upper = c.block-2 in (
      joined_length c.args.column.now c.args.tree.nodes.now c.args.i c.args.k c.requires.0 big (length c.args.column.now / 2) refl
          lower.new.column lower.auto.column (2 ^ c.args.s) upper.new.column lower.ensures upper.ensures,
      c.twiddle.ensures.1,
      joined_words c.args.column.now c.args.tree.nodes.now c.args.i c.args.k c.requires.0 big (length c.args.column.now / 2) refl
          lower.new.column lower.auto.column (2 ^ c.args.s) upper.new.column lower.ensures upper.ensures,
    )

pub returns : goal.returns
returns t c = let big : 14 < c.args.k = omega arith in
    let lower = c.block in
    let upper = c.block-2 in
    let inverse = c.inverse_butterflies in
    block_interpolated c.args.column.now c.args.tree.nodes.now c.args.i c.args.k c.requires.0 big (length c.args.column.now / 2) refl
    lower.new.column lower.auto.column (2 ^ c.args.s) upper.new.column lower.ensures upper.ensures
    inverse.new.block c.twiddle.result c.twiddle.ensures.0 inverse.ensures.1 inverse.ensures.0

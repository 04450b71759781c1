use mathlib.Core.Path.{refl, sym, ◌∙◌}
use native.Mathlib.Omega.{arith}
use Rattle.transform.specs.Tree.{reduced_words}
use Rattle.transform.proofs.Partly.{reduced-length, reduced_same}
use Rattle.transform.proofs.Layers.{left_start, left_nodes, left_size, left_next, eights_size, eights_room, left_end}
use Rattle.transform.proofs.evaluation.layers.Goals as goal

pub loop-t-init : goal.loop-t-init
loop-t-init c = (
  c.requires.0,
  left_start (reduced_words c.args.column.now) c.args.tree.nodes.now c.args.i c.args.k c.requires.0,
  c.requires.1,
)

pub layer-requires : goal.layer-requires
layer-requires c = let at = c.loop-t in
    let s = c.args in (
      sym (reduced-length at.column) ∙ left_size (reduced_words s.column.now) s.tree.nodes.now s.i s.k at.invariant.0 at.t at.count
          at.node (reduced_words at.column) at.invariant.1 _ _ refl c.loop-t-test.true
          c.two_to-half.ensures,
      left_nodes (reduced_words s.column.now) s.tree.nodes.now s.i s.k at.invariant.0 at.t at.count at.node (reduced_words at.column)
          at.invariant.1,
      at.invariant.2,
    )

pub overflow_mul-node : goal.overflow_mul-node
overflow_mul-node c = omega (
  arith,
  (let at = c.loop-t in let s = c.args in left_nodes (reduced_words s.column.now) s.tree.nodes.now s.i
      s.k at.invariant.0 at.t at.count at.node (reduced_words at.column) at.invariant.1),
)

pub loop-t-preserved : goal.loop-t-preserved
loop-t-preserved c = let layer = c.layer in
    let power = c.two_to-half in
    let at = c.loop-t in
    let s = c.args in (
      at.invariant.0,
      left_next (reduced_words s.column.now) s.tree.nodes.now s.i s.k at.invariant.0 at.t at.count at.node (reduced_words at.column)
          at.invariant.1 _ power.result refl
          c.loop-t-test.true power.ensures (reduced_words layer.new.column) layer.ensures.0,
      layer.ensures.1,
    )

pub eights-requires : goal.eights-requires
eights-requires c = let at = c.loop-t in
    let s = c.args in (
      sym (reduced-length at.column) ∙ eights_size (reduced_words s.column.now) s.tree.nodes.now s.i s.k at.invariant.0 at.t at.count
          at.node (reduced_words at.column) at.invariant.1 c.loop-t-test.false,
      eights_room (reduced_words s.column.now) s.tree.nodes.now s.i s.k at.invariant.0 at.t at.count at.node (reduced_words at.column)
          at.invariant.1 c.loop-t-test.false,
      at.invariant.2,
    )

pub returns : goal.returns
returns c = let eights = c.eights in
    let at = c.loop-t in
    let s = c.args in
    left_end (reduced_words s.column.now) s.tree.nodes.now s.i s.k at.invariant.0 at.t at.count at.node (reduced_words at.column)
    at.invariant.1 c.loop-t-test.false
    eights.new.column (sym (reduced_same eights.new.column eights.ensures.1) ∙ eights.ensures.0)

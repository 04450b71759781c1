use Prim.Native.Nat.{ℕ, ◌/◌}
use mathlib.Core.Path.{◌≡◌, refl, sym, ◌∙◌, ap}
use mathlib.Core.List.{List}
use lib.ListN.{length}
use Rattle.transform.specs.Tree.{reduced_words}
use Rattle.transform.proofs.Partly.{reduced-length}
use Rattle.transform.proofs.InverseLayers.{eights_size, eights_room, done_start, layer_size, layer_room, done_next, done_end}
use Rattle.transform.proofs.interpolation.layers.Goals as goal

quarter : (c : List ℕ) → length c / 4 ≡ length (reduced_words c) / 4
quarter c = ap (λ (n : ℕ). n / 4) (sym (reduced-length c))

pub eights-requires : goal.eights-requires
eights-requires c = (
  sym (reduced-length c.args.column.now) ∙ eights_size (reduced_words c.args.column.now) c.args.tree.nodes.now c.args.i c.args.k
      c.requires.0 _ _ (quarter c.args.column.now) refl,
  eights_room (reduced_words c.args.column.now) c.args.tree.nodes.now c.args.i c.args.k c.requires.0 _ _ (quarter c.args.column.now) refl,
  c.requires.1,
)

pub layer-requires : goal.layer-requires
layer-requires c = let at = c.loop-t in
    let done = (let eights = c.eights in c.loop-t.invariant.0 (reduced_words c.args.column.now) c.requires.0 (done_start
    (reduced_words c.args.column.now) c.args.tree.nodes.now c.args.i c.args.k c.requires.0 _ _ (quarter c.args.column.now) refl
    (reduced_words eights.new.column) eights.ensures.0)) in (
      sym (reduced-length at.column) ∙ layer_size (reduced_words c.args.column.now) c.args.tree.nodes.now c.args.i c.args.k c.requires.0
          at.t at.count at.node (reduced_words at.column) done c.loop-t-test.true
          c.two_to-half.result c.two_to-half.ensures,
      layer_room (reduced_words c.args.column.now) c.args.tree.nodes.now c.args.i c.args.k c.requires.0 at.t at.count at.node
          (reduced_words at.column) done c.loop-t-test.true
          c.two_to-half.result c.two_to-half.ensures,
      (c.loop-t.invariant.1 c.eights.ensures.1),
    )

pub loop-t-preserved : goal.loop-t-preserved
loop-t-preserved c = let layer = c.layer in
    let power = c.two_to-half in
    let at = c.loop-t in (
      (λ block b done. done_next block c.args.tree.nodes.now c.args.i c.args.k b at.t at.count at.node (reduced_words at.column)
          (at.invariant.0 block b done)
          c.loop-t-test.true power.result power.ensures (reduced_words layer.new.column) layer.ensures.0),
      λ p. layer.ensures.1,
    )

pub returns : goal.returns
returns c = let at = c.loop-t in (
  done_end (reduced_words c.args.column.now) c.args.tree.nodes.now c.args.i c.args.k c.requires.0 at.t at.count at.node (reduced_words
      at.column) (let eights = c.eights in c.loop-t.invariant.0 (reduced_words c.args.column.now) c.requires.0 (done_start
      (reduced_words c.args.column.now) c.args.tree.nodes.now c.args.i c.args.k c.requires.0 _ _ (quarter c.args.column.now) refl
      (reduced_words eights.new.column) eights.ensures.0)) c.loop-t-test.false,
  (c.loop-t.invariant.1 c.eights.ensures.1),
)

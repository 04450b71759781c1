use Prim.Native.Nat.{ℕ, ◌*◌}
use mathlib.Core.Path.{sym, ◌∙◌, subst}
use mathlib.Core.List.{List}
use native.Mathlib.Omega.{arith}
use lib.ListN.{set}
use Rattle.transform.specs.Tree.{Invertible, InvertedTree}
use Rattle.transform.proofs.Pairs.{written-length}
use Rattle.transform.proofs.Inverting.{Inverting, put_back, root_inverted, children_inverted, all_inverted}
use Rattle.transform.proofs.twiddles.invert.Goals as goal

pub loop-i-init : goal.loop-i-init
loop-i-init c = let t = c.requires in
    let tree = c.args.tree.now in
    let r = c.add-inverse.result in
    let size = written-length tree 0 r r in (
      omega (arith, size, t.even),
      omega (arith, size),
      subst (λ (l : List ℕ). Inverting 1 l (set (set tree 0 r) 1 r)) (sym (put_back tree r r t)) (root_inverted t r c.add-inverse.ensures),
    )

pub loop-i-preserved : goal.loop-i-preserved
loop-i-preserved c = let r = c.add-inverse.result in
    let u = c.twice_product.result in
    let v = c.twice_product-in-loop-i.result in
    let i = c.loop-i.i in (
      c.loop-i.invariant.0 ∙ sym (written-length c.loop-i.tree (2 * i) u v),
      c.loop-i.invariant.1,
      children_inverted (subst Invertible (sym (put_back c.args.tree.now r r c.requires)) c.requires) c.loop-i.invariant.2
          c.beside-s.result u v (omega arith) (omega arith) c.beside-s.ensures.0 c.twice_product.ensures
          c.twice_product-in-loop-i.ensures,
    )

pub returns : goal.returns
returns c = let r = c.add-inverse.result in
    let same = put_back c.args.tree.now r r c.requires in
    subst (λ (l : List ℕ). InvertedTree l c.loop-i.tree) same
    (all_inverted (subst Invertible (sym same) c.requires) c.loop-i.invariant.2 (omega arith))

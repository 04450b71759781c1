use Prim.Native.Nat.{ℕ, suc, ◌-◌, ◌*◌}
use mathlib.Core.Path.{◌≡◌, ◌∙◌, ap}
use native.Mathlib.Omega.{arith}
use Rattle.transform.proofs.Filling.{lines_room, lines_below, lines_next}
use Rattle.transform.proofs.twiddles.double_levels.Goals as goal

pub double_level-requires : goal.double_level-requires
double_level-requires c = let n = c.args.log_size in
    let m = c.loop-m.m in
    let tree = c.loop-m.tree in
    let i = c.loop-m.invariant in
    let next : m ≡ suc (m - 1) = omega arith in (
      lines_room n (m - 1) m c.two_to.result tree next i.0 c.requires.1 c.two_to.ensures i.2 (ap (λ (l : ℕ). 2 * l) i.1 ∙ c.requires.2),
      lines_below n (m - 1) m c.two_to.result tree next i.0 c.requires.1 c.two_to.ensures i.2,
    )

pub loop-m-preserved : goal.loop-m-preserved
loop-m-preserved c = let m = c.loop-m.m in
    let next : m ≡ suc (m - 1) = omega arith in (
      omega arith,
      c.double_level.auto.tree ∙ c.loop-m.invariant.1,
      lines_next _ (m - 1) m _ _ next c.loop-m.invariant.0 c.requires.1 c.two_to.ensures
          c.loop-m.invariant.2 _ c.double_level.ensures,
    )

use Prim.Native.Nat.{◌≤◌}
use native.Mathlib.Omega.{arith}
use Rattle.circle.specs.Point.{point_of}
use Rattle.transform.proofs.Steps.{half_points, all_points, next_step}
use Rattle.transform.proofs.twiddles.+add_steps.Goals as goal

pub add_points-requires : goal.add_points-requires
add_points-requires t c = let power = c.two_to-count in
    let middle = c.add_steps in
    let lo : 2 ≤ c.args.s = omega arith in
    let all = all_points c.args.s power.result lo power.ensures in
    let half = half_points c.args.s power.result lo power.ensures in (
      omega (arith, all, middle.auto.level, c.requires.room),
      λ j h. middle.ensures.below j (omega (arith, half)),
      c.requires.reduced,
    )

pub returns : goal.returns
returns t c = let power = c.two_to-count in
    let middle = c.add_steps in
    let twice = c.power_point in
    let points = c.add_points in
    let more = c.if-s-lt2 in
    let lo : 2 ≤ c.args.s = omega (arith, more.false) in
    next_step c.args.s power.result lo power.ensures (point_of c.args.step) (point_of twice.result)
    c.args.level.now middle.new.level points.new.level c.requires.most twice.ensures.0 middle.ensures points.ensures

use Prim.Native.Nat.{ℕ, ◌<◌}
use mathlib.Core.Path.{subst, sym}
use native.Mathlib.Omega.{arith}
use lib.ListN.{length-set}
use Rattle.algebra.specs.M31.{P}
use Rattle.circle.specs.Point.{point_of}
use Rattle.transform.proofs.Pairs.{written-length}
use Rattle.transform.proofs.Steps.{level_room, two_words, first_x, first_y, level_filled}
use Rattle.transform.proofs.twiddles.fill_points.Goals as goal

pub bounds-level-1 : goal.bounds-level-1
bounds-level-1 c = rw length-set (omega (arith, two_words c.args.log_size c.args.level.now c.requires))

pub add_steps-requires : goal.add_steps-requires
add_steps-requires c = let n = c.args.log_size in
    let level = c.args.level.now in
    let start = c.power_point-start in
    let x = start.result.x.0 in
    let y = start.result.y.0 in
    record {
      least = omega (arith, c.requires.least);
      most = omega (arith, c.requires.most);
      room = omega (arith, level_room n level c.requires, written-length level 0 x y);
      first_x = subst (λ (w : ℕ). w < P) (sym (first_x n level c.requires x y)) start.ensures.1.0;
      first_y = subst (λ (w : ℕ). w < P) (sym (first_y n level c.requires x y)) start.ensures.1.1;
      reduced = c.power_point-step.ensures.1;
    }

pub returns : goal.returns
returns c = let start = c.power_point-start in
    let step = c.power_point-step in
    let steps = c.add_steps in
    level_filled c.args.log_size c.args.level.now c.requires start.result.x.0 start.result.y.0
    (point_of step.result) steps.new.level start.ensures.0 step.ensures.0 steps.ensures

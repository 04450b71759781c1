use Rattle.std.proofs.Common.{◌≡◌}
use Rattle.algebra.specs.Doubling.{iterate, double}
use Rattle.circle.specs.CirclePoint.{point_of, Reduced}
use Rattle.circle.proofs.point.CirclePoint.doubled.Given as goal

abbrev pub invariant-loop : goal.invariant-loop
invariant-loop g l = let F = g.F.Field.field in
    (Reduced F l.res) × (point_of F l.res ≡ iterate l.counter (double F.words) (point_of F l.initial.res))

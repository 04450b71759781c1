use Rattle.circle.specs.Point.{point_of}
use Rattle.transform.proofs.Filling.{Adding}
use Rattle.transform.proofs.twiddles.add_points.Given as goal

abbrev pub invariant-loop-c : goal.invariant-loop-c
invariant-loop-c l = Adding l.count l.c (point_of l.step) l.initial.level l.level

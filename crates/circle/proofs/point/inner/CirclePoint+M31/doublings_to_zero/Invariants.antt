use Rattle.std.proofs.Common.{◌≡◌, ◌<◌}
use Rattle.algebra.specs.M31.{P}
use Rattle.algebra.specs.Circle.{double_x}
use Rattle.algebra.specs.Doubling.{iterate}
use Rattle.fields.specs.Words.{words31}
use Rattle.fields.specs.SearchLaws.{None}
use Rattle.circle.specs.LogOrder.{is_one_after}
use Rattle.circle.proofs.point.inner.CirclePoint+M31.doublings_to_zero.Given as goal

abbrev pub invariant-loop-count : goal.invariant-loop-count
invariant-loop-count l = (l.x.0 < P) × (l.x.0 ≡ iterate l.count (double_x words31) l.initial.x.0) × None (is_one_after l.initial.x.0) l.count

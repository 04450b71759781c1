use Rattle.std.proofs.Common.{◌≡◌, ◌/◌, ◌%◌, ◌^◌}
use Rattle.circle.specs.Point.{point_of, Reduced}
use Rattle.circle.specs.Index.{index_point}
use Rattle.circle.specs.Table.{digits}
use Rattle.circle.proofs.index.inner.to_point.Given as goal

abbrev pub invariant-loop-window : goal.invariant-loop-window
invariant-loop-window l = (Reduced l.sum) × (l.rest ≡ l.initial.rest / digits ^ l.window) ×
    (point_of l.sum ≡ index_point (l.initial.rest % digits ^ l.window))

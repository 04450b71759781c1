-- A point of the circle over M31 reaches zero in at most 31 doublings.
use Rattle.std.specs.Prelude.{◌≡◌}
use Rattle.std.proofs.Common.{◌∙◌}
use Rattle.algebra.specs.ZMod.{Z}
use Rattle.algebra.specs.M31.{P, m31, m31_laws}
use Rattle.algebra.specs.Circle.{zero_point, OnCircle}
use Rattle.algebra.proofs.Frobenius.{circle_order}
use Rattle.algebra.specs.Doubling.{double, doublings_multiple, iterate}

pub doublings_31 : (p : Z P × Z P) → OnCircle m31 p → iterate 31 (double m31) p ≡ zero_point m31
doublings_31 p h = doublings_multiple m31 m31_laws 31 p ∙ circle_order p h

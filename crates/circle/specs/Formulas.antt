-- Formulas of points over any operations, beyond those of `algebra` (plus, zero_point, multiple, double_x, double).
use Rattle.std.specs.Prelude.{◌+◌, ◌^◌, Bool, false, ℤ, pos, negsuc, ◌==◌}
use Rattle.algebra.specs.Ring.{Ops}
use Rattle.algebra.specs.Extension.{conjugate}
use Rattle.algebra.specs.Circle.{plus, multiple}

-- p + (x, -y), where q = (x, y)
abbrev pub minus : (O : Ops) → O.El × O.El → O.El × O.El → O.El × O.El
minus O p q = plus O p (conjugate O q)

-- (-x, -y)
abbrev pub antipode : (O : Ops) → O.El × O.El → O.El × O.El
antipode O p = (O.neg p.0, O.neg p.1)

-- p added k times to zero; for a negative k, the conjugate of p added - k times; negsuc n is - (n + 1)
abbrev pub signed_multiple : (O : Ops) → ℤ → O.El × O.El → O.El × O.El
signed_multiple O (pos n) p = multiple O n p
signed_multiple O (negsuc n) p = multiple O (n + 1) (conjugate O p)

-- -2^63
abbrev pub least : ℤ → Bool
least (pos n) = false
least (negsuc n) = n + 1 == 2 ^ 63

use Rattle.std.proofs.Common.{◌≡◌, ◌^◌, ◌<◌}
use Rattle.algebra.specs.M31.{P}
use Rattle.fields.specs.Words.{pow_p}
use Rattle.fields.proofs.m31.inner.sqn.Given as goal

abbrev pub invariant-loop : goal.invariant-loop
invariant-loop l = (l.square < P) × (l.square ≡ pow_p l.v (2 ^ l.counter))

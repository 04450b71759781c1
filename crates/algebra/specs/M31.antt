-- M31: the integers modulo P = 2^31 - 1. That P is prime, and M31 a field, is proved in proofs/M31.antt.
use Rattle.std.specs.Prelude.{ℕ, zero, ◌<◌}
use Rattle.std.proofs.Common.{lit<}
use Rattle.algebra.specs.Ring.{Ops, Laws}
use Rattle.algebra.specs.ZMod.{Z, residue, zmod, zmod_laws}

-- 2^31 - 1
abbrev pub P : ℕ
P = 2147483647

pub P_pos : zero < P
P_pos = lit< tt

abbrev pub m31 : Ops
m31 = zmod P P_pos

-- a number as an element of M31
abbrev pub element : ℕ → Z P
element = residue P P_pos

pub m31_laws : Laws m31
m31_laws = zmod_laws P P_pos

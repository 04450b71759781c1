-- CM31 = M31[i] with i² = -1, and QM31 = CM31[u] with u² = 2 + i. That they are fields is proved in proofs/Tower.antt.
use Rattle.algebra.specs.Ring.{Ops, Laws, two}
use Rattle.algebra.specs.Extension.{ext, ext_laws}
use Rattle.algebra.specs.M31.{m31}

-- O[i], i² = -1
abbrev pub complex : Ops → Ops
complex O = ext O (O.neg O.one)

-- 2 + i
abbrev pub two_plus_i : (O : Ops) → O.El × O.El
two_plus_i O = (two O, O.one)

-- O[i][u], u² = 2 + i
abbrev pub quartic : Ops → Ops
quartic O = ext (complex O) (two_plus_i O)

abbrev pub cm31 : Ops
cm31 = complex m31

abbrev pub qm31 : Ops
qm31 = quartic m31

pub complex_laws : (O : Ops) → Laws O → Laws (complex O)
complex_laws O L = ext_laws O L (O.neg O.one)

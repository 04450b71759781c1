-- The generator G = (2, 1268011823). Its order, exactly 2^31, and that it lies on the circle are proved in proofs/Generator.antt.
use Rattle.algebra.specs.ZMod.{Z}
use Rattle.algebra.specs.M31.{P, element}

abbrev pub G : Z P × Z P
G = (element 2, element 1268011823)

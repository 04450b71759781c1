use Rattle.domains.proofs.Cosets.{twice_fits}
use Rattle.domains.proofs.coset.checked.CheckedCoset.double.Goals as goal

pub invariant_of-result : goal.invariant_of-result
invariant_of-result c = record {
  fits = twice_fits c.args.self.coset _ _ _ _ c.args.self.fits c.mul.ensures c.mul-2.ensures c.plus.ensures.0 c.plus-2.ensures.0;
}

use Rattle.std.specs.Prelude.{◌+◌, ◌≡◌}
use Rattle.algebra.specs.Doubling.{iterate}
use Rattle.domains.specs.Coset.{doubled}
use Rattle.domains.proofs.coset.checked.CheckedCoset.repeated_double.Given as goal

abbrev pub invariant-loop : goal.invariant-loop
invariant-loop l = record {
  left : l.res.coset.log_size + l.counter ≡ l.fn.self.coset.log_size;
  so_far : l.res.coset ≡ iterate l.counter doubled l.fn.self.coset;
}

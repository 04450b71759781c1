use Rattle.std.specs.Prelude.{◌≡◌, ◌*◌, ◌%◌, ◌^◌, ◌++◌, drop}
use Rattle.algebra.specs.Listing.{listing}
use Rattle.domains.proofs.domain.write_shifts.Given as goal

abbrev pub invariant-loop-i : goal.invariant-loop-i
invariant-loop-i l = l.shift-items ≡ listing l.i (λ i. (l.fn.step.0 * i) % 2 ^ 31) ++ drop l.i l.initial.shift-items

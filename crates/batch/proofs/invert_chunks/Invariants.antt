use Rattle.std.proofs.Common.{◌-◌, min}
use Rattle.batch.specs.Passes.{size}
use Rattle.batch.proofs.Chunks.{Through}
use Rattle.batch.proofs.invert_chunks.Given as goal

abbrev pub invariant-loop-first : goal.invariant-loop-first
invariant-loop-first g l =
    let u = g.F.Element.units in
    Through u l.column l.initial.dst l.chunk l.dst (min (size u l.column) l.first) l.made

abbrev pub decreases-loop-first : goal.decreases-loop-first
decreases-loop-first g l = l.n - l.first

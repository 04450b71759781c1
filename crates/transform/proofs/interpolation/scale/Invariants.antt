use Prim.Native.Nat.{◌^◌}
use Rattle.transform.proofs.Scaling.{Scaled}
use Rattle.transform.proofs.interpolation.scale.Given as goal

abbrev pub invariant-loop-word : goal.invariant-loop-word
invariant-loop-word l = Scaled (2 ^ l.s) l.initial.column l.word-index l.column

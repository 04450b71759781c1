use Prim.Native.Nat.{◌^◌}
use native.Mathlib.Omega.{arith}
use Rattle.transform.proofs.Scaling.{scaled_end, scaled_next}
use Rattle.transform.proofs.interpolation.scale.Goals as goal

pub loop-word-preserved : goal.loop-word-preserved
loop-word-preserved c = scaled_next (2 ^ c.args.s) c.args.column.now c.loop-word.word-index c.loop-word.column c.loop-word.invariant
    (omega (arith, c.loop-word.invariant.same))
    c.rotated.result c.rotated.ensures

pub returns : goal.returns
returns c = scaled_end (2 ^ c.args.s) c.args.column.now c.loop-word.word-index c.loop-word.column c.loop-word.invariant
    (omega (arith, c.loop-word.invariant.same))

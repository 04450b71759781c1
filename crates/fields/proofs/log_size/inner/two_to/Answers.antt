use Rattle.std.proofs.Common.{◌^◌, ◌∙◌, arith, lit<}
use native.Mathlib.Nat as N
use lib.Pow as W
use Rattle.fields.proofs.log_size.inner.two_to.Goals as goal

pub returns : goal.returns
returns c = let n = c.args.n in W.shl_exact 1 n 64 (lit< tt) (omega arith) ∙ N.one-mul (2 ^ n)

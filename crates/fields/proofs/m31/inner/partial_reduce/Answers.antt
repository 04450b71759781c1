use Rattle.std.proofs.Common.{rules}
use Rattle.fields.proofs.Reductions.{fold}
use Rattle.fields.proofs.m31.inner.partial_reduce.Goals as goal

pub returns : goal.returns
returns c = fold _ (search rules)

use Rattle.std.proofs.Common.{arith}
use Rattle.fields.proofs.Reductions.{unwrap_partly}
use Rattle.fields.proofs.m31.inner.sub_partly.Goals as goal

pub returns : goal.returns
returns c = unwrap_partly c.args.a c.args.b _ c.requires.0 c.requires.1 (omega arith) (omega arith)

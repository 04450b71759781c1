use Rattle.std.proofs.Common.{sym, ◌∙◌}
use native.Mathlib.Nat as N
use Rattle.fields.proofs.m31.inner.sub.Goals as goal

pub returns : goal.returns
returns c = let partly = c.sub_partly.ensures in
    sym (N.mod-eq_of_lt (partly.2 c.requires.0)) ∙ partly.0

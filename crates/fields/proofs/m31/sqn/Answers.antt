use Rattle.std.proofs.Common.{ap, ◌∙◌, rules, ◌≡◌, ℕ, ◌^◌}
use Rattle.fields.specs.Words.{pow_p}
use Rattle.fields.specs.Squarings.{squarings_same}
use Rattle.fields.specs.CheckLaws.{checks}
use Rattle.fields.proofs.m31.sqn.Goals as goal

pub returns : goal.returns
returns c = let e : c.sqn.result ≡ pow_p c.args.v.0 (2 ^ c.args.n) = c.sqn.ensures ∙ ap (λ (t : ℕ). pow_p c.args.v.0 (2 ^ t)) c.squarings.ensures
    ∙ squarings_same c.args.v.0 c.args.n in
    search (checks, rules)

-- What a call that is refused returns.
use Rattle.std.specs.Prelude.{◌≡◌, Result, Ok, Err, IsErrAnd}
use Rattle.std.proofs.Common.{sym, ◌∙◌, ap}
use Rattle.fields.specs.declared.refusal.Refusal.{Refusal}

-- x is what a `?` makes of r
pub returned : {A : Type 0} (x r : Result A Refusal) (why : Refusal) → IsErrAnd x (λ other. other ≡ why) → r ≡ Err why → x ≡ r
returned (Ok _) r why q e = absurd q
returned (Err other) r why q e = ap Err q ∙ sym e

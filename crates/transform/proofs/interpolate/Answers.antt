use mathlib.Core.Path.{refl, sym, ◌∙◌, subst}
use lib.ListN.{length}
use Rattle.std.specs.Prelude.{Result}
use Rattle.fields.specs.declared.refusal.Refusal.{Refusal}
use Rattle.transform.specs.Transform.{InterpolateExit, ScratchExit}
use Rattle.transform.specs.Accepted.{accepted}
use Rattle.transform.proofs.Calls.{returned}
use Rattle.transform.proofs.interpolate.Goals as goal

pub returns-in_err-check : goal.returns-in_err-check
unfolding InterpolateExit ScratchExit
returns-in_err-check c = let n = c.args.log_size in
    let column = c.args.column.now in
    let scratch = c.args.scratch.now in
    let answer = sym c.in_err-check.was ∙ c.check.ensures in (
      returned _ _ _ c.from_residual.ensures.1 c.in_err-check.was ∙ c.check.ensures,
      record {
        column_left = subst (λ (a : Result (Unit {0}) Refusal). InterpolateExit a n column column) answer refl;
        scratch_left = subst (λ (a : Result (Unit {0}) Refusal). ScratchExit a n scratch scratch) answer refl;
      },
    )

pub interpolate-requires : goal.interpolate-requires
interpolate-requires c =
    let ok = accepted c.args.log_size c.args.column.now (length c.args.scratch.now) (sym c.check.ensures ∙ c.in_ok-check.was) in
    (ok.low, ok.high, ok.words, ok.room)

pub returns : goal.returns
unfolding InterpolateExit ScratchExit
returns c = let n = c.args.log_size in
    let column = c.args.column.now in
    let scratch = c.args.scratch.now in
    let answer = sym c.in_ok-check.was ∙ c.check.ensures in (
      answer,
      record {
        column_left = subst (λ (a : Result (Unit {0}) Refusal). InterpolateExit a n column c.interpolate.new.column) answer
            c.interpolate.ensures.0;
        scratch_left = subst (λ (a : Result (Unit {0}) Refusal). ScratchExit a n scratch c.interpolate.new.scratch) answer
            (c.interpolate.ensures.1, c.interpolate.ensures.2);
      },
    )

use mathlib.Core.Path.{refl, sym, ◌∙◌, ap, subst}
use lib.ListN.{length}
use Rattle.std.specs.Prelude.{Result}
use Rattle.fields.specs.declared.refusal.Refusal.{Refusal}
use Rattle.transform.specs.Transform.{evaluate_exit, ScratchExit}
use Rattle.transform.specs.Accepted.{accepted}
use Rattle.transform.proofs.Calls.{returned}
use Rattle.transform.proofs.evaluate.Goals as goal

pub returns-in_err-check : goal.returns-in_err-check
unfolding evaluate_exit ScratchExit
returns-in_err-check c = let n = c.args.log_size in
    let column = c.args.column.now in
    let scratch = c.args.scratch.now in
    let answer = sym c.in_err-check.was ∙ c.check.ensures in (
      returned _ _ _ c.from_residual.ensures.1 c.in_err-check.was ∙ c.check.ensures,
      record {
        column_left = ap (λ (a : Result (Unit {0}) Refusal). evaluate_exit a n column) answer;
        scratch_left = subst (λ (a : Result (Unit {0}) Refusal). ScratchExit a n scratch scratch) answer refl;
      },
    )

pub evaluate-requires : goal.evaluate-requires
evaluate-requires c =
    let ok = accepted c.args.log_size c.args.column.now (length c.args.scratch.now) (sym c.check.ensures ∙ c.in_ok-check.was) in
    (ok.low, ok.high, ok.words, ok.room)

pub returns : goal.returns
unfolding evaluate_exit ScratchExit
returns c = let n = c.args.log_size in
    let column = c.args.column.now in
    let scratch = c.args.scratch.now in
    let answer = sym c.in_ok-check.was ∙ c.check.ensures in (
      answer,
      record {
        column_left = c.evaluate.ensures.0 ∙ ap (λ (a : Result (Unit {0}) Refusal). evaluate_exit a n column) answer;
        scratch_left = subst (λ (a : Result (Unit {0}) Refusal). ScratchExit a n scratch c.evaluate.new.scratch) answer
            (c.evaluate.ensures.1, c.evaluate.ensures.2);
      },
    )

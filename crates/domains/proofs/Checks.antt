-- How a call's answer follows from that of its check.
use Rattle.std.specs.Prelude.{◌≡◌, ◌≤◌, true, false, [], ◌∷◌, ◌++◌, Result, Ok, Err, refl}
use Rattle.std.proofs.Common.{sym, ◌∙◌, ap}
use Rattle.fields.specs.Check.{Checks, checked, outcome}
use Rattle.fields.specs.CheckLaws.{accepted_hold, hold_at}
use Rattle.fields.specs.declared.refusal.Refusal.{Refusal}
use Rattle.domains.specs.declared.coset.Coset.{Coset}
use Rattle.domains.specs.declared.canonic.CanonicCoset.{CanonicCoset}
use Rattle.domains.specs.declared.coset.checked.CheckedCoset.{CheckedCoset}
use Rattle.domains.specs.Record.{indices_and_points, check_canonic, Fits, FitsCanonic}
use Rattle.domains.specs.RecordLaws.{all_fit, hold_canonic}
use Rattle.domains.specs.Checked.{accepted}

-- what follows a check: its refusal, else the rest
unfoldable pub and_then : {A : Type 0} → Result (Unit {0}) Refusal → Result A Refusal → Result A Refusal
and_then (Ok u) rest = rest
and_then (Err why) rest = Err why

pub then_refused : {A : Type 0} (why : Refusal) (rest : Result A Refusal) → and_then (Err why) rest ≡ Err why
unfolding and_then
then_refused why rest = refl

pub then_passed : {A : Type 0} (u : Unit {0}) (rest : Result A Refusal) → and_then (Ok u) rest ≡ rest
unfolding and_then
then_passed u rest = refl

pub checked_then : {A : Type 0} (checks : Checks) (a : A) → checked checks a ≡ and_then (outcome checks) (Ok a)
unfolding and_then
checked_then [] a = refl
checked_then ((true, why) ∷ rest) a = checked_then rest a
checked_then ((false, why) ∷ rest) a = refl

pub append_then : {A : Type 0} (first rest : Checks) (a : A) → checked (first ++ rest) a ≡ and_then (outcome first) (checked rest a)
unfolding and_then
append_then [] rest a = refl
append_then ((true, why) ∷ more) rest a = append_then more rest a
append_then ((false, why) ∷ more) rest a = refl

pub accepted_refused : (why : Refusal) → accepted (Err why) ≡ Err why
unfolding accepted
accepted_refused why = refl

pub accepted_passed : (coset : CheckedCoset) → accepted (Ok coset) ≡ Ok tt
unfolding accepted
accepted_passed coset = refl

pub passed_fits : (c : Coset) (r : Result (Unit {0}) Refusal) (u : Unit {0}) → r ≡ outcome (indices_and_points c) → r ≡ Ok u
    → c.log_size ≤ 31 → Fits c
passed_fits c r u e h l = all_fit c l (hold_at (indices_and_points c) r u e h)

passed_canonic : (c : CanonicCoset) (r : Result CheckedCoset Refusal) (coset : CheckedCoset) → accepted r ≡ outcome (check_canonic c)
    → r ≡ Ok coset
    → FitsCanonic c
unfolding accepted
passed_canonic c r coset e h = hold_canonic c (accepted_hold (check_canonic c) tt tt (sym e ∙ ap accepted h))

pub canonic_least : (c : CanonicCoset) (r : Result CheckedCoset Refusal) (coset : CheckedCoset) → accepted r ≡ outcome (check_canonic c)
    → r ≡ Ok coset
    → 1 ≤ c.coset.log_size
canonic_least c r coset e h = (passed_canonic c r coset e h).least

pub canonic_most : (c : CanonicCoset) (r : Result CheckedCoset Refusal) (coset : CheckedCoset) → accepted r ≡ outcome (check_canonic c)
    → r ≡ Ok coset
    → c.coset.log_size ≤ 30
canonic_most c r coset e h = (passed_canonic c r coset e h).most

pub ruleset records = (
  then_refused,
  then_passed,
  checked_then,
  append_then,
  accepted_refused,
  accepted_passed,
  passed_fits,
  canonic_least,
  canonic_most,
)

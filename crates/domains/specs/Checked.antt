-- What the check of a record answers.
use Rattle.std.specs.Prelude.{◌≡◌, Result, Ok, Err, IfOk}
use Rattle.fields.specs.Check.{Checks, outcome}
use Rattle.fields.specs.declared.refusal.Refusal.{Refusal}
use Rattle.domains.specs.declared.coset.Coset.{Coset}
use Rattle.domains.specs.declared.coset.checked.CheckedCoset.{CheckedCoset}

-- whether it accepts, else why not
unfoldable pub accepted : Result CheckedCoset Refusal → Result (Unit {0}) Refusal
accepted (Ok coset) = Ok tt
accepted (Err why) = Err why

-- the coset, where every test holds, else the refusal of the first that fails
abbrev pub Checked : Checks → Coset → Result CheckedCoset Refusal → Type 0
Checked checks c r = (accepted r ≡ outcome checks) × IfOk r (λ checked. checked.coset ≡ c)

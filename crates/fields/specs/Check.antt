-- What a call checks before it does anything: tests in the order that docs/CALLS.md tells, each with the refusal that is made where
-- it is the first to fail. First these and then those is `++`.
use Rattle.std.specs.Prelude.{Bool, cond, List, [], ◌∷◌, Result, Ok, Err}
use Rattle.fields.specs.declared.refusal.Refusal.{Refusal}

-- tests in their order, each with its refusal
abbrev pub Checks : Type 0
Checks = List (Bool × Refusal)

-- one test, and the refusal where it fails
abbrev pub need : Bool → Refusal → Checks
need holds why = (holds, why) ∷ []

-- the answer of a call: the refusal of the first test that fails, else the value
abbrev pub checked : {A : Type 0} → Checks → A → Result A Refusal
checked [] value = Ok value
checked (test ∷ rest) value = cond test.0 (checked rest value) (Err test.1)

-- the checks by themselves
abbrev pub outcome : Checks → Result (Unit {0}) Refusal
outcome checks = checked checks tt

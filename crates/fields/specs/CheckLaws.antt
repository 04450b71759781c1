-- Laws of checks: one after the other, and what an answer is where they pass and where they refuse.
use Rattle.std.specs.Prelude.{◌≡◌, cond, Bool, true, false, [], ◌∷◌, ◌++◌, Result, Ok, Err, IsErrAnd, refl}
use Rattle.std.proofs.Common.{sym, ◌∙◌, ap, ap₂}
use Rattle.fields.specs.Check.{Checks, checked, outcome}
use Rattle.fields.specs.declared.refusal.Refusal.{Refusal}

-- what the second says where the first is passed, else what the first says
abbrev pub in_turn : {A : Type 0} → Result (Unit {0}) Refusal → Result A Refusal → Result A Refusal
in_turn (Ok done) next = next
in_turn (Err why) next = Err why

pub refused_first : (c next : Result (Unit {0}) Refusal) (why : Refusal) → c ≡ Err why → Err why ≡ in_turn c next
refused_first c next why e = rw e

in_turn_cond : {A : Type 0} (t : Bool) (c : Result (Unit {0}) Refusal) (d : Result A Refusal) (why : Refusal)
    → in_turn (cond t c (Err why)) d ≡ cond t (in_turn c d) (Err why)
in_turn_cond true c d why = refl
in_turn_cond false c d why = refl

-- an answer after two lists of checks is that after the second, where the first is passed
checked-append : {A : Type 0} (a b : Checks) (x : A) → checked (a ++ b) x ≡ in_turn (outcome a) (checked b x)
checked-append [] b x = refl
checked-append (test ∷ a) b x =
    ap (λ y. cond test.0 y (Err test.1)) (checked-append a b x) ∙ sym (in_turn_cond test.0 (outcome a) (checked b x) test.1)

-- the checks of two lists in turn are those of both
pub outcome-append : (a b : Checks) → in_turn (outcome a) (outcome b) ≡ outcome (a ++ b)
outcome-append a b = sym (checked-append a b tt)

-- r is what two lists of checks said, one after the other
pub in_turn_lem : (a b : Checks) (c d r : Result (Unit {0}) Refusal) → c ≡ outcome a → d ≡ outcome b → r ≡ in_turn c d → r ≡ outcome (a ++ b)
in_turn_lem a b c d r e f g = g ∙ ap₂ in_turn e f ∙ outcome-append a b

-- every test holds
abbrev pub Hold : Checks → Type 0
Hold [] = Unit
Hold (test ∷ rest) = (test.0 ≡ true) × Hold rest

-- every test of two lists holds exactly where every test of each does
pub hold_split : (a b : Checks) → Hold (a ++ b) → Hold a × Hold b
hold_split [] b h = (tt, h)
hold_split (test ∷ a) b h = let rest = hold_split a b h.1 in ((h.0, rest.0), rest.1)

pub hold_both : (a b : Checks) → Hold a → Hold b → Hold (a ++ b)
hold_both [] b h k = k
hold_both (test ∷ a) b h k = (h.0, hold_both a b h.1 k)

pub hold_passes : {A : Type 0} (checks : Checks) (a : A) → Hold checks → checked checks a ≡ Ok a
hold_passes [] a h = refl
hold_passes (test ∷ rest) a h = rw h.0 (hold_passes rest a h.1)

-- a call that answers with its value has passed every test
pub accepted_hold : {A : Type 0} (checks : Checks) (a b : A) → checked checks a ≡ Ok b → Hold checks
accepted_hold [] a b e = tt
accepted_hold ((true, why) ∷ rest) a b e = (refl, accepted_hold rest a b e)
accepted_hold ((false, why) ∷ rest) a b e = (cc, accepted_hold rest a b (cc))

-- what every refusal has, and the value where every test holds, the answer has
pub checked_has : {A : Type 0} (Has : Result A Refusal → Type 0) (checks : Checks) (a : A) → ((why : Refusal) → Has (Err why))
    → (Hold checks → Has (Ok a))
    → Has (checked checks a)
checked_has Has [] a r v = v tt
checked_has Has ((true, why) ∷ rest) a r v = checked_has Has rest a r (λ h. v (refl, h))
checked_has Has ((false, why) ∷ rest) a r v = r why

-- values that are equal where every test holds make one answer
pub checked-equal : {A : Type 0} (checks : Checks) (a b : A) → (Hold checks → a ≡ b) → checked checks a ≡ checked checks b
checked-equal [] a b e = ap Ok (e tt)
checked-equal ((true, why) ∷ rest) a b e = checked-equal rest a b (λ h. e (refl, h))
checked-equal ((false, why) ∷ rest) a b e = refl

passed_hold : (checks : Checks) (u : Unit {0}) → outcome checks ≡ Ok u → Hold checks
passed_hold [] u e = tt
passed_hold ((true, why) ∷ rest) u e = (refl, passed_hold rest u e)
passed_hold ((false, why) ∷ rest) u e = (cc, passed_hold rest u (cc))

-- r is what the checks said
pub hold_at : (checks : Checks) (r : Result (Unit {0}) Refusal) (u : Unit {0}) → r ≡ outcome checks → r ≡ Ok u → Hold checks
hold_at checks r u e h = passed_hold checks u (sym e ∙ h)

pub at_refused : {A : Type 0} (checks : Checks) (r : Result (Unit {0}) Refusal) (why : Refusal) (a : A) → r ≡ outcome checks → r ≡ Err why
    → Err why ≡ checked checks a
at_refused checks r why a e h = refused checks (sym e ∙ h)
  where
    refused : (checks : Checks) → outcome checks ≡ Err why → Err why ≡ checked checks a
    refused [] q = cc
    refused ((true, other) ∷ rest) q = refused rest q
    refused ((false, other) ∷ rest) q = cc

pub at_passed : {A : Type 0} (checks : Checks) (r : Result (Unit {0}) Refusal) (u : Unit {0}) (x a : A) → r ≡ outcome checks → r ≡ Ok u
    → x ≡ a
    → Ok x ≡ checked checks a
at_passed checks r u x a e h g = ap Ok g ∙ sym (hold_passes checks a (hold_at checks r u e h))

-- the first list refuses
pub at_first : {A : Type 0} (a b : Checks) (r : Result (Unit {0}) Refusal) (why : Refusal) (x : A) → r ≡ outcome a → r ≡ Err why
    → Err why ≡ checked (a ++ b) x
at_first a b r why x e h = refused a (sym e ∙ h)
  where
    refused : (checks : Checks) → outcome checks ≡ Err why → Err why ≡ checked (checks ++ b) x
    refused [] q = cc
    refused ((true, other) ∷ rest) q = refused rest q
    refused ((false, other) ∷ rest) q = cc

-- the first list is passed
pub past_first : {A : Type 0} (a b : Checks) (r : Result (Unit {0}) Refusal) (u : Unit {0}) (x : Result A Refusal) (y : A) → r ≡ outcome a
    → r ≡ Ok u → x ≡ checked b y
    → x ≡ checked (a ++ b) y
past_first a b r u x y e h g = g ∙ sym (checked-append a b y ∙ ap (λ s. in_turn s (checked b y)) (sym e ∙ h))

-- what a `?` returns, where the checks refused
pub exit_refused : {A : Type 0} (checks : Checks) (r : Result (Unit {0}) Refusal) (why : Refusal) (a : A) (x : Result A Refusal)
    → IsErrAnd x (λ other. other ≡ why) → r ≡ outcome checks → r ≡ Err why
    → x ≡ checked checks a
exit_refused checks r why a (Ok _) q e h = absurd q
exit_refused checks r why a (Err other) q e h = ap Err q ∙ at_refused checks r why a e h

pub exit_first : {A : Type 0} (a b : Checks) (r : Result (Unit {0}) Refusal) (why : Refusal) (y : A) (x : Result A Refusal)
    → IsErrAnd x (λ other. other ≡ why) → r ≡ outcome a → r ≡ Err why
    → x ≡ checked (a ++ b) y
exit_first a b r why y (Ok _) q e h = absurd q
exit_first a b r why y (Err other) q e h = ap Err q ∙ at_first a b r why y e h

pub ruleset checks = (at_refused, at_passed, at_first, past_first, exit_refused, exit_first)

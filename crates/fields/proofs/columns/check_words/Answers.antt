use Rattle.std.proofs.Common.{leb, length, refl, sym, ap, ◌∙◌, arith, rules, tests, le-leb, cond, Some, None, Option, ◌≡◌, ℕ, List}
use lib.Dec.{ltb}
use Rattle.std.specs.List.{position}
use Rattle.std.proofs.lemmas.Iterator.{YieldsList-from_slice}
use Rattle.std.proofs.lemmas.Iterator.Search.{position_from_yields_List}
use Rattle.algebra.specs.M31.{P}
use Rattle.fields.specs.Columns.{first_bad}
use Rattle.fields.specs.SearchLaws.{first-position, refused_at, passed_all}
use Rattle.fields.specs.declared.refusal.Refusal.TheVariants.{Word}
use Rattle.fields.proofs.columns.check_words.Goals as goal

at_first : (column : List ℕ) (r : Option ℕ) → r ≡ position (leb P) column
    → cond (ltb (first_bad column) (length column)) (Some (first_bad column)) None ≡ r
at_first column r e =
    ap (λ (k : ℕ). cond (ltb k (length column)) (Some k) None) (first-position (leb P) 0 column) ∙ sym e

pub returns-then-all_below_p : goal.returns-then-all_below_p
returns-then-all_below_p c = rw (le-leb (length c.args.column.now) (first_bad c.args.column.now) (grind arith)) refl

pub returns-in-Some : goal.returns-in-Some
returns-in-Some c =
    let column = c.args.column.now in
    let chain = YieldsList-from_slice column c.iter.ensures.rest in
    let found = position_from_yields_List (leb P) _ _ _ c.position.ensures.ran chain (λ x b q k. search (rules, tests)) in
    refused_at (length column) (first_bad column) c.in-Some.at Word (at_first column c.position.result found ∙ c.in-Some.is)

pub returns-in-None : goal.returns-in-None
returns-in-None c =
    let column = c.args.column.now in
    let chain = YieldsList-from_slice column c.iter.ensures.rest in
    let found = position_from_yields_List (leb P) _ _ _ c.position.ensures.ran chain (λ x b q k. search (rules, tests)) in
    passed_all (length column) (first_bad column) Word (at_first column c.position.result found ∙ c.in-None.is)

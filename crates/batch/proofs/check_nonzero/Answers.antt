use Rattle.std.proofs.Common.{◌≡◌, ℕ, Option, Some, None, cond, List, refl, sym, ap, ap₂, ◌∙◌, arith, rules, tests}
use lib.Dec.{ltb}
use Rattle.std.specs.List.{position, range_with_len}
use Rattle.std.proofs.lemmas.List.FromFn.{length-range_with_len}
use Rattle.std.proofs.lemmas.Iterator.{YieldsList-from_range}
use Rattle.std.proofs.lemmas.Iterator.Search.{position_from_yields_List}
use Rattle.fields.specs.Search.{first}
use Rattle.fields.specs.SearchLaws.{first-range, refused_at, passed_all}
use Rattle.fields.specs.declared.refusal.Refusal.TheVariants.{Inverse}
use Rattle.batch.specs.Batch.{ColumnField, zero_at, count, first_zero}
use Rattle.batch.proofs.Checks.{same_count}
use Rattle.batch.proofs.check_nonzero.Goals as goal

at_first : (C : ColumnField) (column : List ℕ) (n : ℕ) (r : Option ℕ) → n ≡ count C column
    → r ≡ position (zero_at C column) (range_with_len 0 n)
    → cond (ltb (first_zero C column) (count C column)) (Some (first_zero C column)) None ≡ r
at_first C column n r same e =
    let zeros = zero_at C column in
    ap (λ (m : ℕ). cond (ltb (first zeros m) m) (Some (first zeros m)) None) (sym same)
    ∙ ap₂ (λ (k m : ℕ). cond (ltb k m) (Some k) None) (first-range zeros n) (sym (length-range_with_len 0 n)) ∙ sym e

pub returns-in-Some : goal.returns-in-Some
returns-in-Some g c =
    let C = g.F.Column.column in
    let column = c.args.column.now in
    let n = c.count.result in
    let laws = g.met.F.Column.laws in
    let chain = YieldsList-from_range 0 n n refl (omega arith) in
    let found = position_from_yields_List (zero_at C column) _ _ _ c.position.ensures.ran chain
    (λ x b q k. (search (rules, tests), search (rules, tests, laws.same_zero))) in
    let size = c.count.ensures ∙ same_count laws column in
    refused_at (count C column) (first_zero C column) c.in-Some.k Inverse (at_first C column n c.position.result size found ∙ c.in-Some.is)

pub returns-in-None : goal.returns-in-None
returns-in-None g c =
    let C = g.F.Column.column in
    let column = c.args.column.now in
    let n = c.count.result in
    let laws = g.met.F.Column.laws in
    let chain = YieldsList-from_range 0 n n refl (omega arith) in
    let found = position_from_yields_List (zero_at C column) _ _ _ c.position.ensures.ran chain
    (λ x b q k. (search (rules, tests), search (rules, tests, laws.same_zero))) in
    let size = c.count.ensures ∙ same_count laws column in
    passed_all (count C column) (first_zero C column) Inverse (at_first C column n c.position.result size found ∙ c.in-None.is)

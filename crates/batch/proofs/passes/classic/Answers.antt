use Rattle.std.proofs.Common.{rules}
use Rattle.batch.proofs.Montgomery.{some_elements, before_products, whole_unit}
use Rattle.batch.proofs.InvertedLists.{no_elements, none_inverted, passes_inverted}
use Rattle.batch.proofs.CountLaws.{nothing_counted, plain_counted}
use Rattle.batch.proofs.passes.classic.Goals as goal

pub returns-then-is_empty : goal.returns-then-is_empty
returns-then-is_empty g c =
    let u = g.F.Element.units in
    (none_inverted u (search rules), nothing_counted _ (no_elements u _ (search rules)) c.default.ensures)

pub inverted-inverse-requires : goal.inverted-inverse-requires
inverted-inverse-requires g c =
    let u = g.F.Element.units in
    g.met.F.Column.laws.reduced _ (whole_unit u (before_products u c.requires (search rules)) c.products-up.ensures)

pub returns : goal.returns
returns g c =
    let u = g.F.Element.units in
    let p = before_products u c.requires (search rules) in (
      passes_inverted u p c.inverses-down.ensures (search rules),
      plain_counted u g.met.F.Column.laws.one_multiplication (some_elements u p.elements p.nonempty) c.products-up.ensures
          c.inverses-down.ensures,
    )

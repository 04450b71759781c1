use Rattle.std.specs.Prelude.{refl}
use Rattle.std.proofs.Common.{◌∙◌}
use Rattle.orders.proofs.Masks.{low_halves, fields_step, bits_of, one_field}
use Rattle.orders.proofs.utils.inner.reverse_bits.Goals as goal

pub returns : goal.returns
unfolding low_halves
returns c = let x = c.args.x in
    let a = fields_step _ 1 32 _ x _ refl (bits_of x c.ranges.x.fits) c.exchange_halves-a.ensures in
    let b = fields_step _ 2 16 _ x _ refl a c.exchange_halves-b.ensures in
    let c₄ = fields_step _ 4 8 _ x _ refl b c.exchange_halves-c.ensures in
    let d = fields_step _ 8 4 _ x _ refl c₄ c.exchange_halves-d.ensures in
    let e = fields_step _ 16 2 _ x _ refl d c.exchange_halves-e.ensures in
    fields_step _ 32 1 _ x _ refl e c.exchange_halves.ensures ∙ one_field x

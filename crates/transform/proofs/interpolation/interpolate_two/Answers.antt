use Prim.Native.Nat.{◌-◌}
use Rattle.algebra.specs.M31.{P}
use Rattle.fields.specs.Words.{words31}
use Rattle.column.specs.Butterflies.{inverse_butterflies}
use Rattle.transform.specs.Elements.{column_words}
use Rattle.transform.proofs.Partly.{stands_for}
use Rattle.transform.proofs.SmallSizes.{two_interpolated}
use Rattle.transform.proofs.interpolation.interpolate_two.Goals as goal

pub returns : goal.returns
returns c = let inverse = c.inverse_butterflies in
    two_interpolated c.args.column.now inverse.new.block c.requires (stands_for (inverse_butterflies words31 1 (P - 1)) inverse.new.block
    c.args.column.now inverse.ensures.1 (column_words 1 c.args.column.now c.requires) inverse.ensures.0)

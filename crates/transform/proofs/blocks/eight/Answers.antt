use mathlib.Core.Path.{◌∙◌}
use mathlib.Core.Bool.{true, false}
use borrow.Author.Rules.{rules}
use Rattle.transform.proofs.Partly.{partly_take}
use Rattle.transform.proofs.Eights.{first_length, second_length, second_partly, partly_parts}
use Rattle.transform.proofs.blocks.eight.Goals as goal

pub four-requires : goal.four-requires
four-requires g c = (first_length c.args.block.now c.requires.0, search rules, search rules, partly_take 4 c.args.block.now c.requires.3)

pub four-requires-2 : goal.four-requires-2
four-requires-2 g c = let size = c.four.auto.block ∙ first_length c.args.block.now c.requires.0 in (
  second_length c.args.block.now c.requires.0 c.four.new.block size,
  search rules,
  search rules,
  second_partly c.args.block.now c.requires.0 c.four.new.block size c.requires.3,
)

pub returns : goal.returns
returns g c = partly_parts c.args.block.now c.requires.0 c.four.new.block
    (c.four.auto.block ∙ first_length c.args.block.now c.requires.0)
    (g.D.Direction.of_four false c.args.x c.args.y) (g.D.Direction.of_four true c.args.y c.args.x)
    g.D.Direction.fits g.met.D.Direction.zero_fits c.four-2.new.block c.four.ensures.0 c.four.ensures.1
    c.four-2.ensures.0 c.four-2.ensures.1

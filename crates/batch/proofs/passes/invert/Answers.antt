use Rattle.std.proofs.Common.{ap, sym, ◌∙◌}
use Rattle.batch.specs.Counts.{takes_four_lanes}
use Rattle.batch.proofs.CountLaws.{fours, plain_counts}
use Rattle.batch.proofs.FourLanes.{lanes_start, lanes_inverted, lanes_counted}
use Rattle.batch.proofs.passes.invert.Goals as goal

pub four_lanes-requires : goal.four_lanes-requires
four_lanes-requires g c =
    let takes = ap takes_four_lanes (sym c.count.ensures) ∙ sym c.takes_four_lanes.ensures ∙ c.if-takes_four_lanes.true in
    lanes_start g.F.Element.units c.requires (fours _ takes)

pub returns-then-takes_four_lanes : goal.returns-then-takes_four_lanes
returns-then-takes_four_lanes g c =
    let u = g.F.Element.units in
    let takes = ap takes_four_lanes (sym c.count.ensures) ∙ sym c.takes_four_lanes.ensures ∙ c.if-takes_four_lanes.true in
    let done = c.four_lanes.ensures in
    (lanes_inverted u c.requires (fours _ takes) done.0, done.1 ∙ lanes_counted u c.requires (fours _ takes))

pub returns : goal.returns
returns g c =
    let takes = ap takes_four_lanes (sym c.count.ensures) ∙ sym c.takes_four_lanes.ensures ∙ c.if-takes_four_lanes.false in
    (c.classic.ensures.0, c.classic.ensures.1 ∙ plain_counts _ takes)

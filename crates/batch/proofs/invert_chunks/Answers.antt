use Rattle.std.proofs.Common.{◌≡◌, ◌+◌, ◌-◌, ◌*◌, min, ap, ◌∙◌, subst, arith}
use borrow.Rule.Slice.PartMut.{put_mid}
use Rattle.batch.specs.Passes.{size}
use Rattle.batch.proofs.Chunks.{Through, through_start, chunk_inverting, chunk_few, chunk-inverted, through_end, all_counted, asked}
use Rattle.batch.proofs.invert_chunks.Given.{Over}
use Rattle.batch.proofs.invert_chunks.Goals.{After-add_assign}
use Rattle.batch.proofs.invert_chunks.Goals as goal

pub loop-first-init : goal.loop-first-init
loop-first-init g c =
    subst (λ k. Through g.F.Element.units c.args.column.now c.args.dst.now c.min-chunk.result c.args.dst.now k c.default-made.result)
    (omega arith) (through_start c.requires.inverting c.default-made.ensures)

pub invert-part-requires : goal.invert-part-requires
invert-part-requires g c =
    let width = g.met.F.Element.constants.width_is in
    chunk_inverting c.requires.inverting (omega arith) c.loop-first.invariant (omega arith) (omega arith)
    (ap (◌*◌ c.loop-first.first) (c.WIDTH.ensures ∙ width)) (ap (◌*◌ c.min-end.result) (c.WIDTH-in-loop-first.ensures ∙ width))

pub add_assign-requires : goal.add_assign-requires
add_assign-requires g c =
    let width = g.met.F.Element.constants.width_is in
    let few =
    chunk_few c.requires.inverting (omega arith) c.loop-first.invariant (omega arith) (omega arith)
    (ap (◌*◌ c.loop-first.first) (c.WIDTH.ensures ∙ width)) (ap (◌*◌ c.min-end.result) (c.WIDTH-in-loop-first.ensures ∙ width))
    c.invert-part.ensures.1 in
    (omega (arith, few.multiplications, c.well_formed), omega (arith, few.inversions, c.well_formed))

-- after an iteration
next : (g : Over) (c : After-add_assign g)
    → Through g.F.Element.units c.args.column.now c.args.dst.now c.min-chunk.result
    (put_mid (c.loop-first.first * c.WIDTH.result) (c.min-end.result * c.WIDTH-in-loop-first.result - c.loop-first.first * c.WIDTH.result)
    c.loop-first.dst c.invert-part.new.dst)
    (min (size g.F.Element.units c.args.column.now) (c.loop-first.first + c.min-chunk.result)) c.add_assign.new.self
next g c =
    let width = g.met.F.Element.constants.width_is in
    chunk-inverted c.requires.inverting (omega arith) c.loop-first.invariant (omega arith) (omega arith)
    (ap (◌*◌ c.loop-first.first) (c.WIDTH.ensures ∙ width)) (ap (◌*◌ c.min-end.result) (c.WIDTH-in-loop-first.ensures ∙ width))
    c.invert-part.ensures.1 c.invert-part.ensures.0 c.invert-part.auto.dst c.add_assign.ensures.after

pub loop-first-preserved : goal.loop-first-preserved
loop-first-preserved g c = next g (goal.at.loop-first-preserved g c).After-add_assign

pub returns : goal.returns
returns g c =
    let p = c.requires.inverting in
    let t = c.loop-first.invariant in
    let n = size g.F.Element.units c.args.column.now in
    let all : min n c.loop-first.first ≡ n = omega arith in
    (through_end p t all, all_counted p t all ∙ (asked c.args.chunk n c.requires.some (omega arith)))

pub returns-2 : goal.returns-2
returns-2 g c =
    let p = c.requires.inverting in
    let t = next g (goal.at.returns-2 g c).After-add_assign in
    let n = size g.F.Element.units c.args.column.now in
    let all : min n (c.loop-first.first + c.min-chunk.result) ≡ n = omega arith in
    (through_end p t all, all_counted p t all ∙ (asked c.args.chunk n c.requires.some (omega arith)))

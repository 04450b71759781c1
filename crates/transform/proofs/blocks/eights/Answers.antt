use Prim.Native.Nat.{ℕ, ◌+◌, ◌-◌, ◌*◌, ◌≤◌, ◌<◌}
use mathlib.Core.Path.{◌≡◌, refl, ◌∙◌, ap₂, subst}
use mathlib.Core.Bool.{true, false}
use mathlib.Core.List.{List}
use native.Mathlib.Nat as N
use native.Mathlib.Omega.{arith}
use lib.ListN.{length, get_or, take, drop}
use lib.Seq.{take_all}
use Rattle.transform.specs.Tree.{Each, PartlyReduced, reduced_words, of_eight}
use Rattle.transform.proofs.Eights.{eight-length}
use Rattle.transform.proofs.BlockLoops.{PartlyTurn, turn_end, partly_start, partly_same, partly_inside}
use Rattle.transform.proofs.BlockLoops.{partly_part_length, partly_part, partly_next, spliced_prefix}
use Rattle.transform.proofs.blocks.eights.Given.{Over}
use Rattle.transform.proofs.blocks.eights.Goals as goal

-- what the loop makes of block j
abbrev after : Over → List ℕ → ℕ → List ℕ → List ℕ
after g tree j = of_eight g.D.Direction.of_four (get_or tree (2 * j) 0) (get_or tree (2 * j + 1) 0)

-- the eight words of a turn lie in the column, which keeps its length
in-column : {count node b : ℕ} {F : ℕ → List ℕ → List ℕ} {whole column : List ℕ} → PartlyTurn count 8 F node whole b column
    → length whole ≡ count * 8 → b < count → (8 * b + 8 ≤ length column) × (length column ≡ length whole)
in-column {count} {node} {b} {F} {whole} {column} t size h =
    partly_inside count 8 F node whole size b column t h _ _ (N.mul_comm 8 b) refl

pub loop-b-init : goal.loop-b-init
loop-b-init g c = (
  partly_start c.args.count 8 (after g c.args.tree.nodes.now) c.args.node c.args.column.now c.requires.2,
  λ k. g.met.D.Direction.zero_fits,
)

pub eight-requires : goal.eight-requires
eight-requires g c = let F = after g c.args.tree.nodes.now in (
  partly_part_length c.args.count 8 F c.args.node c.args.column.now c.requires.0 c.loop-b.b c.loop-b.column
      c.loop-b.invariant.0 (omega arith) _ _ (N.mul_comm 8 c.loop-b.b) refl,
  c.children-x.ensures.2,
  c.children-x.ensures.3,
  partly_part c.args.count 8 F c.args.node c.args.column.now c.requires.0 c.loop-b.b c.loop-b.column
      c.loop-b.invariant.0 (omega arith) _ _ (N.mul_comm 8 c.loop-b.b) refl,
)

pub loop-b-preserved : goal.loop-b-preserved
loop-b-preserved g c = let F = after g c.args.tree.nodes.now in
    let fits = g.D.Direction.fits in
    let of_four = g.D.Direction.of_four in
    let four_length = g.met.D.Direction.four_length in
    let block = c.eight.new.block in
    let part = reduced_words (take (8 * c.loop-b.b + 8 - 8 * c.loop-b.b) (drop (8 * c.loop-b.b) c.loop-b.column)) in
    let partly : PartlyReduced block = λ k. g.met.D.Direction.fits_partly (get_or block k 0) (c.eight.ensures.1 k) in (
      partly_next c.args.count 8 F c.args.node c.args.column.now c.requires.0 c.loop-b.b c.loop-b.column
          c.loop-b.invariant.0 (omega arith) _ _ (N.mul_comm 8 c.loop-b.b) refl
          (λ j l e. let x = get_or c.args.tree.nodes.now (2 * j) 0 in let y = get_or c.args.tree.nodes.now (2 * j + 1) 0 in
          eight-length (of_four false x y) (of_four true y x) (four_length false x y) (four_length true y x) l e)
          block (c.eight.ensures.0 ∙ ap₂ (λ (x y : ℕ). of_eight of_four x y part) c.children-x.ensures.0 c.children-x.ensures.1) partly,
      spliced_prefix fits g.met.D.Direction.zero_fits c.loop-b.column block _ (8 * c.loop-b.b) 8 (8 * (c.loop-b.b + 1))
          (omega (arith, (in-column c.loop-b.invariant.0 c.requires.0 (omega arith)).0))
          (c.eight.auto.block ∙ partly_part_length c.args.count 8 F c.args.node c.args.column.now c.requires.0
          c.loop-b.b c.loop-b.column c.loop-b.invariant.0 (omega arith) _ _ (N.mul_comm 8 c.loop-b.b) refl)
          (omega arith) c.loop-b.invariant.1 c.eight.ensures.1,
    )

pub returns : goal.returns
returns g c = let b = c.loop-b.b in
    let column = c.loop-b.column in
    let F = after g c.args.tree.nodes.now in
    let same = partly_same c.args.count 8 F c.args.node c.args.column.now b column c.loop-b.invariant.0 in
    let all = take_all (8 * b) column (omega (arith, same, c.requires.0)) in (
      turn_end c.args.count 8 F c.args.node (reduced_words c.args.column.now) b (reduced_words column)
          c.loop-b.invariant.0.turn (omega arith),
      subst (Each g.D.Direction.fits) all c.loop-b.invariant.1,
    )

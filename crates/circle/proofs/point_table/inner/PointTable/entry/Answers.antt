use Rattle.std.proofs.Common.{ℕ, ◌*◌, ◌^◌, sym, subst, arith}
use Rattle.algebra.specs.M31.{m31}
use Rattle.fields.specs.Words.{words31}
use Rattle.fields.specs.Inverse.{m31_representation}
use Rattle.circle.specs.Point.{generator}
use Rattle.circle.specs.Points.{PointReduced, multiple-reduced}
use Rattle.circle.specs.Table.{digits}
use Rattle.circle.specs.TableRule.{place_below, table_rule}
use Rattle.circle.proofs.point_table.inner.PointTable.entry.Goals as goal

pub overflow_add-word : goal.overflow_add-word
overflow_add-word c = omega (arith, place_below c.args.window c.args.digit c.requires)

pub overflow_mul-word-2 : goal.overflow_mul-word-2
overflow_mul-word-2 c = omega (arith, place_below c.args.window c.args.digit c.requires)

pub offset_bounds-self-word : goal.offset_bounds-self-word
offset_bounds-self-word c = omega (arith, place_below c.args.window c.args.digit c.requires)

pub bounds-self-word : goal.bounds-self-word
bounds-self-word c = omega (arith, place_below c.args.window c.args.digit c.requires)

pub overflow_add-result : goal.overflow_add-result
overflow_add-result c = omega (arith, place_below c.args.window c.args.digit c.requires)

pub offset_bounds-self-word-2 : goal.offset_bounds-self-word-2
offset_bounds-self-word-2 c = omega (arith, place_below c.args.window c.args.digit c.requires)

pub bounds-self-word-2 : goal.bounds-self-word-2
bounds-self-word-2 c = omega (arith, place_below c.args.window c.args.digit c.requires)

pub returns : goal.returns
returns c = let w = c.args.window in
    let d = c.args.digit in
    let e = table_rule c.args.self.words.now c.args.self.is_table w d c.requires in
    let reduced = multiple-reduced words31 m31 m31_representation (d * digits ^ w) generator in
    (e, subst (λ (p : ℕ × ℕ). PointReduced words31 m31 m31_representation p) (sym e) reduced)

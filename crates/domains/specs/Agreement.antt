-- A record that passes its checks is given by its two indices and its log size.
use Rattle.std.specs.Prelude.{◌≡◌}
use Rattle.std.proofs.Common.{sym, ◌∙◌, ap}
use Rattle.circle.specs.Point.{point_of, of_point}
use Rattle.circle.specs.Index.{index_point}
use Rattle.circle.specs.declared.point.CirclePoint.{CirclePoint}
use Rattle.fields.specs.declared.m31.M31.{M31}
use Rattle.circle.specs.declared.index.CirclePointIndex.{CirclePointIndex}
use Rattle.fields.specs.CheckLaws.{Hold, checked-equal}
use Rattle.domains.specs.declared.coset.Coset.{Coset}
use Rattle.domains.specs.Record.{check, Fits}
use Rattle.domains.specs.RecordLaws.{hold_fits}
use Rattle.domains.specs.CosetLaws.{index_at-zero}
use Rattle.domains.specs.Coset.{initial_answer, at_answer, index_at}

-- two records that pass, with the same indices and log size, are one
pub same_indices_same_record : (c d : Coset) → Hold (check c) → Hold (check d) → c.initial_index ≡ d.initial_index
    → c.step_size ≡ d.step_size → c.log_size ≡ d.log_size
    → c ≡ d
same_indices_same_record c d h l e f g = λ i. record {
  initial_index = e i;
  initial = point_fixed c.initial d.initial c.initial_index d.initial_index p.initial_agrees q.initial_agrees e i;
  step_size = f i;
  step = point_fixed c.step d.step c.step_size d.step_size p.step_agrees q.step_agrees f i;
  log_size = g i;
}
  where
    p : Fits c
    p = hold_fits c h

    q : Fits d
    q = hold_fits d l

    point_fixed : (x y : CirclePoint M31) (j k : CirclePointIndex) → point_of x ≡ index_point j.0 → point_of y ≡ index_point k.0 → j ≡ k
        → x ≡ y
    point_fixed x y j k s t r = ap of_point (s ∙ ap (λ (m : CirclePointIndex). index_point m.0) r ∙ sym t)

-- `initial`, which goes by the point, answers what `at` does at position 0, which goes by the index
pub initial_is_at_zero : (c : Coset) → initial_answer c ≡ at_answer c 0
initial_is_at_zero c =
    checked-equal (check c) c.initial (of_point (index_point (index_at c 0)))
    (λ h. ap of_point
    ((hold_fits c h).initial_agrees ∙ ap index_point (sym (index_at-zero c (hold_fits c h)))))

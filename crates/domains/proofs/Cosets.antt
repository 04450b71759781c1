-- What the functions of checked cosets need of doubling and of `==`.
use Rattle.std.specs.Prelude.{ℕ, ◌+◌, ◌-◌, ◌*◌, ◌%◌, ◌^◌, ◌≡◌, refl, Bool, true, false, ◌&&◌, eqb}
use Rattle.std.proofs.Common.{sym, subst, add-one}
use Rattle.algebra.specs.Doubling.{iterate, iterate-suc, double}
use Rattle.fields.specs.Words.{words31}
use Rattle.fields.specs.declared.m31.M31.{M31}
use Rattle.circle.specs.Point.{point_of, of_point}
use Rattle.circle.specs.Index.{of_index}
use Rattle.circle.specs.declared.point.CirclePoint.{CirclePoint}
use Rattle.circle.specs.declared.index.CirclePointIndex.{CirclePointIndex}
use Rattle.domains.specs.declared.coset.Coset.{Coset}
use Rattle.domains.specs.Record.{same_point, Fits}
use Rattle.domains.specs.Coset.{doubled, same_coset}
use Rattle.domains.specs.CosetLaws.{doubled_fits}

-- one more doubling
pub one_more : (n : ℕ) (c : Coset) → iterate (n + 1) doubled c ≡ doubled (iterate n doubled c)
one_more n c = rw add-one (iterate-suc n doubled c)

-- the doubled coset of one that fits, from its fields
pub twice_fits : (c : Coset) (j k : CirclePointIndex) (p q : CirclePoint M31) → Fits c → j.0 ≡ (c.initial_index.0 * 2) % 2 ^ 31
    → k.0 ≡ (c.step_size.0 * 2) % 2 ^ 31 → point_of p ≡ double words31 (point_of c.initial) → point_of q ≡ double words31 (point_of c.step)
    → Fits (record { initial_index = j; initial = p; step_size = k; step = q; log_size = c.log_size - 1 })
unfolding doubled
twice_fits c j k p q f d e g h = subst Fits (λ i. record {
  initial_index = of_index (sym d i);
  initial = of_point (sym g i);
  step_size = of_index (sym e i);
  step = of_point (sym h i);
  log_size = c.log_size - 1;
}) (doubled_fits c f)

reordered : (a b c d e f g : Bool) → (a && ((b && c) && (d && ((e && f) && g)))) ≡ (((a && d) && ((b && c) && (e && f))) && g)
reordered true true true true true true g = refl
reordered true true true true true false g = refl
reordered true true true true false f g = refl
reordered true true true false e f g = refl
reordered true true false true e f g = refl
reordered true true false false e f g = refl
reordered true false c true e f g = refl
reordered true false c false e f g = refl
reordered false b c d e f g = refl

-- `==` of two cosets, which goes field by field in their order
pub same_by_fields : (c d : Coset) → (eqb c.initial_index.0 d.initial_index.0 && (same_point c.initial d.initial
    && (eqb c.step_size.0 d.step_size.0 && (same_point c.step d.step && eqb c.log_size d.log_size)))) ≡ same_coset c d
unfolding same_coset
same_by_fields c d = reordered (eqb c.initial_index.0 d.initial_index.0) (eqb c.initial.x.0 d.initial.x.0)
    (eqb c.initial.y.0 d.initial.y.0) (eqb c.step_size.0 d.step_size.0) (eqb c.step.x.0 d.step.x.0) (eqb c.step.y.0 d.step.y.0)
    (eqb c.log_size d.log_size)

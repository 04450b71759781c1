-- M31, CM31 and QM31: what the passes know of their elements.
use Rattle.std.specs.Prelude.{◌+◌, ◌*◌}
use Rattle.std.proofs.Common.{refl, sym, ◌∙◌, ap, arith, true≢false}
use Rattle.algebra.specs.M31.{m31}
use Rattle.algebra.specs.Tower.{cm31, qm31}
use Rattle.fields.specs.M31.{m31_field}
use Rattle.fields.specs.CM31.{cm31_field, pair_of}
use Rattle.fields.specs.QM31.{qm31_field, pairs_of}
use Rattle.fields.specs.Words.{words31, complex_words, quartic_words}
use Rattle.fields.specs.Representation.{one-mul}
use Rattle.fields.specs.Inverse.{m31_representation, cm31_representation, qm31_representation}
use Rattle.fields.specs.declared.m31.M31.{M31}
use Rattle.batch.specs.Batch.{m31_column, cm31_column, qm31_column}
use Rattle.batch.specs.Passes.{m31_units, cm31_units, qm31_units}
use Rattle.batch.specs.Elements.{ElementLaws, ColumnLaws}

pub m31_constants : ElementLaws m31_units 1 1
m31_constants = record { width_is = refl; multiplications_is = refl; few = omega arith }

pub cm31_constants : ElementLaws cm31_units 2 1
cm31_constants = record { width_is = refl; multiplications_is = refl; few = omega arith }

pub qm31_constants : ElementLaws qm31_units 4 1
qm31_constants = record { width_is = refl; multiplications_is = refl; few = omega arith }

pub m31_laws : ColumnLaws m31_units (λ (a : M31). a.0) m31_column m31_field
m31_laws = record {
  one_multiplication = refl;
  narrow = omega arith;
  same_width = refl;
  same_zero = λ a column k e. ap m31_column.is_zero e;
  same_inverted = λ n column dst. refl;
  one = ((m31_representation.one_reduced, λ e. omega (arith, e)), λ a u. one-mul words31 m31 m31_representation a u.0);
  reduced = λ a u. u.0;
  inverse = λ a b e. e;
  unit = λ column k below n. (below (k * 1) (omega arith) (omega arith), λ z. true≢false (sym (ap m31_column.is_zero z) ∙ n));
}

pub cm31_laws : ColumnLaws cm31_units pair_of cm31_column cm31_field
cm31_laws = record {
  one_multiplication = refl;
  narrow = omega arith;
  same_width = refl;
  same_zero = λ a column k e. ap cm31_column.is_zero e;
  same_inverted = λ n column dst. refl;
  one = (
    (cm31_representation.one_reduced, λ e. omega (arith, ap (λ p. p.0) e)),
    λ a u. one-mul complex_words cm31 cm31_representation a u.0,
  );
  reduced = λ a u. u.0;
  inverse = λ a b e. e;
  unit = λ column k below n. (
    (below (k * 2) (omega arith) (omega arith), below (k * 2 + 1) (omega arith) (omega arith)),
    λ z. true≢false (sym (ap cm31_column.is_zero z) ∙ n),
  );
}

pub qm31_laws : ColumnLaws qm31_units pairs_of qm31_column qm31_field
qm31_laws = record {
  one_multiplication = refl;
  narrow = omega arith;
  same_width = refl;
  same_zero = λ a column k e. ap qm31_column.is_zero e;
  same_inverted = λ n column dst. refl;
  one = (
    (qm31_representation.one_reduced, λ e. omega (arith, ap (λ p. p.0.0) e)),
    λ a u. one-mul quartic_words qm31 qm31_representation a u.0,
  );
  reduced = λ a u. u.0;
  inverse = λ a b e. e;
  unit = λ column k below n. (
    (
      (below (k * 4) (omega arith) (omega arith), below (k * 4 + 1) (omega arith) (omega arith)),
      (below (k * 4 + 2) (omega arith) (omega arith), below (k * 4 + 2 + 1) (omega arith) (omega arith)),
    ),
    λ z. true≢false (sym (ap qm31_column.is_zero z) ∙ n),
  );
}

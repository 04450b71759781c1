-- Answers by cases that are points or indices: what is below its bound where it was tested.
use Rattle.std.specs.Prelude.{◌≡◌, ℕ, ◌<◌, Bool, true, false, not, Result, Ok, refl}
use Rattle.std.proofs.Common.{sym, ◌∙◌, ap, ltb-true}
use Rattle.std.proofs.Math.Bool.{and-eq-true_iff}
use Rattle.std.proofs.lemmas.Bool.{not-false}
use Rattle.algebra.specs.M31.{P}
use Rattle.fields.specs.Words.{quartic_words}
use Rattle.fields.specs.CM31.{of_pair}
use Rattle.fields.specs.QM31 as Q
use Rattle.fields.specs.AnswerLaws.{first_below, second_below, words_below}
use Rattle.fields.specs.M31.{m31_field}
use Rattle.fields.specs.QM31.{qm31_field}
use Rattle.circle.specs.CirclePoint.{reduced}
use Rattle.circle.specs.Point.{point_of, of_point}
use Rattle.circle.specs.SecurePoint as S
use Rattle.circle.specs.Index.{of_index, IsIndex, is_index}
use Rattle.circle.specs.declared.point.CirclePoint.{CirclePoint}
use Rattle.circle.specs.declared.index.CirclePointIndex.{CirclePointIndex}
use Rattle.fields.specs.declared.m31.M31.{M31}
use Rattle.fields.specs.declared.qm31.QM31.{QM31}
use Rattle.fields.specs.declared.refusal.Refusal.{Refusal}

-- points over M31
pub x_below : (p : CirclePoint M31) (u : Bool) → u ≡ reduced m31_field p → not u ≡ false → p.x.0 < P
x_below p u e h = first_below (of_pair (point_of p)) u e h

pub y_below : (p : CirclePoint M31) (u : Bool) → u ≡ reduced m31_field p → not u ≡ false → p.y.0 < P
y_below p u e h = second_below (of_pair (point_of p)) u e h

pub point_value : (p : CirclePoint M31) (q : ℕ × ℕ) → point_of p ≡ q → ◌≡◌ {A = Result (CirclePoint M31) Refusal} (Ok p) (Ok (of_point q))
point_value p q e = ap (λ (t : ℕ × ℕ). Ok (of_point t)) e

pub ruleset points = (x_below, y_below, point_value)

-- points over QM31
secure_below : (p : CirclePoint QM31) (u : Bool) → u ≡ reduced qm31_field p → not u ≡ false → S.Reduced p
secure_below p u e h =
    let k = (and-eq-true_iff (Q.reduced p.x) (Q.reduced p.y)).0 (sym e ∙ not-false u h) in
    (words_below p.x true (sym k.0) refl, words_below p.y true (sym k.1) refl)

pub x0_below : (p : CirclePoint QM31) (u : Bool) → u ≡ reduced qm31_field p → not u ≡ false → p.x.0.0.0 < P
x0_below p u e h = (secure_below p u e h).0.0.0

pub x1_below : (p : CirclePoint QM31) (u : Bool) → u ≡ reduced qm31_field p → not u ≡ false → p.x.0.1.0 < P
x1_below p u e h = (secure_below p u e h).0.0.1

pub x2_below : (p : CirclePoint QM31) (u : Bool) → u ≡ reduced qm31_field p → not u ≡ false → p.x.1.0.0 < P
x2_below p u e h = (secure_below p u e h).0.1.0

pub x3_below : (p : CirclePoint QM31) (u : Bool) → u ≡ reduced qm31_field p → not u ≡ false → p.x.1.1.0 < P
x3_below p u e h = (secure_below p u e h).0.1.1

pub y0_below : (p : CirclePoint QM31) (u : Bool) → u ≡ reduced qm31_field p → not u ≡ false → p.y.0.0.0 < P
y0_below p u e h = (secure_below p u e h).1.0.0

pub y1_below : (p : CirclePoint QM31) (u : Bool) → u ≡ reduced qm31_field p → not u ≡ false → p.y.0.1.0 < P
y1_below p u e h = (secure_below p u e h).1.0.1

pub y2_below : (p : CirclePoint QM31) (u : Bool) → u ≡ reduced qm31_field p → not u ≡ false → p.y.1.0.0 < P
y2_below p u e h = (secure_below p u e h).1.1.0

pub y3_below : (p : CirclePoint QM31) (u : Bool) → u ≡ reduced qm31_field p → not u ≡ false → p.y.1.1.0 < P
y3_below p u e h = (secure_below p u e h).1.1.1

pub secure_value : (p : CirclePoint QM31) (q : quartic_words.El × quartic_words.El) → S.point_of p ≡ q → ◌≡◌ {A = Result (CirclePoint QM31) Refusal} (Ok p) (Ok (S.of_point q))
secure_value p q e = ap (λ (t : quartic_words.El × quartic_words.El). Ok (S.of_point t)) e

pub ruleset secure_points = (x0_below, x1_below, x2_below, x3_below, y0_below, y1_below, y2_below, y3_below, secure_value)

-- indices
pub index_fits : (k : CirclePointIndex) (u : Bool) → u ≡ is_index k → not u ≡ false → IsIndex k
index_fits k u e h = ltb-true k.0 _ (sym e ∙ not-false u h)

pub index_value : (k : CirclePointIndex) (j : ℕ) → k.0 ≡ j → ◌≡◌ {A = Result CirclePointIndex Refusal} (Ok k) (Ok (of_index j))
index_value k j e = ap (λ (t : ℕ). Ok (of_index t)) e

pub ruleset indices = (index_fits, index_value)

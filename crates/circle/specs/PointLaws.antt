-- Points over any field: their words, where they are below P.
use Rattle.std.specs.Prelude.{◌≡◌, true, Result, Ok}
use Rattle.std.proofs.Math.Bool.{and-eq-true_iff}
use Rattle.algebra.specs.Circle.{zero_point}
use Rattle.fields.specs.Check.{outcome}
use Rattle.fields.specs.CheckLaws.{hold_at}
use Rattle.fields.specs.Field.{FieldOf}
use Rattle.fields.specs.FieldLaws.{Lawful}
use Rattle.fields.specs.declared.refusal.Refusal.{Refusal}
use Rattle.circle.specs.CirclePoint.{point_of, of_point, Reduced, reduced, words}
use Rattle.circle.specs.Points.{PointReduced}
use Rattle.circle.specs.declared.point.CirclePoint.{CirclePoint}

module _ {A : Type 0} {F : FieldOf A} (L : Lawful F) where
  open L use {K, representation as H}

  pub zero_reduced : Reduced F (of_point F (zero_point F.words))
  zero_reduced = (L.one_reduced, L.zero_reduced)

  pub zero_words : point_of F (of_point F (zero_point F.words)) ≡ zero_point F.words
  zero_words = λ i. (L.value_of F.words.one i, L.value_of F.words.zero i)

  pub words_reduced : (p : CirclePoint A) → Reduced F p → PointReduced F.words K H (point_of F p)
  words_reduced p h = (L.to_reduced p.x h.0, L.to_reduced p.y h.1)

  pub below : (p : CirclePoint A) → reduced F p ≡ true → Reduced F p
  below p e = let h = (and-eq-true_iff (F.reduced p.x) (F.reduced p.y)).0 e in (L.below p.x h.0, L.below p.y h.1)

  -- a point that the checks passed has its words below P
  pub below_where_checked : (p : CirclePoint A) (r : Result (Unit {0}) Refusal) (u : Unit {0}) → r ≡ outcome (words F p) → r ≡ Ok u
      → Reduced F p
  below_where_checked p r u e h = below p (hold_at (words F p) r u e h).0

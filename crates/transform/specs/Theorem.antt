-- What the transform promises, for every log size from 1 to 30: each list of 2^n values below P comes from exactly one list
-- of 2^n coefficients below P; interpolation leaves it, and evaluation of it leaves the values, whatever scratch held; the
-- domain has 2^n different points, x and y below P, exactly those of the circle whose x becomes 0 in n - 1 doublings.
use Rattle.std.specs.Prelude.{ℕ, ◌^◌, ◌≤◌, ◌≡◌, List, ◌↔◌, Result, Ok}
use Rattle.std.proofs.Common.{sym, ◌∙◌, subst}
use Rattle.std.proofs.Math.Path.{ap}
use Rattle.std.proofs.lemmas.List.{length-map}
use Rattle.algebra.specs.M31.{m31}
use Rattle.fields.specs.declared.refusal.Refusal.{Refusal}
use Rattle.domains.specs.PointSet.{PointSet}
use Rattle.domains.proofs.PointSet.{point_set_lem}
use Rattle.column.specs.Column.{values}
use Rattle.column.specs.OneList.{OneList}
use Rattle.transform.specs.Transform.{values_of, Column, Coefficients, transform_answer, evaluate_exit, InterpolateExit}
use Rattle.transform.specs.Accepted.{accepted, is_accepted}
use Rattle.transform.specs.Elements.{elements, words, words-equal, elements-words, words_below, column_words}
use Rattle.transform.specs.Elements.{values_below, field_point, elements-values, field_one_list}

-- `theorem` proves it for every n from 1 to 30 and every column of values
pub record Promise (n : ℕ) (v : List ℕ) : Type 0 where
  -- exactly one list of coefficients gives the values
  pub coefficients : List ℕ
  pub give : Coefficients n coefficients v
  pub only : (c : List ℕ) → Coefficients n c v → c ≡ coefficients
  -- with 2^n words of scratch or more, and only then, both calls accept (`Accepted`)
  pub accepted : (scratch : ℕ) → ((transform_answer n v scratch ≡ Ok tt) ↔ (2 ^ n ≤ scratch))
      × ((transform_answer n coefficients scratch ≡ Ok tt) ↔ (2 ^ n ≤ scratch))
  -- what an accepted interpolation of the values leaves is that list
  pub interpolated : (scratch : ℕ) (exit : List ℕ) → transform_answer n v scratch ≡ Ok tt
      → InterpolateExit (transform_answer n v scratch) n v exit → exit ≡ coefficients
  -- what an accepted evaluation of it leaves is the values
  pub evaluated : (scratch : ℕ) → transform_answer n coefficients scratch ≡ Ok tt
      → evaluate_exit (transform_answer n coefficients scratch) n coefficients ≡ v
  -- the domain's points: words below P, all different, and exactly those named
  pub points : PointSet n

-- ---- proof

module _ (n : ℕ) (lo : 1 ≤ n) (hi : n ≤ 30) where
  column_accepted : (c : List ℕ) → Column n c → (scratch : ℕ) → (transform_answer n c scratch ≡ Ok tt) ↔ (2 ^ n ≤ scratch)
  column_accepted c h scratch = (
    λ e. (accepted n c scratch e).room,
    λ room. is_accepted n c scratch (record { low = lo; high = hi; words = h; room = room }),
  )

  module _ (v : List ℕ) (h : Column n v) where
    one : OneList m31 n (field_point n) (elements v)
    one = field_one_list n lo hi (elements v) (length-map v _ ∙ h.size)

    give : Coefficients n (words one.coefficients) v
    give = record {
      column = record { size = length-map one.coefficients _ ∙ one.size; below = λ k l. words_below one.coefficients k };
      give = words-equal (values_of n (words one.coefficients)) v (values_below n (words one.coefficients)) (column_words n v h)
          (elements-values n (words one.coefficients)
          ∙ ap (values m31 n (field_point n)) (elements-words one.coefficients) ∙ one.gives);
    }

    only : (c : List ℕ) → Coefficients n c v → c ≡ words one.coefficients
    only c k =
        words-equal c (words one.coefficients) (column_words n c k.column) (words_below one.coefficients)
        (one.only (elements c) (length-map c _ ∙ k.column.size) (sym (elements-values n c) ∙ ap elements k.give)
        ∙ sym (elements-words one.coefficients))

    pub theorem : Promise n v
    unfolding evaluate_exit InterpolateExit
    theorem = record {
      coefficients = words one.coefficients;
      give = give;
      only = only;
      accepted = λ scratch. (column_accepted v h scratch, column_accepted (words one.coefficients) give.column scratch);
      interpolated = λ scratch exit e left. only exit
          (subst (λ (answer : Result (Unit {0}) Refusal). InterpolateExit answer n v exit) e left);
      evaluated = λ scratch e. ap (λ (answer : Result (Unit {0}) Refusal). evaluate_exit answer n (words one.coefficients)) e ∙ give.give;
      points = point_set_lem n lo hi;
    }

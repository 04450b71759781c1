-- The loop of double-and-add, for points over any field: what holds whenever its test is reached.
use Rattle.std.proofs.Common.{◌≡◌, ℕ, ◌/◌, ◌%◌, ap, ◌∙◌}
use Rattle.algebra.specs.Circle.{plus, zero_point, multiple}
use Rattle.fields.specs.Field.{FieldOf}
use Rattle.fields.specs.FieldLaws.{Lawful}
use Rattle.circle.specs.CirclePoint.{point_of, of_point, Reduced}
use Rattle.circle.specs.Points.{add_step, add_bit_one, add_bit_zero, add_end}
use Rattle.circle.specs.PointLaws.{zero_reduced, zero_words, words_reduced}
use Rattle.circle.specs.declared.point.CirclePoint.{CirclePoint}

module _ {A : Type 0} (F : FieldOf A) (L : Lawful F) where
  open F use {words as W}
  open L use {K, representation as H}

  -- p added n times to zero: res plus what is left of n times cur is the multiple asked for
  pub record MultipleLoop (p : CirclePoint A) (n : ℕ) (res cur : CirclePoint A) (left : ℕ) : Type 0 where
    pub res_reduced : Reduced F res
    pub cur_reduced : Reduced F cur
    pub kept : plus W (point_of F res) (multiple W left (point_of F cur)) ≡ plus W (zero_point W) (multiple W n (point_of F p))

  pub multiple_start : (p zero : CirclePoint A) (n : ℕ) → Reduced F p → zero ≡ of_point F (zero_point W) → MultipleLoop p n zero p n
  multiple_start p zero n h e = record {
    res_reduced = rw e (zero_reduced L);
    cur_reduced = h;
    kept = ap (λ q. plus W q (multiple W n (point_of F p))) (ap (point_of F) e ∙ zero_words L);
  }

  multiple_next : (p : CirclePoint A) (n : ℕ) (res cur res' cur' : CirclePoint A) (left : ℕ) → MultipleLoop p n res cur left
      → Reduced F res' → point_of F res' ≡ plus W (point_of F res) (multiple W (left % 2) (point_of F cur)) → Reduced F cur'
      → point_of F cur' ≡ plus W (point_of F cur) (point_of F cur)
      → MultipleLoop p n res' cur' (left / 2)
  multiple_next p n res cur res' cur' left l r e c f = record {
    res_reduced = r;
    cur_reduced = c;
    kept = add_step W K H (point_of F res) (point_of F cur) (point_of F res') (point_of F cur') left e f ∙ l.kept;
  }

  pub multiple_odd : (p : CirclePoint A) (n : ℕ) (res cur res' cur' : CirclePoint A) (left : ℕ) → MultipleLoop p n res cur left
      → left % 2 ≡ 1 → Reduced F res' → point_of F res' ≡ plus W (point_of F res) (point_of F cur) → Reduced F cur'
      → point_of F cur' ≡ plus W (point_of F cur) (point_of F cur)
      → MultipleLoop p n res' cur' (left / 2)
  multiple_odd p n res cur res' cur' left l odd r e c f =
      multiple_next p n res cur res' cur' left l r
      (e ∙ add_bit_one W K H (point_of F res) (point_of F cur) (left % 2) (words_reduced L cur l.cur_reduced) odd) c f

  pub multiple_even : (p : CirclePoint A) (n : ℕ) (res cur cur' : CirclePoint A) (left : ℕ) → MultipleLoop p n res cur left → left % 2 ≡ 0
      → Reduced F cur' → point_of F cur' ≡ plus W (point_of F cur) (point_of F cur)
      → MultipleLoop p n res cur' (left / 2)
  multiple_even p n res cur cur' left l even c f =
      multiple_next p n res cur res cur' left l l.res_reduced
      (add_bit_zero W K H (point_of F res) (point_of F cur) (left % 2) (words_reduced L res l.res_reduced) even) c f

  pub multiple_end : (p : CirclePoint A) (n : ℕ) (res cur : CirclePoint A) (left : ℕ) → MultipleLoop p n res cur left → left ≡ 0
      → point_of F res ≡ multiple W n (point_of F p)
  multiple_end p n res cur left l e =
      add_end W K H (point_of F res) (point_of F cur) (point_of F p) left n (words_reduced L res l.res_reduced) e l.kept

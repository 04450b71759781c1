-- The loop of square-and-multiply, for any field: what holds whenever its test is reached.
use Rattle.std.proofs.Common.{◌≡◌, ℕ, ◌/◌, ◌%◌, ap, ◌∙◌}
use Rattle.algebra.specs.Power.{pow}
use Rattle.fields.specs.Field.{FieldOf}
use Rattle.fields.specs.FieldLaws.{Lawful}
use Rattle.fields.specs.Representation.{mul_bit_one, mul_bit_zero, pow_step, pow_end}

module _ {A : Type 0} (F : FieldOf A) (L : Lawful F) where
  open F use {words as W, value, Reduced}
  open L use {K, representation as H}

  -- to the power n of a: res times base to the power of what is left of n is the power asked for
  pub record PowerLoop (a : A) (n : ℕ) (res base : A) (left : ℕ) : Type 0 where
    pub res_reduced : Reduced res
    pub base_reduced : Reduced base
    pub kept : W.mul (value res) (pow W (value base) left) ≡ W.mul W.one (pow W (value a) n)

  pub power_start : (a one : A) (n : ℕ) → Reduced a → one ≡ F.of W.one → PowerLoop a n one a n
  power_start a one n h e = record {
    res_reduced = rw e L.one_reduced;
    base_reduced = h;
    kept = ap (λ w. W.mul w (pow W (value a) n)) (ap value e ∙ L.value_of W.one);
  }

  power_next : (a : A) (n : ℕ) (res base res' base' : A) (left : ℕ) → PowerLoop a n res base left → Reduced res'
      → value res' ≡ W.mul (value res) (pow W (value base) (left % 2)) → Reduced base' → value base' ≡ W.mul (value base) (value base)
      → PowerLoop a n res' base' (left / 2)
  power_next a n res base res' base' left l r e b f = record {
    res_reduced = r;
    base_reduced = b;
    kept = pow_step W K H (value res) (value base) (value res') (value base') left e f ∙ l.kept;
  }

  pub power_odd : (a : A) (n : ℕ) (res base res' base' : A) (left : ℕ) → PowerLoop a n res base left → left % 2 ≡ 1 → Reduced res'
      → value res' ≡ W.mul (value res) (value base) → Reduced base' → value base' ≡ W.mul (value base) (value base)
      → PowerLoop a n res' base' (left / 2)
  power_odd a n res base res' base' left l odd r e b f =
      power_next a n res base res' base' left l r
      (e ∙ mul_bit_one W K H (value res) (value base) (left % 2) (L.to_reduced base l.base_reduced) odd) b f

  pub power_even : (a : A) (n : ℕ) (res base base' : A) (left : ℕ) → PowerLoop a n res base left → left % 2 ≡ 0 → Reduced base'
      → value base' ≡ W.mul (value base) (value base)
      → PowerLoop a n res base' (left / 2)
  power_even a n res base base' left l even b f =
      power_next a n res base res base' left l l.res_reduced
      (mul_bit_zero W K H (value res) (value base) (left % 2) (L.to_reduced res l.res_reduced) even) b f

  pub power_end : (a : A) (n : ℕ) (res base : A) (left : ℕ) → PowerLoop a n res base left → left ≡ 0
      → value res ≡ pow W (value a) n
  power_end a n res base left l e =
      pow_end W K H (value res) (value base) (value a) left n (L.to_reduced res l.res_reduced) e l.kept

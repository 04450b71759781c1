-- Signed numbers: the sign and the size of one, and of a number x of any width by - (x + 1) where it is negative.
use Rattle.std.specs.Prelude.{◌≡◌, ℕ, zero, suc, ◌+◌, ◌-◌, ◌^◌, ◌<◌, true, false, ℤ, pos, negsuc, ◌+ℤ◌, ◌-ℤ◌, neg_ℤ, FitsSigned, int_lt, unsigned_abs, refl}
use Rattle.std.proofs.Common.{sym, ap, ◌∙◌, subst, not-suc-le-zero, zero-add, arith, ltb-true, lt-ltb, to_z-of_z}
use Rattle.std.specs.Int.Signed.{mag}
use Rattle.std.specs.Int.{Width}
use mir.Val.{hbits, to_z, of_z}

negsuc_plus_one : (n : ℕ) → negsuc n +ℤ pos 1 ≡ neg_ℤ (pos n)
negsuc_plus_one zero = refl
negsuc_plus_one (suc n) =
    let e : suc (suc n) - 2 ≡ n = omega arith in
    rw (lt-ltb 1 (suc (suc n)) (omega arith)) (ap negsuc e)

zero_minus_neg : (n : ℕ) → pos 0 -ℤ neg_ℤ (pos n) ≡ pos n
zero_minus_neg zero = refl
zero_minus_neg (suc n) = ap pos (zero-add (suc n))

negative_is_negsuc : (x : ℤ) → int_lt x (pos 0) ≡ true → x ≡ negsuc (mag x)
negative_is_negsuc (pos n) t = absurd (not-suc-le-zero (ltb-true n 0 t))
negative_is_negsuc (negsuc n) t = refl

nonnegative_is_mag : (x : ℤ) → int_lt x (pos 0) ≡ false → x ≡ pos (mag x)
nonnegative_is_mag (pos n) t = refl
nonnegative_is_mag (negsuc n) t = cc

-- x as the machine reads it back
abbrev pub read : Width → ℤ → ℤ
read w x = to_z w (of_z w x)

module _ (w : Width) where
  neg_fits : (n : ℕ) → n < 2 ^ hbits w → FitsSigned w (neg_ℤ (pos n))
  neg_fits zero h = record { sfits = h }
  neg_fits (suc n) h = record { sfits = omega arith }

  module _ (x : ℤ) (s : FitsSigned w x) (t : int_lt (read w x) (pos 0) ≡ true) where
    pub is_negative : x ≡ negsuc (mag x)
    is_negative = negative_is_negsuc x (subst (λ (z : ℤ). int_lt z (pos 0) ≡ true) (to_z-of_z s) t)

    plus_one : read w x +ℤ pos 1 ≡ neg_ℤ (pos (mag x))
    plus_one = ap (λ (z : ℤ). z +ℤ pos 1) (to_z-of_z s ∙ is_negative) ∙ negsuc_plus_one (mag x)

    pub plus_one_fits : FitsSigned w (read w x +ℤ pos 1)
    plus_one_fits = rw plus_one (neg_fits (mag x) s.sfits)

    negated : pos 0 -ℤ read w (read w x +ℤ pos 1) ≡ pos (mag x)
    negated = ap (λ (z : ℤ). pos 0 -ℤ z) (to_z-of_z plus_one_fits ∙ plus_one) ∙ zero_minus_neg (mag x)

    pub negated_fits : FitsSigned w (pos 0 -ℤ read w (read w x +ℤ pos 1))
    negated_fits = rw negated (record { sfits = s.sfits })

    pub negated_reads : read w (pos 0 -ℤ read w (read w x +ℤ pos 1)) ≡ pos (mag x)
    negated_reads = to_z-of_z negated_fits ∙ negated

    pub negative_parts : (true ≡ int_lt x (pos 0)) × (mag x + 1 ≡ unsigned_abs x)
    negative_parts = rw is_negative (refl, omega arith)

  module _ (x : ℤ) (s : FitsSigned w x) (t : int_lt (read w x) (pos 0) ≡ false) where
    pub is_nonnegative : x ≡ pos (mag x)
    is_nonnegative = nonnegative_is_mag x (subst (λ (z : ℤ). int_lt z (pos 0) ≡ false) (to_z-of_z s) t)

    pub nonnegative_reads : read w x ≡ pos (mag x)
    nonnegative_reads = to_z-of_z s ∙ is_nonnegative

    pub nonnegative_parts : (false ≡ int_lt x (pos 0)) × (mag x ≡ unsigned_abs x)
    nonnegative_parts = (sym (subst (λ (z : ℤ). int_lt z (pos 0) ≡ false) (to_z-of_z s) t), rw is_nonnegative refl)

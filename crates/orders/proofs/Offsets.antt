-- Offsets stay within the domain, and their products within 64 bits.
use Prim.Native.Nat.{ℕ, suc, ◌+◌, ◌-◌, ◌*◌, ◌/◌, ◌%◌, ◌^◌, ◌≤◌, ◌<◌}
use mathlib.Core.Path.{◌≡◌, sym, ◌∙◌, ap, ap₂, subst}
use mathlib.Core.Bool.{Bool, not}
use native.Mathlib.Nat as N
use native.Mathlib.Omega.{arith}
use borrow.Author.Tests.{lt-ltb, le-ltb}
use Rattle.std.specs.Prelude.{zero, ℤ, pos, negsuc, ◌+ℤ◌, ◌-ℤ◌, ◌*ℤ◌, neg_ℤ, unsigned_abs, FitsSigned, refl}
use Rattle.std.proofs.Common.{rules, to_z, of_z, to_z-of_z, w64}
use Rattle.std.specs.Int.{is_negative, int_rem_euclid}
use Rattle.std.proofs.lemmas.Int.{ints, int_rem_euclid_is, to_z_pos, fits_signed_from_abs, unsigned_abs-mul}
use lib.Pow.{pow_pos, pow_mono}
use Rattle.orders.specs.Bounds.{Offset, MoveRoom, OnHalves}
use Rattle.orders.specs.BitReverse.{reverse_bits, reversed_below}
use Rattle.orders.specs.Orders.{bit_reverse_index, moved, offset_element, offset_index}
use Rattle.orders.proofs.OrderLaws.{index_from_one}

module _ (eval domain : ℕ) (least : 1 ≤ eval) (most : eval ≤ 30) where
  pub half_bounds : (0 < 2 ^ (eval - 1)) × (2 ^ (eval - 1) ≤ 2 ^ 31)
  half_bounds = (pow_pos (eval - 1), pow_mono {i = eval - 1} {j = 31} (omega arith))

  pub element_below : (i : ℕ) → bit_reverse_index i eval < 2 * 2 ^ (eval - 1)
  element_below i =
      let e : suc (eval - 1) ≡ eval = omega arith in
      rw (index_from_one i eval least) (omega (arith, reversed_below eval i, N.pow-succ' 2 (eval - 1), ap (λ (t : ℕ). 2 ^ t) e))

  pub places_below : (steps : ℕ) → steps ≤ 2 ^ 31 → steps * 2 ^ (eval - domain - 1) < 2 ^ 62
  places_below steps h =
      let few : eval - domain - 1 ≤ 30 = omega arith in
      let power : 2 ^ (eval - domain - 1) ≤ 2 ^ 30 = pow_mono {i = eval - domain - 1} {j = 30} few in
      omega (arith, N.mul-le-mul h power)

-- ---- `rem_euclid` finds the place

back : (size p n : ℕ) → 0 < size → int_rem_euclid (pos p +ℤ negsuc n) (pos size) ≡ pos ((p + (size - suc n % size)) % size)
back size p n h =
    let rest : suc n / size * size + suc n % size ≡ suc n = N.div-add-mod' (suc n) size in
    let whole : (suc n / size + 1) * size ≡ suc n / size * size + size = omega (arith, N.add-mul (suc n / size) 1 size) in
    int_rem_euclid_is _ (pos size) size (suc n / size + 1) (p + (size - suc n % size)) h refl
    (omega (arith, ints, N.mod-lt (suc n) h))

pub rem_is_moved : (size p : ℕ) (steps : ℤ) → 0 < size
    → unsigned_abs (int_rem_euclid (pos p +ℤ steps) (pos size)) ≡ moved (is_negative steps) size p (unsigned_abs steps)
rem_is_moved size p (pos n) h =
    subst (λ (t : Bool). (p + n) % size ≡ moved t size p n) (sym (le-ltb n 0 (omega arith))) refl
rem_is_moved size p (negsuc n) h = ap unsigned_abs (back size p n h)

-- what the code computes with signed words
pub moved_is : (size p : ℕ) (steps r : ℤ) → MoveRoom size p steps → FitsSigned w64 steps
    → r ≡ int_rem_euclid (to_z w64 (of_z w64 (to_z w64 p +ℤ to_z w64 (of_z w64 steps)))) (to_z w64 size)
    → unsigned_abs r < unsigned_abs (to_z w64 size)
    → unsigned_abs (to_z w64 (of_z w64 r)) ≡ moved (is_negative steps) size p (unsigned_abs steps)
moved_is size p steps r room fits e below =
    let place : to_z w64 p ≡ pos p = to_z_pos w64 p (omega arith) in
    let whole : to_z w64 size ≡ pos size = to_z_pos w64 size (omega arith) in
    let same : to_z w64 (of_z w64 steps) ≡ steps = to_z-of_z fits in
    let sum : FitsSigned w64 (pos p +ℤ steps) = search rules in
    let summed : to_z w64 (of_z w64 (pos p +ℤ steps)) ≡ pos p +ℤ steps = to_z-of_z sum in
    let rest : r ≡ int_rem_euclid (pos p +ℤ steps) (pos size) = cc in
    let small : FitsSigned w64 r = fits_signed_from_abs w64 r (omega (arith, ap unsigned_abs whole)) in
    ap unsigned_abs (to_z-of_z small ∙ rest) ∙ rem_is_moved size p steps room.some

-- ---- elements of the halves

pub on_first_half : (half p r : ℕ) (steps : ℤ) → p < half → r ≡ moved (is_negative steps) half p (unsigned_abs steps)
    → r ≡ offset_element (is_negative steps) half p (unsigned_abs steps)
unfolding offset_element
on_first_half half p r steps h e = rw (lt-ltb p half h) e

-- the other way round
turned : (size p : ℕ) (steps : ℤ) → 0 < size → moved (is_negative (pos 0 -ℤ steps)) size p (unsigned_abs (pos 0 -ℤ steps))
    ≡ moved (not (is_negative steps)) size p (unsigned_abs steps)
turned size p (pos zero) h =
    let none : 0 % size ≡ 0 = N.mod-eq_of_lt h in
    let once : p + (size - 0 % size) ≡ p + 1 * size = omega arith in
    ap (λ (t : ℕ). t % size) (N.add-zero p) ∙ sym (ap (λ (t : ℕ). t % size) once ∙ N.add-mul-mod_self_right p 1 size)
turned size p (pos (suc n)) h =
    let negated : pos 0 -ℤ pos (suc n) ≡ negsuc n = omega (arith, ints) in
    ap (λ (z : ℤ). moved (is_negative z) size p (unsigned_abs z)) negated
    ∙ ap (λ (t : Bool). moved (not t) size p (suc n)) (sym (le-ltb (suc n) 0 (omega arith)))
turned size p (negsuc n) h =
    let negated : pos 0 -ℤ negsuc n ≡ pos (suc n) = omega (arith, ints) in
    ap (λ (z : ℤ). moved (is_negative z) size p (unsigned_abs z)) negated
    ∙ ap (λ (t : Bool). moved t size p (suc n)) (le-ltb (suc n) 0 (omega arith))

pub on_second_half : (half p r : ℕ) (steps : ℤ) → 0 < half → half ≤ p
    → r ≡ moved (is_negative (pos 0 -ℤ steps)) half (p - half) (unsigned_abs (pos 0 -ℤ steps))
    → r + half ≡ offset_element (is_negative steps) half p (unsigned_abs steps)
unfolding offset_element
on_second_half half p r steps some h e = rw (le-ltb p half h) (ap (λ (t : ℕ). t + half) (e ∙ turned half (p - half) steps some))

-- ---- steps of so many places

same_sign : (z : ℤ) (k : ℕ) → 0 < k → is_negative (z *ℤ pos k) ≡ is_negative z
same_sign (pos n) k h = le-ltb (n * k) 0 (omega arith) ∙ sym (le-ltb n 0 (omega arith))
same_sign (negsuc n) k h =
    let some : suc n * k ≡ suc (suc n * k - 1) = omega (arith, N.suc-mul n k) in
    ap (λ (t : ℕ). is_negative (neg_ℤ (pos t))) some

module _ (eval domain : ℕ) (offset : ℤ) (given : Offset domain eval offset) (fits : FitsSigned w64 offset) (half places : ℕ)
    (half_is : half ≡ 2 ^ (eval - 1)) (places_is : places ≡ 2 ^ (eval - domain - 1)) where
  -- what the code computes as the steps
  abbrev product : ℤ
  product = to_z w64 (of_z w64 offset) *ℤ to_z w64 places

  some_places : (0 < places) × (places ≤ 2 ^ 30)
  some_places = (rw places_is (pow_pos (eval - domain - 1)), rw places_is (pow_mono {i = eval - domain - 1} {j = 30} (omega arith)))

  product_is : product ≡ offset *ℤ pos places
  product_is =
      let read : to_z w64 places ≡ pos places = to_z_pos w64 places (omega (arith, some_places)) in
      ap₂ (λ (y z : ℤ). y *ℤ z) (to_z-of_z fits) read

  size : unsigned_abs (offset *ℤ pos places) ≡ unsigned_abs offset * 2 ^ (eval - domain - 1)
  size = unsigned_abs-mul offset (pos places) ∙ ap (λ (t : ℕ). unsigned_abs offset * t) places_is

  few : unsigned_abs (offset *ℤ pos places) < 2 ^ 62
  few = rw size (places_below eval domain given.least given.most (unsigned_abs offset) given.few)

  pub product_fits : FitsSigned w64 product
  product_fits = rw product_is (fits_signed_from_abs w64 (offset *ℤ pos places) (omega (arith, few)))

  product_reads : to_z w64 (of_z w64 product) ≡ offset *ℤ pos places
  product_reads = to_z-of_z product_fits ∙ product_is

  pub on_halves : (i element : ℕ) → element ≡ bit_reverse_index i eval → OnHalves half element (to_z w64 (of_z w64 product))
  on_halves i element e =
      let bounds = half_bounds eval domain given.least given.most in
      let below = element_below eval domain given.least given.most i in
      record {
        some = omega (arith, bounds.0);
        within = omega arith;
        most = omega (arith, bounds.1);
        few = rw product_reads few;
      }

  -- the call's three steps together
  pub offset_is : (i p q r : ℕ) → p ≡ bit_reverse_index i eval
      → q ≡ offset_element (is_negative (to_z w64 (of_z w64 product))) half p (unsigned_abs (to_z w64 (of_z w64 product)))
      → r ≡ bit_reverse_index q eval → r ≡ offset_index i domain eval (is_negative offset) (unsigned_abs offset)
  offset_is i p q r e f g =
      let sign : is_negative (to_z w64 (of_z w64 product)) ≡ is_negative offset =
      ap is_negative product_reads ∙ same_sign offset places some_places.0 in
      let steps : unsigned_abs (to_z w64 (of_z w64 product)) ≡ unsigned_abs offset * 2 ^ (eval - domain - 1) =
      ap unsigned_abs product_reads ∙ size in
      let element : p ≡ reverse_bits eval i = e ∙ index_from_one i eval given.least in
      g
      ∙ index_from_one q eval given.least
      ∙ ap (reverse_bits eval) (f ∙ rw (sign, steps, half_is, element))

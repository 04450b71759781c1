-- Powers in a ring: their laws, and square-and-multiply.
use Prim.Native.Nat.{ℕ, zero, suc, ◌+◌, ◌*◌, ◌/◌, ◌%◌, ◌^◌, ◌<◌}
use Rattle.std.proofs.Math.Path.{◌≡◌, refl, sym, ap}
use Rattle.std.proofs.Common.{◌∙◌}
use Rattle.std.proofs.Math.Nat as N
use native.Mathlib.Omega.{arith}
use Rattle.algebra.specs.Ring.{Ops, Laws}
use Rattle.algebra.specs.Ring as R

module _ (O : Ops) where
  open O use {El, one as 𝟙, mul as ◌⊗◌}

  infixl 70 ◌⊗◌
  -- x times itself n times, 1 for n = 0
  unfoldable pub pow : El → ℕ → El
  pow x zero = 𝟙
  pow x (suc n) = x ⊗ pow x n

  -- x to the power n for n below 2^bits, by squaring: it computes where pow would count n down
  unfoldable pub pow_by_squaring : ℕ → El → ℕ → El
  pow_by_squaring zero x n = 𝟙
  pow_by_squaring (suc bits) x n =
      elim (n % 2) [ zero ↦ pow_by_squaring bits (x ⊗ x) (n / 2) | suc r ↦ x ⊗ pow_by_squaring bits (x ⊗ x) (n / 2) ]

module _ (O : Ops) (L : Laws O) where
  open O use {El, one as 𝟙, mul as ◌⊗◌}
  open L use {mul_assoc, mul-one}

  infixl 70 ◌⊗◌
  pub pow-zero : (x : El) → pow O x 0 ≡ 𝟙
  unfolding pow
  pow-zero x = refl

  pub pow-one : (x : El) → pow O x 1 ≡ x
  unfolding pow
  pow-one x = mul-one x

  pub pow-two : (x : El) → pow O x 2 ≡ x ⊗ x
  unfolding pow
  pow-two x = ap (◌⊗◌ x) (mul-one x)

  pub pow-add : (x : El) (m n : ℕ) → pow O x (m + n) ≡ pow O x m ⊗ pow O x n
  unfolding pow
  pow-add x zero n = ap (pow O x) (N.zero-add n) ∙ sym (R.one-mul O L (pow O x n))
  pow-add x (suc m) n = ap (pow O x) (N.suc-add m n) ∙ ap (◌⊗◌ x) (pow-add x m n) ∙ sym (mul_assoc x (pow O x m) (pow O x n))

  pub pow-mul : (x : El) (m n : ℕ) → pow O x (m * n) ≡ pow O (pow O x n) m
  unfolding pow
  pow-mul x zero n = ap (pow O x) (N.zero-mul n)
  pow-mul x (suc m) n =
      ap (pow O x) (N.suc-mul m n ∙ N.add_comm (m * n) n) ∙ pow-add x n (m * n) ∙ ap (◌⊗◌ (pow O x n)) (pow-mul x m n)

  pub one-pow : (n : ℕ) → pow O 𝟙 n ≡ 𝟙
  unfolding pow
  one-pow zero = refl
  one-pow (suc n) = R.one-mul O L (pow O 𝟙 n) ∙ one-pow n

  pub mul-pow : (x y : El) (n : ℕ) → pow O (x ⊗ y) n ≡ pow O x n ⊗ pow O y n
  unfolding pow
  mul-pow x y zero = sym (mul-one 𝟙)
  mul-pow x y (suc n) = ap (◌⊗◌ (x ⊗ y)) (mul-pow x y n) ∙ R.mul_swap O L x y (pow O x n) (pow O y n)

  pub pow_square : (x : El) (n : ℕ) → pow O (x ⊗ x) n ≡ pow O x (n * 2)
  pow_square x n = ap (λ t. pow O t n) (sym (pow-two x)) ∙ sym (pow-mul x n 2)

  -- one step of square-and-multiply: the lowest bit of the exponent is used, and the base squared
  pub square_and_multiply : (a x : El) (n : ℕ) → a ⊗ pow O x (n % 2) ⊗ pow O (x ⊗ x) (n / 2) ≡ a ⊗ pow O x n
  square_and_multiply a x n =
      mul_assoc a (pow O x (n % 2)) (pow O (x ⊗ x) (n / 2))
      ∙ ap (◌⊗◌ a) (ap (◌⊗◌ (pow O x (n % 2))) (pow_square x (n / 2)) ∙ sym (pow-add x (n % 2) (n / 2 * 2)) ∙ ap (pow O x) div-mod_2)
    where
      div-mod_2 : n % 2 + n / 2 * 2 ≡ n
      div-mod_2 = omega arith

  pub pow_by_squaring_ok : (bits : ℕ) (x : El) (n : ℕ) → n < 2 ^ bits → pow_by_squaring O bits x n ≡ pow O x n
  unfolding pow_by_squaring pow
  pow_by_squaring_ok zero x n h = ap (pow O x) (zero_bits n h)
    where
      zero_bits : (n : ℕ) → n < 2 ^ 0 → 0 ≡ n
      zero_bits n l = omega arith
  pow_by_squaring_ok (suc bits) x n h =
      go (n % 2) refl (N.mod-lt n {m = 2} (omega arith)) (pow_by_squaring_ok bits (x ⊗ x) (n / 2) (omega arith) ∙ pow_square x (n / 2))
    where
      go : (r : ℕ) → n % 2 ≡ r → r < 2 → pow_by_squaring O bits (x ⊗ x) (n / 2) ≡ pow O x (n / 2 * 2)
          → ◌≡◌ {A = El}
          (elim r [ zero ↦ pow_by_squaring O bits (x ⊗ x) (n / 2) | suc r ↦ x ⊗ pow_by_squaring O bits (x ⊗ x) (n / 2) ]) (pow O x n)
      go zero e l ih = let w : n / 2 * 2 ≡ n = omega arith in ih ∙ ap (pow O x) w
      go (suc r) e l ih = ap (◌⊗◌ x) ih ∙ ap (pow O x) (odd_div_mod_2 e l)
        where
          odd_div_mod_2 : n % 2 ≡ suc r → suc r < 2 → suc (n / 2 * 2) ≡ n
          odd_div_mod_2 e l = omega arith

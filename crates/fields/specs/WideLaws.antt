-- What the tests of a loop that halves a number say.
use Rattle.std.specs.Prelude.{◌≡◌, ℕ, ◌/◌, ◌%◌, ◌<◌, Bool, true, false, not, ◌==◌}
use Rattle.std.proofs.Common.{sym, ◌∙◌, arith, eqb-true}
use Rattle.std.proofs.lemmas.Bool.{eqb-false, not-true, not-false}

-- half of a number that isn't zero is less
pub half_less : (n h : ℕ) (zero : Bool) → zero ≡ (n == 0) → not zero ≡ true → h ≡ n / 2 → h < n
half_less n h zero e t f = let some = eqb-false n 0 (sym e ∙ not-true zero t) in omega (arith, f)

-- the lowest bit of a number that is odd, and of one that isn't
pub is_odd : (n : ℕ) (odd : Bool) → odd ≡ (n % 2 == 1) → odd ≡ true → n % 2 ≡ 1
is_odd n odd e t = eqb-true (n % 2) 1 (sym e ∙ t)

pub not_odd : (n : ℕ) (odd : Bool) → odd ≡ (n % 2 == 1) → odd ≡ false → n % 2 ≡ 0
not_odd n odd e t = let even = eqb-false (n % 2) 1 (sym e ∙ t) in omega arith

-- nothing is left of a number that is zero
pub none_left : (n : ℕ) (zero : Bool) → zero ≡ (n == 0) → not zero ≡ false → n ≡ 0
none_left n zero e t = eqb-true n 0 (sym e ∙ not-false zero t)

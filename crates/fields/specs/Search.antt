-- The first place where a test holds.
use Rattle.std.specs.Prelude.{ℕ, zero, suc, Bool, cond}

-- the least k below n at which the test holds, n where there is none
unfoldable pub first : (ℕ → Bool) → ℕ → ℕ
first test zero = 0
first test (suc n) = cond (test 0) 0 (suc (first (λ k. test (suc k)) n))

-- Searches for the first place where a test holds.
use Rattle.std.specs.Prelude.{◌≡◌, ℕ, zero, suc, ◌+◌, ◌<◌, ◌≤◌, Bool, true, false, not, cond, List, length, Ok, Err, refl}
use Rattle.std.specs.Prelude as O
use Rattle.std.specs.List.{position_or_len, range_with_len}
use Rattle.std.proofs.Common.{◌∙◌, ap, ap₂, arith, get_or, leb, le-leb}
use borrow.Author.Tests.{lt-leb}
use lib.Dec.{ltb}
use Rattle.std.proofs.lemmas.List.Recursion.{is_position_or_len}
use Rattle.std.proofs.Math.Nat as N
use Rattle.std.proofs.Math.Decide.{dec_lt}
use Rattle.fields.specs.Check.{need, outcome}
use Rattle.fields.specs.Search.{first}
use Rattle.fields.specs.declared.refusal.Refusal.{Refusal}

-- the test holds nowhere below k
pub record None (test : ℕ → Bool) (k : ℕ) : Type 0 where
  pub none : (j : ℕ) → j < k → test j ≡ false

pub none_start : (test : ℕ → Bool) → None test 0
none_start test = record { none = λ j h. absurd (N.not-suc-le-zero h) }

pub none_next : (test : ℕ → Bool) (k : ℕ) → None test k → test k ≡ false → None test (k + 1)
none_next test k h e = record { none = λ j l. elim (dec_lt j k) [ yes lt ↦ h.none j lt | no ge ↦ here j (omega arith) ] }
  where
    here : (j : ℕ) → j ≡ k → test j ≡ false
    here j q = ap test q ∙ e

first_is : (test : ℕ → Bool) (n k : ℕ) → k ≤ n → ((j : ℕ) → j < k → test j ≡ false) → (k < n → test k ≡ true) → k ≡ first test n
unfolding first
first_is test zero k l h e = omega arith
first_is test (suc n) zero l h e = rw (e (omega arith))
first_is test (suc n) (suc k) l h e =
    rw (h 0 (omega arith)) (ap suc
    (first_is (λ j. test (suc j)) n k (N.le_of_suc-le-suc l) (λ j lt. h (suc j) (omega arith)) (λ lt. e (omega arith))))

-- where the test holds first
pub first_at : (test : ℕ → Bool) (n k : ℕ) → k < n → None test k → test k ≡ true → k ≡ first test n
first_at test n k l h e = first_is test n k (omega arith) h.none (λ lt. e)

-- where the test holds nowhere
pub first_none : (test : ℕ → Bool) (n k : ℕ) → k ≡ n → None test k → k ≡ first test n
first_none test n k q h = first_is test n k (omega arith) h.none (λ lt. absurd (N.not-le_of_lt lt (omega arith)))

passed_first : (t : Bool) (n m : ℕ) → suc n ≤ cond t 0 (suc m) → (t ≡ false) × (n ≤ m)
passed_first true n m h = absurd (N.not-suc-le-zero h)
passed_first false n m h = (refl, N.le_of_suc-le-suc h)

none_before : (test : ℕ → Bool) (n : ℕ) → n ≤ first test n → (j : ℕ) → j < n → test j ≡ false
unfolding first
none_before test zero h j l = absurd (N.not-suc-le-zero l)
none_before test (suc n) h zero l = (passed_first (test 0) n (first (λ k. test (suc k)) n) h).0
none_before test (suc n) h (suc j) l =
    none_before (λ k. test (suc k)) n (passed_first (test 0) n (first (λ k. test (suc k)) n) h).1 j (N.le_of_suc-le-suc l)

-- nothing is found only where there is nothing
pub none_found : (test : ℕ → Bool) (n : ℕ) → n ≤ first test n → None test n
none_found test n h = record { none = none_before test n h }

found_next : (test : ℕ → Bool) (m n : ℕ) (t : Bool) → test 0 ≡ t → (m < n → test (suc m) ≡ true) → cond t 0 (suc m) < suc n
    → test (cond t 0 (suc m)) ≡ true
found_next test m n true e rest h = e
found_next test m n false e rest h = rest (N.le_of_suc-le-suc h)

-- the test holds where something is found
pub found_holds : (test : ℕ → Bool) (n : ℕ) → first test n < n → test (first test n) ≡ true
unfolding first
found_holds test zero h = absurd (N.not-suc-le-zero h)
found_holds test (suc n) h = found_next test (first (λ k. test (suc k)) n) n (test 0) refl (found_holds (λ k. test (suc k)) n) h

-- the first item that passes is the one that `position` finds
pub first-position : {A : Type 0} (test : A → Bool) (d : A) (items : List A)
    → first (λ k. test (get_or items k d)) (length items) ≡ position_or_len test items
unfolding first
first-position test d =
    is_position_or_len (λ items. first (λ k. test (get_or items k d)) (length items)) test refl
    (λ x rest. ap (cond (test x) 0) (omega arith))

counted : (t : Bool) (m : ℕ) → cond t 0 (suc m) ≡ cond (not t) (1 + m) 0
counted true m = refl
counted false m = omega arith

first_from : (at : ℕ → Bool) (test : ℕ → Bool) (a n : ℕ) → ((k : ℕ) → at k ≡ test (a + k))
    → first at n ≡ position_or_len test (range_with_len a n)
unfolding first
first_from at test a zero h = refl
first_from at test a (suc n) h =
    let here : at 0 ≡ test a = h 0 ∙ ap test (omega arith) in
    let after = first_from (λ k. at (suc k)) test (a + 1) n (λ k. h (suc k) ∙ ap test (omega arith)) in
    ap₂ (λ t m. cond t 0 (suc m)) here after ∙ counted (test a) (position_or_len test (range_with_len (a + 1) n))

-- the same, where the items are the numbers below n
pub first-range : (test : ℕ → Bool) (n : ℕ) → first test n ≡ position_or_len test (range_with_len 0 n)
first-range test n = first_from test test 0 n (λ k. ap test (omega arith))

-- what the checks answer that a search makes, from what `position` answered
pub refused_at : (n place k : ℕ) (why : ℕ → Refusal) → cond (ltb place n) (O.Some place) O.None ≡ O.Some k
    → Err (why k) ≡ outcome (need (leb n place) (why place))
refused_at n place k why e =
    let found : (k ≡ place) × (place < n) = grind arith in
    rw (lt-leb n place found.1) (ap (λ (t : ℕ). Err (why t)) found.0)

pub passed_all : (n place : ℕ) (why : ℕ → Refusal) → cond (ltb place n) (O.Some place) O.None ≡ O.None
    → Ok tt ≡ outcome (need (leb n place) (why place))
passed_all n place why e =
    let all : n ≤ place = grind arith in
    rw (le-leb n place all) refl

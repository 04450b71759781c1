-- Answers by cases: what an answer is where a test is passed and where it refuses, and what is below P where words were tested.
use Rattle.std.specs.Prelude.{◌≡◌, ℕ, ◌<◌, ◌≤◌, Bool, true, false, cond, not, ◌&&◌, ◌==◌, ◌≢◌, nat_le, nat_lt, Result, Ok}
use Rattle.std.proofs.Common.{sym, ◌∙◌, ap, le-leb, lt-ltb, le-ltb, eq-eqb, ne_eqb, ltb-true}
use Rattle.std.proofs.Math.Bool.{and-eq-true_iff}
use Rattle.std.proofs.lemmas.Bool.{lt-leb, not-true, not-false}
use Rattle.algebra.specs.M31.{P}
use Rattle.fields.specs.M31.{of_word}
use Rattle.fields.specs.CM31.{pair_of, of_pair}
use Rattle.fields.specs.CM31 as C
use Rattle.fields.specs.QM31.{pairs_of, of_pairs}
use Rattle.fields.specs.QM31 as Q
use Rattle.fields.specs.declared.m31.M31.{M31}
use Rattle.fields.specs.declared.cm31.CM31.{CM31}
use Rattle.fields.specs.declared.qm31.QM31.{QM31}
use Rattle.fields.specs.declared.refusal.Refusal.{Refusal}

-- r is the answer where the test holds, and is what the first case says
pub at_leb : {A : Type 0} (r x y : A) (m n : ℕ) → m ≤ n → r ≡ x → r ≡ cond (nat_le m n) x y
at_leb r x y m n h e = rw (le-leb m n h) e

pub no_leb : {A : Type 0} (r x y : A) (m n : ℕ) → n < m → r ≡ y → r ≡ cond (nat_le m n) x y
no_leb r x y m n h e = rw (lt-leb m n h) e

pub at_ltb : {A : Type 0} (r x y : A) (m n : ℕ) → m < n → r ≡ x → r ≡ cond (nat_lt m n) x y
at_ltb r x y m n h e = rw (lt-ltb m n h) e

pub no_ltb : {A : Type 0} (r x y : A) (m n : ℕ) → n ≤ m → r ≡ y → r ≡ cond (nat_lt m n) x y
no_ltb r x y m n h e = rw (le-ltb m n h) e

pub at_eqb : {A : Type 0} (r x y : A) (m n : ℕ) → m ≡ n → r ≡ x → r ≡ cond (m == n) x y
at_eqb r x y m n h e = rw (eq-eqb m n h) e

pub no_eqb : {A : Type 0} (r x y : A) (m n : ℕ) → (m ≢ n) → r ≡ y → r ≡ cond (m == n) x y
no_eqb r x y m n h e = rw (ne_eqb m n h) e

-- u is what a test answered
pub at_test : {A : Type 0} (r x y : A) (t u : Bool) → u ≡ t → u ≡ true → r ≡ x → r ≡ cond t x y
at_test r x y t u e h f = rw (sym e ∙ h) f

pub no_test : {A : Type 0} (r x y : A) (t u : Bool) → u ≡ t → u ≡ false → r ≡ y → r ≡ cond t x y
no_test r x y t u e h f = rw (sym e ∙ h) f

pub at_not : {A : Type 0} (r x y : A) (t u : Bool) → u ≡ t → not u ≡ true → r ≡ y → r ≡ cond t x y
at_not r x y t u e h f = no_test r x y t u e (not-true u h) f

pub no_not : {A : Type 0} (r x y : A) (t u : Bool) → u ≡ t → not u ≡ false → r ≡ x → r ≡ cond t x y
no_not r x y t u e h f = at_test r x y t u e (not-false u h) f

-- the test that must not hold
pub at_ne : {A : Type 0} (r x y : A) (m n : ℕ) → (m ≢ n) → r ≡ x → r ≡ cond (not (m == n)) x y
at_ne r x y m n h e = rw (ne_eqb m n h) e

pub no_ne : {A : Type 0} (r x y : A) (m n : ℕ) → m ≡ n → r ≡ y → r ≡ cond (not (m == n)) x y
no_ne r x y m n h e = rw (eq-eqb m n h) e

pub at_unless : {A : Type 0} (r x y : A) (t u : Bool) → u ≡ t → u ≡ false → r ≡ x → r ≡ cond (not t) x y
at_unless r x y t u e h f = rw (sym e ∙ h) f

pub no_unless : {A : Type 0} (r x y : A) (t u : Bool) → u ≡ t → u ≡ true → r ≡ y → r ≡ cond (not t) x y
no_unless r x y t u e h f = rw (sym e ∙ h) f

-- the first of two tests
pub first_fails : (t u : Bool) → t ≡ false → false ≡ (t && u)
first_fails t u e = rw e

pub first_holds : (t u : Bool) → t ≡ true → u ≡ (t && u)
first_holds t u e = rw e

pub second_fails : (t u v : Bool) → t ≡ true → u ≡ false → false ≡ (t && u && v)
second_fails t u v e f = rw (e, f)

pub all_three : (t u v : Bool) → t ≡ true → u ≡ true → v ≡ (t && u && v)
all_three t u v e f = rw (e, f)

-- an accepted word
pub word_value : (w v : ℕ) → w ≡ v → ◌≡◌ {A = Result M31 Refusal} (Ok (of_word w)) (Ok (of_word v))
word_value w v e = ap (λ (t : ℕ). Ok (of_word t)) e

pub ruleset answers = (
  at_leb,
  no_leb,
  at_ltb,
  no_ltb,
  at_eqb,
  no_eqb,
  at_test,
  no_test,
  at_not,
  no_not,
  at_ne,
  no_ne,
  at_unless,
  no_unless,
  word_value,
)

-- CM31
both_below : (a b : ℕ) → nat_lt a P && nat_lt b P ≡ true → (a < P) × (b < P)
both_below a b e = let h = (and-eq-true_iff (nat_lt a P) (nat_lt b P)).0 e in (ltb-true a P h.0, ltb-true b P h.1)

pub first_below : (a : CM31) (u : Bool) → u ≡ C.reduced a → not u ≡ false → a.0.0 < P
first_below a u e h = (both_below a.0.0 a.1.0 (sym e ∙ not-false u h)).0

pub second_below : (a : CM31) (u : Bool) → u ≡ C.reduced a → not u ≡ false → a.1.0 < P
second_below a u e h = (both_below a.0.0 a.1.0 (sym e ∙ not-false u h)).1

pub pair-value : (a : CM31) (p : ℕ × ℕ) → pair_of a ≡ p → ◌≡◌ {A = Result CM31 Refusal} (Ok a) (Ok (of_pair p))
pair-value a p e = ap (λ (t : ℕ × ℕ). Ok (of_pair t)) e

pub ruleset complexes = (first_below, second_below, pair-value)

-- QM31
pub words_below : (a : QM31) (u : Bool) → u ≡ Q.reduced a → not u ≡ false → Q.Reduced a
words_below a u e h =
    let k = (and-eq-true_iff (C.reduced a.0) (C.reduced a.1)).0 (sym e ∙ not-false u h) in
    (both_below a.0.0.0 a.0.1.0 k.0, both_below a.1.0.0 a.1.1.0 k.1)

pub word0_below : (a : QM31) (u : Bool) → u ≡ Q.reduced a → not u ≡ false → a.0.0.0 < P
word0_below a u e h = (words_below a u e h).0.0

pub word1_below : (a : QM31) (u : Bool) → u ≡ Q.reduced a → not u ≡ false → a.0.1.0 < P
word1_below a u e h = (words_below a u e h).0.1

pub word2_below : (a : QM31) (u : Bool) → u ≡ Q.reduced a → not u ≡ false → a.1.0.0 < P
word2_below a u e h = (words_below a u e h).1.0

pub word3_below : (a : QM31) (u : Bool) → u ≡ Q.reduced a → not u ≡ false → a.1.1.0 < P
word3_below a u e h = (words_below a u e h).1.1

pub pairs_value : (a : QM31) (p : (ℕ × ℕ) × (ℕ × ℕ)) → pairs_of a ≡ p → ◌≡◌ {A = Result QM31 Refusal} (Ok a) (Ok (of_pairs p))
pairs_value a p e = ap (λ (t : (ℕ × ℕ) × (ℕ × ℕ)). Ok (of_pairs t)) e

pub ruleset quartics = (word0_below, word1_below, word2_below, word3_below, first_below, second_below, pairs_value)

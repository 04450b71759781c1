-- Which calls of the transform are accepted: exactly those with a log size from 1 to 30, a column of 2^n words below P, and
-- 2^n words of scratch or more.
use Rattle.std.specs.Prelude.{ℕ, ◌^◌, ◌≤◌, ◌≡◌, List, ◌++◌, ◌↔◌, Result, Ok, Err, get_or}
use Rattle.std.proofs.Math.Path.{refl}
use Rattle.std.proofs.Common.{arith}
use Rattle.std.proofs.Math.ListN.{length}
use borrow.Author.Tests.{leb-true, leb-false, eqb-true, le-leb, lt-leb, eq-eqb}
use Rattle.algebra.specs.M31.{P}
use Rattle.fields.specs.Check.{need}
use Rattle.fields.specs.CheckLaws.{hold_split, hold_both, hold_passes, accepted_hold}
use Rattle.fields.specs.LogSize.{is_log_size}
use Rattle.fields.specs.LogSizeLaws.{log_size_fits_lem, log_size_passes}
use Rattle.fields.specs.Columns.{is_bad, first_bad, words}
use Rattle.fields.specs.SearchLaws.{None, first_none, none_found}
use Rattle.fields.specs.declared.refusal.Refusal.{Refusal}
use Rattle.fields.specs.declared.refusal.Refusal.TheVariants.{LogSize, Length}
use Rattle.transform.specs.Transform.{Column, lengths, transform_answer}

pub record Accepted (n : ℕ) (column : List ℕ) (scratch : ℕ) : Type 0 where
  pub low : 1 ≤ n
  pub high : n ≤ 30
  pub words : Column n column
  pub room : 2 ^ n ≤ scratch

-- ---- proof

refused_not_written : (why : Refusal) → ◌≡◌ {A = Result (Unit {0}) Refusal} (Err why) (Ok tt) → ⊥
refused_not_written why e = let never : ◌≡◌ {A = ℕ} 0 1 = cc in omega arith

module _ (n : ℕ) (column : List ℕ) (scratch : ℕ) where
  pub is_accepted : Accepted n column scratch → transform_answer n column scratch ≡ Ok tt
  unfolding transform_answer
  is_accepted a =
      let none : None (is_bad column) (length column) = record { none = λ k l. lt-leb P (get_or column k 0) (a.words.below k l) } in
      let last : length column ≡ first_bad column = first_none (is_bad column) (length column) (length column) refl none in
      hold_passes (need (is_log_size n) LogSize ++ (lengths n column scratch ++ words column)) tt
      (hold_both (need (is_log_size n) LogSize) (lengths n column scratch ++ words column) (log_size_passes n a.low a.high, tt)
      (hold_both (lengths n column scratch) (words column)
      (hold_both (need _ Length) (need _ Length) (eq-eqb (length column) (2 ^ n) a.words.size, tt)
      (le-leb (2 ^ n) scratch a.room, tt))
      (le-leb (length column) (first_bad column) (omega arith), tt)))

  pub accepted : transform_answer n column scratch ≡ Ok tt → Accepted n column scratch
  unfolding transform_answer
  accepted e =
      let first = hold_split (need (is_log_size n) LogSize) (lengths n column scratch ++ words column)
      (accepted_hold (need (is_log_size n) LogSize ++ (lengths n column scratch ++ words column)) tt tt e) in
      let rest = hold_split (lengths n column scratch) (words column) first.1 in
      let sizes = hold_split (need _ Length) (need _ Length) rest.0 in
      let range = log_size_fits_lem n first.0.0 in
      let good = none_found (is_bad column) (length column) (leb-true (length column) (first_bad column) rest.1.0) in
      record {
        low = range.0;
        high = range.1;
        words = record {
          size = eqb-true (length column) (2 ^ n) sizes.0.0;
          below =
              λ k h. leb-false P (get_or column k 0) (good.none k h);
        };
        room = leb-true (2 ^ n) scratch sizes.1.0;
      }

-- exactly these are accepted
pub accepted_exactly : (n : ℕ) (column : List ℕ) (scratch : ℕ) → (transform_answer n column scratch ≡ Ok tt) ↔ Accepted n column scratch
accepted_exactly n column scratch = (accepted n column scratch, is_accepted n column scratch)

-- What the checks of a batch tell of its column.
use Rattle.std.proofs.Common.{◌≡◌, ℕ, ◌*◌, ◌/◌, ◌%◌, ◌<◌, ◌≤◌, false, not, ◌&&◌, eqb, leb, List, ◌++◌, length, get_or, refl}
use Rattle.std.proofs.Common.{ap, ◌∙◌, arith, eqb-true, le-leb, leb-false, leb-true}
use Rattle.std.specs.Prelude.{Result, Ok, Err, IsErrAnd}
use mathlib.Core.Bool.{and-eq-true_iff}
use native.Mathlib.Nat as N
use Rattle.algebra.specs.M31.{P}
use Rattle.fields.specs.Check.{Checks, need, checked, outcome}
use Rattle.fields.specs.CheckLaws.{Hold, hold_split, exit_refused, at_passed}
use Rattle.fields.specs.Columns.{is_bad, first_bad, words}
use Rattle.fields.specs.Field.{FieldOf}
use Rattle.fields.specs.SearchLaws.{None, first_none, none_found}
use Rattle.fields.specs.declared.refusal.Refusal.{Refusal}
use Rattle.fields.specs.declared.refusal.Refusal.TheVariants.{Length, Chunk}
use Rattle.batch.specs.Batch.{ColumnField, zero_at, first_zero, count, lengths_fit, nonzero, invertible, chunked_checks, inverted}
use Rattle.batch.specs.Batch.{batch_exit}
use Rattle.batch.specs.Elements.{ColumnLaws}
use Rattle.batch.specs.Passes.{Units, size}
use Rattle.batch.specs.PassContracts.{InvertingInto, Inverted}
use Rattle.batch.specs.declared.counts.Counts.{Counts}
use Rattle.batch.proofs.Montgomery.{within}

module _ (C : ColumnField) (column : List ℕ) where
  -- neither bad words nor zeros: the elements pass
  pub passed : None (is_bad column) (length column) → None (zero_at C column) (count C column) → outcome (invertible C column) ≡ Ok tt
  passed h k =
      let e = first_none (is_bad column) (length column) (length column) refl h in
      let f = first_none (zero_at C column) (count C column) (count C column) refl k in
      rw (← e, ← f, le-leb (length column) (length column) (omega arith), le-leb (count C column) (count C column) (omega arith))

  -- and only then
  no_bad : Hold (invertible C column) → (j : ℕ) → j < length column → get_or column j 0 < P
  no_bad h j l =
      leb-false P (get_or column j 0)
      ((none_found (is_bad column) (length column)
      (leb-true (length column) (first_bad column) (hold_split (words column) (nonzero C column) h).0.0)).none j l)

  no_zero : Hold (invertible C column) → (k : ℕ) → k < count C column → zero_at C column k ≡ false
  no_zero h =
      (none_found (zero_at C column) (count C column)
      (leb-true (count C column) (first_zero C column) (hold_split (words column) (nonzero C column) h).1.0)).none

-- what an accepted batch passed
record Accepted (C : ColumnField) (chunk : ℕ) (column : List ℕ) (dst : ℕ) : Type 0 where
  pub whole : length column % C.layout.width ≡ 0
  pub room : length column ≤ dst
  pub elements : Hold (invertible C column)

accepted : (C : ColumnField) (chunk : ℕ) (column : List ℕ) (dst : ℕ) → Hold (chunked_checks C chunk column dst)
    → Accepted C chunk column dst
accepted C chunk column dst h =
    let lengths = hold_split (need (lengths_fit C (length column) dst) Length) (need (not (eqb chunk 0)) Chunk ++ invertible C column) h in
    let q = (and-eq-true_iff (eqb (length column % C.layout.width) 0 && eqb (dst % C.layout.width) 0) (leb (length column) dst)).0
    lengths.0.0 in
    let r = (and-eq-true_iff (eqb (length column % C.layout.width) 0) (eqb (dst % C.layout.width) 0)).0 q.0 in record {
      whole = eqb-true (length column % C.layout.width) 0 r.0;
      room = leb-true (length column) dst q.1;
      elements = (hold_split (need (not (eqb chunk 0)) Chunk) (invertible C column) lengths.1).1;
    }

module _ {A : Type 0} {U : Units} {value : A → U.layout.El} {C : ColumnField} {F : FieldOf A} (laws : ColumnLaws U value C F) where
  open U.layout use {width}

  pub same_count : (column : List ℕ) → size U column ≡ count C column
  same_count column = ap (λ (w : ℕ). length column / w) laws.same_width

  -- an accepted column holds elements that can be inverted
  pub inverting : (chunk : ℕ) (column dst : List ℕ) → Hold (chunked_checks C chunk column (length dst)) → InvertingInto U column dst
  inverting chunk column dst h =
      let ok = accepted C chunk column (length dst) h in
      let whole : length column ≡ size U column * width
      = omega (arith, N.div-add-mod' (length column) width, ap (λ (w : ℕ). length column % w) laws.same_width, ok.whole) in record {
        elements = record {
          whole = whole;
          units = λ k l.
              laws.unit column k (λ j lo hi. no_bad C column ok.elements j (omega (arith, whole, within width k (size U column) l)))
              (no_zero C column ok.elements k (omega (arith, same_count column)));
        };
        room = ok.room;
      }

-- a batch with these checks and counts: what is answered, and what is left in the destination
module _ {A : Type 0} {U : Units} {value : A → U.layout.El} {C : ColumnField} {F : FieldOf A} (laws : ColumnLaws U value C F)
    (checks : Checks) (counts : Counts) (column dst : List ℕ) where
  abbrev pub Answered : List ℕ → Result Counts Refusal → Type 0
  Answered exit r = (r ≡ checked checks counts) × (exit ≡ batch_exit C (checked checks counts) column dst)

  pub refused_batch : {r : Result (Unit {0}) Refusal} {why : Refusal} {x : Result Counts Refusal} → IsErrAnd x (λ other. other ≡ why)
      → r ≡ outcome checks → r ≡ Err why → Answered dst x
  unfolding batch_exit
  refused_batch {r} {why} {x} q e h =
      let answered : x ≡ checked checks counts = exit_refused checks r why counts x q e h in
      let refused : Err why ≡ checked checks counts = exit_refused checks r why counts (Err why) refl e h in
      (answered, ap (λ (a : Result Counts Refusal). batch_exit C a column dst) refused)

  pub accepted_batch : {r : Result (Unit {0}) Refusal} {u : Unit {0}} {exit : List ℕ} {made : Counts} → r ≡ outcome checks → r ≡ Ok u
      → made ≡ counts → Inverted U column dst exit → Answered exit (Ok made)
  unfolding batch_exit
  accepted_batch {r} {u} {exit} {made} e h m i =
      let answered : Ok made ≡ checked checks counts = at_passed checks r u made counts e h m in (
        answered,
        i.result ∙ laws.same_inverted (size U column) column dst
            ∙ ap (λ (n : ℕ). inverted C.layout C.inverse n column dst) (same_count laws column)
            ∙ ap (λ (a : Result Counts Refusal). batch_exit C a column dst) answered,
      )

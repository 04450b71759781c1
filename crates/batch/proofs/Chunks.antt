-- A column inverted chunk after chunk: what a chunk needs, what it leaves, and what was counted.
use Rattle.std.proofs.Common.{◌≡◌, ℕ, ◌+◌, ◌-◌, ◌*◌, ◌%◌, ◌<◌, ◌≤◌, min, max, List, length, sym, refl, ap, ◌∙◌, subst, ap₂, arith}
use native.Mathlib.Nat as N
use native.Mathlib.Decide.{dec_lt}
use borrow.Rule.Slice.PartMut.{mid_of, put_mid, same_len_mid}
use Rattle.batch.specs.Counts.{counted, together, pass_counts, chunked_counts}
use Rattle.batch.specs.Passes.{Units, Holds, size, inverses}
use Rattle.batch.specs.PassContracts.{Inverting, InvertingInto, Inverted}
use Rattle.batch.specs.declared.counts.Counts.{Counts}
use Rattle.batch.proofs.Montgomery.{holds_none}
use Rattle.batch.proofs.InvertedLists.{is_inverted}
use Rattle.batch.proofs.CountLaws.{Few, chunked_few, no_chunks, next_chunk, one_chunk}
use Rattle.batch.proofs.Parts.{Kept, part_size, part_inverting, part_kept, part_holds}

-- the elements below a are inverted, the words from there on as they were, and counts are those of the chunks up to there
pub record Through (U : Units) (column dst₀ : List ℕ) (chunk : ℕ) (dst : List ℕ) (a : ℕ) (counts : Counts) : Type 0 where
  pub inside : a ≤ size U column
  pub long : length dst ≡ length dst₀
  pub done : Holds U (inverses U column) 0 a dst
  pub rest : Kept (a * U.layout.width) dst dst₀
  pub whole_chunks : a < size U column → a % chunk ≡ 0
  pub so_far : counts ≡ chunked_counts chunk a

module _ {U : Units} {column dst₀ : List ℕ} (p : InvertingInto U column dst₀) {chunk : ℕ} where
  open U.layout use {width}

  pub through_start : {counts : Counts} → (counts.multiplications ≡ 0) × (counts.inversions ≡ 0) → Through U column dst₀ chunk dst₀ 0 counts
  through_start z = record {
    inside = omega arith;
    long = refl;
    done = holds_none U (inverses U column) dst₀ 0 0 (omega arith);
    rest = record { kept = λ j h. refl };
    whole_chunks = λ h. N.zero-mod chunk;
    so_far = ap₂ counted z.0 z.1 ∙ no_chunks chunk;
  }

  -- the next chunk, of the elements a to b
  module _ (some : 0 < chunk) {dst : List ℕ} {a : ℕ} {counts : Counts}
      (before : Through U column dst₀ chunk dst (min (size U column) a) counts) (less : a < size U column)
      {b from to : ℕ} (e : b ≡ min (size U column) (a + chunk)) (start_at : from ≡ a * width) (end_at : to ≡ b * width) where
    t : Through U column dst₀ chunk dst a counts
    t = subst (λ (k : ℕ). Through U column dst₀ chunk dst k counts) (omega arith) before

    ordered : a ≤ b
    ordered = omega arith

    inside : b ≤ size U column
    inside = omega arith

    pub chunk_inverting : Inverting U (mid_of from (to - from) column) (mid_of from (to - from) dst)
    chunk_inverting = part_inverting U p.elements a b ordered inside start_at end_at dst (omega (arith, p.room, t.long))

    -- the counts with those of this chunk
    module _ {next : Counts} (pass : next ≡ pass_counts (size U (mid_of from (to - from) column))) where
      chunk-counted : together counts next ≡ chunked_counts chunk b
      chunk-counted =
          ap₂ together t.so_far (pass ∙ ap pass_counts (part_size U p.elements a b ordered inside start_at end_at))
          ∙ next_chunk chunk a (b - a) some (t.whole_chunks less) (omega arith)
          ∙ ap (chunked_counts chunk) (N.add-sub_of_le ordered)

      -- why no count overflows
      pub chunk_few : Few (together counts next) (length column)
      chunk_few =
          let few = chunked_few chunk b in
          let most = N.le_trans inside (N.div-le_self (length column) width) in record {
            multiplications = omega (arith, ap (λ (c : Counts). c.multiplications) chunk-counted, few.multiplications, most);
            inversions = omega (arith, ap (λ (c : Counts). c.inversions) chunk-counted, few.inversions, most);
          }

      pub chunk-inverted : {exit : List ℕ} → Inverted U (mid_of from (to - from) column) (mid_of from (to - from) dst) exit
          → length exit ≡ length (mid_of from (to - from) dst)
          → {made : Counts} → made ≡ together counts next
          → Through U column dst₀ chunk (put_mid from (to - from) dst exit) (min (size U column) (a + chunk)) made
      chunk-inverted {exit} i l {made} m =
          subst (λ (k : ℕ). Through U column dst₀ chunk (put_mid from (to - from) dst exit) k made) e (
          let long : length column ≤ length dst = omega (arith, p.room, t.long) in record {
            inside = inside;
            long = same_len_mid from (to - from) dst exit l ∙ t.long;
            done = part_holds U p.elements a b ordered inside start_at end_at dst long i t.done;
            rest = part_kept U p.elements a b ordered inside start_at end_at dst long i dst₀ t.rest;
            whole_chunks = λ h. ap (λ (k : ℕ). k % chunk) (full h) ∙ N.add-mod_right a chunk ∙ t.whole_chunks less;
            so_far = m ∙ chunk-counted;
          })
        where
          full : b < size U column → b ≡ a + chunk
          full h = omega arith

  module _ {dst : List ℕ} {a : ℕ} {counts : Counts} (t : Through U column dst₀ chunk dst a counts) (all : a ≡ size U column) where
    pub through_end : Inverted U column dst₀ dst
    through_end = record {
      result =
          is_inverted U column dst₀ (size U column) dst t.long (omega (arith, p.elements.whole, p.room))
          (subst (λ (k : ℕ). Holds U (inverses U column) 0 k dst) all t.done)
          (λ j l. t.rest.kept j (omega (arith, ap (λ (k : ℕ). k * width) all)));
    }

    pub all_counted : counts ≡ chunked_counts chunk (size U column)
    all_counted = t.so_far ∙ ap (chunked_counts chunk) all

-- a chunk of more elements than the column has is the column
pub asked : (chunk n : ℕ) → 0 < chunk → {used : ℕ} → used ≡ min chunk (max n 1) → chunked_counts used n ≡ chunked_counts chunk n
asked chunk n some {used} e =
    elim (dec_lt n chunk) [
      | yes less ↦ one_chunk used n (omega arith) ∙ sym (one_chunk chunk n (omega arith))
      | no more ↦ ap (λ (k : ℕ). chunked_counts k n) (omega arith)
    ]

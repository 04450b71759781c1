-- The list that an inversion leaves: it is known by its elements and the words after them.
use Rattle.std.proofs.Common.{◌≡◌, ℕ, zero, suc, ◌+◌, ◌*◌, ◌/◌, ◌%◌, ◌<◌, ◌≤◌, List, length, get_or, sym, refl, ap, ◌∙◌, inr, arith}
use Rattle.std.proofs.Common.{ext_get_or}
use native.Mathlib.Nat as N
use native.Mathlib.Decide.{dec_lt}
use lib.ListN.{get_or-eq_default}
use Rattle.batch.specs.Batch.{inverted}
use Rattle.batch.specs.Passes.{Units, Holds, size, at, inverses}
use Rattle.batch.specs.PassContracts.{Inverted, BeforeProducts, AfterInverses}
use Rattle.batch.proofs.Montgomery.{holds_none, holds_part, holds_next}

module _ (U : Units) where
  open U use {layout, laws, inverse}
  open layout use {El, width}
  open laws use {width_pos, length_write, word_other, words-read}

  -- a list is known by its elements and the words after them
  unique : (f : ℕ → El) (n : ℕ) (l m : List ℕ) → length l ≡ length m → Holds U f 0 n l → Holds U f 0 n m
      → ((j : ℕ) → n * width ≤ j → get_or l j 0 ≡ get_or m j 0) → l ≡ m
  unique f n l m e h k rest =
      ext_get_or 0 l m e (λ j lt. elim (dec_lt j (n * width)) [ yes low ↦ element j low | no high ↦ rest j (omega arith) ])
    where
      whole : (j : ℕ) → j / width * width + j % width ≡ j
      whole j = N.div-add-mod' j width

      element : (j : ℕ) → j < n * width → get_or l j 0 ≡ get_or m j 0
      element j lt =
          let i : j / width < n = (N.div-lt_iff_lt-mul {k = width} {x = j} {y = n} width_pos).1 lt in
          ap (λ (t : ℕ). get_or l t 0) (sym (whole j))
          ∙ words-read l m (j / width * width) (j / width * width)
          (h.holds (j / width) (omega arith) i ∙ sym (k.holds (j / width) (omega arith) i)) (j % width) (N.mod-lt j width_pos)
          ∙ ap (λ (t : ℕ). get_or m t 0) (whole j)

  module _ (column dst : List ℕ) where
    pub length-inverted : (n : ℕ) → length (inverted layout inverse n column dst) ≡ length dst
    unfolding inverted
    length-inverted zero = refl
    length-inverted (suc n) = length_write (inverted layout inverse n column dst) (n * width) (inverse (at U column n)) ∙ length-inverted n

    pub inverted_holds : (n : ℕ) → n * width ≤ length dst → Holds U (inverses U column) 0 n (inverted layout inverse n column dst)
    unfolding inverted
    inverted_holds zero l = holds_none U (inverses U column) dst 0 0 (omega arith)
    inverted_holds (suc n) l =
        holds_part U (inverses U column) _ 0 0 (n + 1) (suc n) (omega arith) (omega arith)
        (holds_next U (inverses U column) (inverted layout inverse n column dst) n (inverses U column n) _ refl
        (inverted_holds n (omega (arith, N.suc-mul n width)))
        (omega (arith, N.suc-mul n width, length-inverted n)) refl)

    inverted_rest : (n j : ℕ) → n * width ≤ j → get_or (inverted layout inverse n column dst) j 0 ≡ get_or dst j 0
    unfolding inverted
    inverted_rest zero j l = refl
    inverted_rest (suc n) j l =
        word_other (inverted layout inverse n column dst) (n * width) (inverse (at U column n)) j (inr (omega (arith, N.suc-mul n width)))
        ∙ inverted_rest n j (omega (arith, N.suc-mul n width))

    -- what holds the inverses, and as before from there on, is the list asked for
    pub is_inverted : (n : ℕ) (l : List ℕ) → length l ≡ length dst → n * width ≤ length dst → Holds U (inverses U column) 0 n l
        → ((j : ℕ) → n * width ≤ j → get_or l j 0 ≡ get_or dst j 0) → l ≡ inverted layout inverse n column dst
    is_inverted n l e w h rest =
        unique (inverses U column) n l (inverted layout inverse n column dst) (e ∙ sym (length-inverted n)) h (inverted_holds n w)
        (λ j le. rest j le ∙ sym (inverted_rest n j le))

    -- a destination as long as the column has no words after
    pub is_inverted_whole : (n : ℕ) (l : List ℕ) → length l ≡ length dst → length dst ≡ n * width → Holds U (inverses U column) 0 n l
        → l ≡ inverted layout inverse n column dst
    is_inverted_whole n l e w h =
        is_inverted n l e (omega arith) h
        (λ j le. get_or-eq_default l 0 {n = j} (omega arith) ∙ sym (get_or-eq_default dst 0 {n = j} (omega arith)))

  pub no_elements : (column : List ℕ) → length column ≡ 0 → size U column ≡ 0
  no_elements column e = ap (λ (l : ℕ). l / width) e ∙ N.zero-div width

  -- none to invert
  pub none_inverted : {column dst : List ℕ} → length column ≡ 0 → Inverted U column dst dst
  unfolding inverted
  none_inverted {column} {dst} e = record {
    result = ap (λ (n : ℕ). inverted layout inverse n column dst) (sym (no_elements column e));
  }

  -- both passes together
  pub passes_inverted : {column dst exit : List ℕ} {made : ℕ} → BeforeProducts U column dst → AfterInverses U column exit made
      → length exit ≡ length dst → Inverted U column dst exit
  passes_inverted {column} {dst} {exit} p w l = record {
    result = is_inverted_whole column dst (size U column) exit l (p.room ∙ p.elements.whole) w.result;
  }

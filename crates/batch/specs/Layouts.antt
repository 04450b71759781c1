-- Elements in columns: what is written is read again, and other words stay.
use Rattle.std.specs.Prelude.{◌≡◌, ℕ, ◌+◌, ◌-◌, ◌<◌, ◌≤◌, ◌⊎◌, List, length, slice_index}
use Rattle.std.proofs.Common.{sym, ◌∙◌, ap, inl, inr, arith, length-set, get_or-set_same, get_or-set_other}
use Rattle.std.proofs.Math.Nat as N
use Rattle.std.proofs.Math.Decide.{dec_lt}
use Rattle.batch.specs.Batch.{Layout, word_layout, pair_layout}

pub record LayoutLaws (L : Layout) : Type 0 where
  pub width_pos : 0 < L.width
  pub length_write : (l : List ℕ) (i : ℕ) (x : L.El) → length (L.write l i x) ≡ length l
  pub read_same : (l : List ℕ) (i : ℕ) (x : L.El) → i + L.width ≤ length l → L.read (L.write l i x) i ≡ x
  pub word_other : (l : List ℕ) (i : ℕ) (x : L.El) (j : ℕ) → (j < i) ⊎ (i + L.width ≤ j) → slice_index (L.write l i x) j ≡ slice_index l j
  -- an element is its words
  pub read-words : (l m : List ℕ) (i k : ℕ) → ((j : ℕ) → j < L.width → slice_index l (i + j) ≡ slice_index m (k + j))
      → L.read l i ≡ L.read m k
  pub words-read : (l m : List ℕ) (i k : ℕ) → L.read l i ≡ L.read m k → (j : ℕ) → j < L.width
      → slice_index l (i + j) ≡ slice_index m (k + j)

word_at : (l m : List ℕ) (i k j : ℕ) → slice_index l i ≡ slice_index m k → j < 1 → slice_index l (i + j) ≡ slice_index m (k + j)
word_at l m i k j e h = ap (λ (n : ℕ). slice_index l n) (no_offset i j h) ∙ e ∙ ap (λ (n : ℕ). slice_index m n) (sym (no_offset k j h))
  where
    no_offset : (n j : ℕ) → j < 1 → n + j ≡ n
    no_offset n j h = omega arith

pub word_laws : LayoutLaws word_layout
word_laws = record {
  width_pos = omega arith;
  length_write = length-set;
  read_same = λ l i x h. get_or-set_same l i x 0 (omega arith);
  word_other = λ l i x j h. get_or-set_other l i j x 0 (outside_differs i j h);
  read-words = λ l m i k h.
      ap (λ (n : ℕ). slice_index l n) (sym (N.add-zero i)) ∙ h 0 (omega arith) ∙ ap (λ (n : ℕ). slice_index m n) (N.add-zero k);
  words-read = λ l m i k e j h. word_at l m i k j e h;
}
  where
    outside_differs : (i j : ℕ) → (j < i) ⊎ (i + 1 ≤ j) → ¬ (j ≡ i)
    outside_differs i j (inl h) e = omega arith
    outside_differs i j (inr h) e = omega arith

module _ (L : Layout) (laws : LayoutLaws L) where
  open L use {El, width, read, write}
  open laws use {width_pos, length_write, read_same, word_other, read-words, words-read}

  pub read_other : (l : List ℕ) (i : ℕ) (x : El) (k : ℕ) → (k + width ≤ i) ⊎ (i + width ≤ k) → read (write l i x) k ≡ read l k
  read_other l i x k h = read-words (write l i x) l k k (λ j lt. word_other l i x (k + j) (words_outside h j lt))
    where
      words_outside : (k + width ≤ i) ⊎ (i + width ≤ k) → (j : ℕ) → j < width → (k + j < i) ⊎ (i + width ≤ k + j)
      words_outside (inl h) j lt = inl (omega arith)
      words_outside (inr h) j lt = inr (omega arith)

  pair-words : (l m : List ℕ) (i k : ℕ) → ((j : ℕ) → j < width + width → slice_index l (i + j) ≡ slice_index m (k + j))
      → (j : ℕ) → j < width → slice_index l (i + width + j) ≡ slice_index m (k + width + j)
  pair-words l m i k h j lt =
      ap (λ (n : ℕ). slice_index l n) (N.add_assoc i width j) ∙ h (width + j) (omega arith)
      ∙ ap (λ (n : ℕ). slice_index m n) (sym (N.add_assoc k width j))

  words-pair : (l m : List ℕ) (i k : ℕ) → read l i ≡ read m k → read l (i + width) ≡ read m (k + width) → (j : ℕ) → j < width + width
      → slice_index l (i + j) ≡ slice_index m (k + j)
  words-pair l m i k e f j lt = elim (dec_lt j width) [ yes h ↦ words-read l m i k e j h | no h ↦ second_words (omega arith) ]
    where
      split : (n : ℕ) → width ≤ j → n + width + (j - width) ≡ n + j
      split n h = omega arith

      second_words : width ≤ j → slice_index l (i + j) ≡ slice_index m (k + j)
      second_words h =
          ap (λ (n : ℕ). slice_index l n) (sym (split i h)) ∙ words-read l m (i + width) (k + width) f (j - width) (omega arith)
          ∙ ap (λ (n : ℕ). slice_index m n) (split k h)

  pub pair_laws : LayoutLaws (pair_layout L)
  pair_laws = record {
    width_pos = omega (arith, width_pos);
    length_write = λ l i x. length_write (write l i x.0) (i + width) x.1 ∙ length_write l i x.0;
    read_same = λ l i x h t. (read_first l i x h t, read_second l i x h t);
    word_other = λ l i x j h. word_other (write l i x.0) (i + width) x.1 j (later i j h) ∙ word_other l i x.0 j (sooner i j h);
    read-words =
        λ l m i k h t. (read-words l m i k (λ j lt. h j (omega arith)) t, read-words l m (i + width) (k + width) (pair-words l m i k h) t);
    words-read = λ l m i k e. words-pair l m i k (ap (λ p. p.0) e) (ap (λ p. p.1) e);
  }
    where
      read_first : (l : List ℕ) (i : ℕ) (x : El × El) → i + (width + width) ≤ length l
          → read (write (write l i x.0) (i + width) x.1) i ≡ x.0
      read_first l i x h =
          read_other (write l i x.0) (i + width) x.1 i (inl (N.le_refl (i + width))) ∙ read_same l i x.0 (omega arith)

      read_second : (l : List ℕ) (i : ℕ) (x : El × El) → i + (width + width) ≤ length l
          → read (write (write l i x.0) (i + width) x.1) (i + width) ≡ x.1
      read_second l i x h = read_same (write l i x.0) (i + width) x.1 (omega (arith, length_write l i x.0))

      later : (i j : ℕ) → (j < i) ⊎ (i + (width + width) ≤ j) → (j < i + width) ⊎ (i + width + width ≤ j)
      later i j (inl h) = inl (omega arith)
      later i j (inr h) = inr (omega arith)

      sooner : (i j : ℕ) → (j < i) ⊎ (i + (width + width) ≤ j) → (j < i) ⊎ (i + width ≤ j)
      sooner i j (inl h) = inl h
      sooner i j (inr h) = inr (omega arith)

-- four elements written one by one
pub four_writes : (L : Layout) (l : List ℕ) (at : ℕ) (a b c d : L.El) {l₁ l₂ l₃ l₄ : List ℕ} → l₁ ≡ L.write l at a
    → l₂ ≡ L.write l₁ (at + L.width) b
    → l₃ ≡ L.write l₂ (at + (L.width + L.width)) c → l₄ ≡ L.write l₃ (at + (L.width + L.width) + L.width) d
    → l₄ ≡ (pair_layout (pair_layout L)).write l at ((a, b), (c, d))
four_writes L l at a b c d e f g h =
    h ∙ ap (λ (m : List ℕ). L.write m (at + (L.width + L.width) + L.width) d)
    (g ∙ ap (λ (m : List ℕ). L.write m (at + (L.width + L.width)) c) (f ∙ ap (λ (m : List ℕ). L.write m (at + L.width) b) e))

-- A part of a column, inverted by itself and put back in its place.
use Rattle.std.proofs.Common.{◌≡◌, ℕ, ◌+◌, ◌-◌, ◌*◌, ◌/◌, ◌<◌, ◌≤◌, List, ◌++◌, length, get_or, take, drop, sym, ap, ◌∙◌, arith}
use Rattle.std.proofs.Common.{length-take-le, get_or-drop, get_or-take, get_or-append-add}
use mathlib.Core.Path.{subst⁻¹}
use native.Mathlib.Nat as N
use native.Mathlib.Decide.{dec_lt}
use lib.ListN.{get_or-append}
use borrow.Rule.Slice.PartMut.{mid_of, put_mid, mid_len}
use Rattle.batch.specs.Passes.{Units, UnitColumn, Holds, size, at, inverses}
use Rattle.batch.specs.PassContracts.{Inverting, Inverted}
use Rattle.batch.proofs.Montgomery.{within}
use Rattle.batch.proofs.InvertedLists.{inverted_holds, length-inverted}

-- a part put back in its place
module _ (s m : ℕ) (xs ys : List ℕ) (within-xs : s + m ≤ length xs) (same_length : length ys ≡ m) where
  start : length (take s xs) ≡ s
  start = length-take-le s xs (omega arith)

  put_before : (j : ℕ) → j < s → get_or (put_mid s m xs ys) j 0 ≡ get_or xs j 0
  put_before j h = get_or-append (take s xs) (ys ++ drop m (drop s xs)) 0 j (omega (arith, start)) ∙ get_or-take s xs j 0 h

  put_within : (j : ℕ) → j < m → get_or (put_mid s m xs ys) (s + j) 0 ≡ get_or ys j 0
  put_within j h =
      ap (λ (k : ℕ). get_or (put_mid s m xs ys) (k + j) 0) (sym start) ∙ get_or-append-add (take s xs) (ys ++ drop m (drop s xs)) j 0
      ∙ get_or-append ys (drop m (drop s xs)) 0 j (omega arith)

  put_after : (j : ℕ) → s + m ≤ j → get_or (put_mid s m xs ys) j 0 ≡ get_or xs j 0
  put_after j h =
      ap (λ (k : ℕ). get_or (put_mid s m xs ys) k 0) (split (length (take s xs)) (length ys) (omega (arith, start)))
      ∙ get_or-append-add (take s xs) (ys ++ drop m (drop s xs)) (length ys + (j - s - m)) 0
      ∙ get_or-append-add ys (drop m (drop s xs)) (j - s - m) 0 ∙ get_or-drop m (drop s xs) (j - s - m) 0
      ∙ get_or-drop s xs (m + (j - s - m)) 0
      ∙ ap (λ (k : ℕ). get_or xs k 0) (sym (split s m (omega arith)))
    where
      split : (a b : ℕ) → a + b ≡ s + m → j ≡ a + (b + (j - s - m))
      split a b e = omega arith

-- the words from `from` on are those of before
pub record Kept (from : ℕ) (dst before : List ℕ) : Type 0 where
  pub kept : (j : ℕ) → from ≤ j → get_or dst j 0 ≡ get_or before j 0

-- the elements a to b of a column, which are its words `from` to `to`
module _ (U : Units) {column : List ℕ} {n : ℕ} (c : UnitColumn U n column) (a b : ℕ) (ordered : a ≤ b) (inside : b ≤ n) {from to : ℕ}
    (start_at : from ≡ a * U.layout.width) (end_at : to ≡ b * U.layout.width) where
  open U.layout use {El, width, read}
  open U.laws use {read-words, width_pos}

  abbrev part : List ℕ → List ℕ
  part = mid_of from (to - from)

  pub part_ordered : from ≤ to
  part_ordered = omega (arith, N.mul-le-mul_right {m = a} {n = b} width ordered)

  pub part_inside : to ≤ length column
  part_inside = omega (arith, c.whole, N.mul-le-mul_right {m = b} {n = n} width inside)

  between : (b - a) * width ≡ to - from
  between = omega (arith, N.add-mul a (b - a) width, ap (λ (k : ℕ). k * width) (N.add-sub_of_le ordered))

  -- element i of the part
  place : (i : ℕ) → a + i < b → from + (i * width + width) ≤ to
  place i h = omega (arith, N.add-mul a i width, within width (a + i) b h)

  part_at : (l : List ℕ) (i : ℕ) → a + i < b → at U (part l) i ≡ at U l (a + i)
  part_at l i h =
      read-words (part l) l (i * width) ((a + i) * width)
      (λ j lt. get_or-take (to - from) (drop from l) (i * width + j) 0 (omega (arith, place i h))
      ∙ get_or-drop from l (i * width + j) 0 ∙ ap (λ (k : ℕ). get_or l k 0) (omega (arith, N.add-mul a i width)))

  part_length : (l : List ℕ) → length column ≤ length l → length (part l) ≡ to - from
  part_length l h = mid_len from to l (N.le_trans part_inside h)

  pub part_size : size U (part column) ≡ b - a
  part_size =
      ap (λ (k : ℕ). k / width) (part_length column (omega arith) ∙ sym between) ∙ N.mul-div_cancel (b - a) width_pos

  pub part_inverting : (dst : List ℕ) → length column ≤ length dst → Inverting U (part column) (part dst)
  part_inverting dst long = record {
    elements = record {
      whole = part_length column (omega arith) ∙ sym between ∙ ap (λ (k : ℕ). k * width) (sym part_size);
      units = λ i h. subst⁻¹ U.Unit (part_at column i (omega (arith, part_size))) (c.units (a + i) (omega (arith, part_size)));
    };
    room = part_length dst long ∙ sym (part_length column (omega arith));
  }

  -- what inverting the part leaves, put back
  module _ (dst : List ℕ) (long : length column ≤ length dst) {exit : List ℕ} (i : Inverted U (part column) (part dst) exit) where
    abbrev after : List ℕ
    after = put_mid from (to - from) dst exit

    ends : from + (to - from) ≤ length dst
    ends = omega (arith, part_ordered, part_inside)

    exit-length : length exit ≡ to - from
    exit-length = ap length i.result ∙ length-inverted U (part column) (part dst) (size U (part column)) ∙ part_length dst long

    pub part_kept : (before : List ℕ) → Kept (a * width) dst before → Kept (b * width) after before
    part_kept before k = record {
      kept = λ j h.
          put_after from (to - from) dst exit ends exit-length j (omega (arith, part_ordered))
          ∙ k.kept j (omega (arith, part_ordered));
    }

    below_part : (k : ℕ) → k < a → at U after k ≡ at U dst k
    below_part k h =
        read-words after dst (k * width) (k * width)
        (λ j lt. put_before from (to - from) dst exit ends exit-length (k * width + j) (omega (arith, within width k a h)))

    in_part : (m : ℕ) → a + m < b → at U after (a + m) ≡ inverses U column (a + m)
    in_part m h =
        read-words after exit ((a + m) * width) (m * width)
        (λ j lt. ap (λ (k : ℕ). get_or after k 0) (omega (arith, N.add-mul a m width))
        ∙ put_within from (to - from) dst exit ends exit-length (m * width + j) (omega (arith, place m h)))
        ∙ ap (λ (l : List ℕ). at U l m) i.result
        ∙ (inverted_holds U (part column) (part dst) (size U (part column)) (omega (
          arith,
          part_size,
          between,
          part_length dst long,
          ap (λ (k : ℕ). k * width) part_size,
        ))).holds m (omega arith) (omega (arith, part_size))
        ∙ ap U.inverse (part_at column m h)

    pub part_holds : Holds U (inverses U column) 0 a dst → Holds U (inverses U column) 0 b after
    part_holds h =
        record { holds = λ k lo hi. elim (dec_lt k a) [ yes lt ↦ below_part k lt ∙ h.holds k lo lt | no ge ↦ above k hi (omega arith) ] }
      where
        above : (k : ℕ) → k < b → a + (k - a) ≡ k → at U after k ≡ inverses U column k
        above k hi q = ap (at U after) (sym q) ∙ in_part (k - a) (omega arith) ∙ ap (inverses U column) q

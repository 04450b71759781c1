-- Filling a window, and the table window after window: the words that are filled, and after them those still to come, are the whole.
use Rattle.std.proofs.Common.{◌≡◌, ℕ, suc, ◌+◌, ◌-◌, ◌*◌, ◌<◌, ◌≤◌, List, [], ◌∷◌, ◌++◌, length, take, set, sym, ap, ◌∙◌, subst, ap₂, append_assoc, append-nil, arith, lit<, length-append, length-set, length-take-le, take_all, take-suc-set, take_at}
use native.Mathlib.Nat as N
use borrow.Rule.Slice.PartMut.{mid_of, post_of, put_mid, mid_len, same_len_mid}
use Rattle.algebra.specs.Circle.{plus, zero_point, multiple}
use Rattle.fields.specs.Words.{words31}
use Rattle.fields.specs.declared.m31.M31.{M31}
use Rattle.circle.specs.Point.{generator, point_of, of_point, Reduced}
use Rattle.circle.specs.Table.{windows, digits_of, run, window_words, next_base, windows_from, table_words}
use Rattle.circle.specs.Table.{table_length, FillingWindow, FilledWindow}
use Rattle.circle.specs.TableRule.{run_length, window_length, table_length_lem}
use Rattle.circle.specs.declared.point.CirclePoint.{CirclePoint}

-- the point p and the run after it, where its two words are stored
point_stored : (words : List ℕ) (digit m : ℕ) (base p : ℕ × ℕ) → 2 * digit + 1 < length words
    → take (2 * (digit + 1)) (set (set words (2 * digit) p.0) (2 * digit + 1) p.1) ++ run m base (plus words31 base p)
    ≡ take (2 * digit) words ++ run (suc m) base p
unfolding run
point_stored words digit m base p h =
    ap (λ (l : List ℕ). l ++ run m base (plus words31 base p)) stored
    ∙ append_assoc (take (2 * digit) words ++ (p.0 ∷ [])) (p.1 ∷ []) _
    ∙ append_assoc (take (2 * digit) words) (p.0 ∷ []) _
  where
    x_stored : List ℕ
    x_stored = set words (2 * digit) p.0

    to_suc : 2 * digit + 1 ≡ suc (2 * digit)
    to_suc = omega arith

    to_suc_suc : 2 * (digit + 1) ≡ suc (2 * digit + 1)
    to_suc_suc = omega arith

    stored : take (2 * (digit + 1)) (set x_stored (2 * digit + 1) p.1) ≡ (take (2 * digit) words ++ (p.0 ∷ [])) ++ (p.1 ∷ [])
    stored =
        ap (λ (k : ℕ). take k (set x_stored (2 * digit + 1) p.1)) to_suc_suc
        ∙ take-suc-set x_stored (2 * digit + 1) p.1 (omega (arith, length-set words (2 * digit) p.0))
        ∙ ap (λ (l : List ℕ). l ++ (p.1 ∷ []))
        (ap (λ (k : ℕ). take k x_stored) to_suc ∙ take-suc-set words (2 * digit) p.0 (omega arith))

-- a window of n digits, so many of them filled, and the point p of the next
pub record WindowThrough (n : ℕ) (base : CirclePoint M31) (words : List ℕ) (digit : ℕ) (p : CirclePoint M31) : Type 0 where
  pub inside : digit ≤ n
  pub long : length words ≡ 2 * n
  pub reduced : Reduced p
  pub point : point_of p ≡ multiple words31 digit (point_of base)
  pub whole : take (2 * digit) words ++ run (n - digit) (point_of base) (point_of p) ≡ run n (point_of base) (zero_point words31)

module _ {n : ℕ} {base : CirclePoint M31} where
  pub window_start : {words : List ℕ} {p : CirclePoint M31} → FillingWindow n words base → p ≡ of_point (zero_point words31)
      → WindowThrough n base words 0 p
  unfolding multiple
  window_start f e = record {
    inside = omega arith;
    long = f.long;
    reduced = subst (λ (p : CirclePoint M31). Reduced p) (sym e) (lit< tt, lit< tt);
    point = ap (λ (p : CirclePoint M31). point_of p) e;
    whole = ap₂ (λ (m : ℕ) (p : CirclePoint M31). run m (point_of base) (point_of p)) (N.sub-zero n) e;
  }

  pub window_next : {words : List ℕ} {digit : ℕ} {p q : CirclePoint M31} → WindowThrough n base words digit p → digit < n
      → point_of q ≡ plus words31 (point_of base) (point_of p) → Reduced q
      → WindowThrough n base (set (set words (2 * digit) p.x.0) (2 * digit + 1) p.y.0) (digit + 1) q
  unfolding multiple
  window_next {words} {digit} {p} {q} t h e r = record {
    inside = omega arith;
    long = length-set (set words (2 * digit) p.x.0) (2 * digit + 1) p.y.0 ∙ length-set words (2 * digit) p.x.0 ∙ t.long;
    reduced = r;
    point = e ∙ ap (plus words31 (point_of base)) t.point ∙ ap (λ (k : ℕ). multiple words31 k (point_of base)) next;
    whole =
        ap (λ (r : ℕ × ℕ). take (2 * (digit + 1)) stored ++ run (n - (digit + 1)) (point_of base) r) e
        ∙ point_stored words digit (n - (digit + 1)) (point_of base) (point_of p) (omega (arith, t.long))
        ∙ ap (λ (m : ℕ). take (2 * digit) words ++ run m (point_of base) (point_of p)) left ∙ t.whole;
  }
    where
      stored : List ℕ
      stored = set (set words (2 * digit) p.x.0) (2 * digit + 1) p.y.0

      next : suc digit ≡ digit + 1
      next = omega arith

      left : suc (n - (digit + 1)) ≡ n - digit
      left = omega arith

  pub window_end : {words : List ℕ} {digit : ℕ} {p : CirclePoint M31} → WindowThrough n base words digit p → n ≤ digit
      → FilledWindow n base words p
  unfolding run
  window_end {words} {digit} {p} t h = record {
    filled = sym (take_all (2 * digit) words (omega (arith, t.long))) ∙ sym (append-nil (take (2 * digit) words))
        ∙ ap (λ (m : ℕ). take (2 * digit) words ++ run m (point_of base) (point_of p)) none ∙ t.whole;
    next_base = t.point ∙ ap (λ (k : ℕ). multiple words31 k (point_of base)) all;
    reduced = t.reduced;
  }
    where
      none : 0 ≡ n - digit
      none = omega arith

      all : digit ≡ n
      all = N.le_antisymm t.inside h

-- the table, so many windows of it filled, up to the word `start`, and the base of the next
pub record TableThrough (table : List ℕ) (base : CirclePoint M31) (start window : ℕ) : Type 0 where
  pub inside : window ≤ windows
  pub long : length table ≡ table_length
  pub begins : start ≤ table_length
  pub reduced : Reduced base
  pub whole : take start table ++ windows_from (windows - window) window (point_of base) ≡ table_words

-- the next window, and those after it
next_window : (window : ℕ) (base : ℕ × ℕ) → window < windows
    → windows_from (windows - window) window base
    ≡ window_words window base ++ windows_from (windows - (window + 1)) (window + 1) (next_base window base)
unfolding windows_from
next_window window base h =
    ap (λ (n : ℕ). windows_from n window base) one_less
    ∙ ap (λ (w : ℕ). window_words window base ++ windows_from (windows - (window + 1)) w (next_base window base)) next
  where
    one_less : windows - window ≡ suc (windows - (window + 1))
    one_less = omega arith

    next : suc window ≡ window + 1
    next = omega arith

pub table_start : {table : List ℕ} {base : CirclePoint M31} → length table ≡ table_length → base ≡ of_point generator
    → TableThrough table base 0 0
unfolding table_words
table_start l e = record {
  inside = omega arith;
  long = l;
  begins = omega arith;
  reduced = subst (λ (p : CirclePoint M31). Reduced p) (sym e) (lit< tt, lit< tt);
  whole = ap (λ (p : CirclePoint M31). windows_from windows 0 (point_of p)) e;
}

module _ {table : List ℕ} {base : CirclePoint M31} {start window : ℕ} (t : TableThrough table base start window) where
  taken : length (take start table) ≡ start
  taken = length-take-le start table (omega (arith, t.long, t.begins))

  module _ (h : window < windows) {n : ℕ} (e : n ≡ digits_of window) where
    pub table_room : start + 2 * n ≤ table_length
    table_room =
        omega (
          arith,
          e,
          taken,
          table_length_lem,
          ap length t.whole,
          length-append (take start table) (windows_from (windows - window) window (point_of base)),
          ap length (next_window window (point_of base) h),
          length-append (window_words window (point_of base)) later,
          window_length window (point_of base),
        )
      where
        later : List ℕ
        later = windows_from (windows - (window + 1)) (window + 1) (next_base window (point_of base))

    pub table_part : FillingWindow n (mid_of start (start + 2 * n - start) table) base
    table_part = record {
      long = mid_len start (start + 2 * n) table (omega (arith, t.long, table_room)) ∙ N.add-sub_cancel_left start (2 * n);
      reduced = t.reduced;
    }

    pub table_next : {part : List ℕ} {next : CirclePoint M31} → FilledWindow n base part next
        → TableThrough (put_mid start (start + 2 * n - start) table part) next (start + 2 * n) (window + 1)
    table_next {part} {next} f = record {
      inside = omega arith;
      long = same_len_mid start size table part (part_long ∙ sym table_part.long) ∙ t.long;
      begins = table_room;
      reduced = f.reduced;
      whole =
          ap (λ (words : List ℕ). words ++ later (point_of next)) filled ∙ append_assoc (take start table) part (later (point_of next))
          ∙ ap (λ (words : List ℕ). take start table ++ words) rest ∙ t.whole;
    }
      where
        size : ℕ
        size = start + 2 * n - start

        part_long : length part ≡ 2 * n
        part_long = ap length f.filled ∙ run_length n (point_of base) (zero_point words31)

        later : ℕ × ℕ → List ℕ
        later p = windows_from (windows - (window + 1)) (window + 1) p

        rest : part ++ later (point_of next) ≡ windows_from (windows - window) window (point_of base)
        rest =
            ap₂ (λ (words : List ℕ) (p : ℕ × ℕ). words ++ later p) f.filled f.next_base
            ∙ ap (λ (m : ℕ). run m (point_of base) (zero_point words31) ++ later (multiple words31 m (point_of base))) e
            ∙ sym (next_window window (point_of base) h)

        filled : take (start + 2 * n) (put_mid start size table part) ≡ take start table ++ part
        filled =
            ap (take (start + 2 * n)) (sym (append_assoc (take start table) part (post_of start size table)))
            ∙ take_at (take start table ++ part) (post_of start size table) (start + 2 * n)
            (length-append (take start table) part ∙ omega (arith, taken, part_long))

  pub table_end : windows ≤ window → table ≡ table_words
  unfolding windows_from
  table_end h =
      sym (take_all start table (omega (arith, t.long, table_length_lem, taken, ap length front))) ∙ front
    where
      none : 0 ≡ windows - window
      none = omega arith

      front : take start table ≡ table_words
      front = sym (append-nil (take start table)) ∙ ap (λ (n : ℕ). take start table ++ windows_from n window (point_of base)) none ∙ t.whole

pub ruleset tables = (table_start, table_room, table_next, table_end)

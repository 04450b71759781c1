-- A block in the middle of a pass over its two halves: of each half the first words are written.
use Prim.Native.Nat.{ℕ, zero, suc, ◌+◌, ◌<◌, ◌≤◌}
use mathlib.Core.Path.{◌≡◌, refl, sym, ◌∙◌, ap}
use mathlib.Core.List.{List, [], ◌∷◌, ◌++◌, append-nil}
use native.Mathlib.Nat as N
use native.Mathlib.Numerals.{add-one}
use native.Mathlib.Omega.{arith}
use lib.ListN.{length, get_or, take, drop, set, length-append, length-take, length-drop, get_or-append, drop_of_length-le}
use lib.Seq.{drop-cons, take-suc, set_at, get_or_at, append_snoc}
use lib.Seq.{length-take-le, set-append_left, get_or-append-add, take_all, get_or-take, get_or-drop}
use Rattle.column.specs.Butterflies.{on_halves}
use Rattle.column.specs.Lists.{zip_length, zip-at}

-- the first i words of l, then those of a
abbrev pub over : List ℕ → List ℕ → ℕ → List ℕ
over a l i = take i l ++ drop i a

set_append_right : (xs ys : List ℕ) (n i a : ℕ) → length xs ≡ n → set (xs ++ ys) (n + i) a ≡ xs ++ set ys i a
set_append_right [] ys n i a e = rw (← e, N.zero-add) refl
set_append_right (x ∷ xs) ys zero i a e = absurd (omega arith)
set_append_right (x ∷ xs) ys (suc n) i a e = rw (N.suc-add) (ap (λ (r : List ℕ). x ∷ r) (set_append_right xs ys n i a (omega arith)))

module _ (a l : List ℕ) (i : ℕ) (e : length l ≡ length a) where
  pub over-length : i ≤ length a → length (over a l i) ≡ length a
  over-length h = simp (length-append, length-take, length-drop) (omega arith)

  pub over-at : i < length a → get_or (over a l i) i 0 ≡ get_or a i 0
  over-at h = rw (drop-cons a i 0) (get_or_at (take i l) (get_or a i 0) (drop (suc i) a) 0 i (length-take-le i l (omega arith)))

  pub over_next : i < length a → set (over a l i) i (get_or l i 0) ≡ over a l (suc i)
  over_next h =
      let k : i < length l = omega arith in
      rw (drop-cons a i 0)
      (set_at (take i l) (get_or a i 0) (drop (suc i) a) (get_or l i 0) i (length-take-le i l (omega arith))
      ∙ sym (append_snoc (take i l) (get_or l i 0) (drop (suc i) a))
      ∙ ap (λ (r : List ℕ). r ++ drop (suc i) a) (sym (take-suc l i 0 k)))

pub over_all : (a l : List ℕ) (n : ℕ) → length l ≡ n → length a ≡ n → over a l n ≡ l
over_all a l n e d = rw (take_all n l (omega arith), drop_of_length-le a {i = n} (omega arith)) (append-nil l)

-- two lists side by side, each written up to i
module _ (a b l m : List ℕ) (half i : ℕ) (ea : length a ≡ half) (eb : length b ≡ half) (el : length l ≡ half) (em : length m ≡ half)
    (h : i < half) where
  first_at : get_or (over a l i ++ over b m i) i 0 ≡ get_or a i 0
  first_at =
      get_or-append (over a l i) (over b m i) 0 i (omega (arith, over-length a l i (omega arith) (omega arith)))
      ∙ over-at a l i (omega arith) (omega arith)

  second_at : get_or (over a l i ++ over b m i) (half + i) 0 ≡ get_or b i 0
  second_at =
      let n : length (over a l i) ≡ half = over-length a l i (omega arith) (omega arith) ∙ ea in
      rw (← n) (get_or-append-add (over a l i) (over b m i) i 0) ∙ over-at b m i (omega arith) (omega arith)

  both_next : set (set (over a l i ++ over b m i) i (get_or l i 0)) (half + i) (get_or m i 0) ≡ over a l (i + 1) ++ over b m (i + 1)
  both_next =
      let n : length (over a l i) ≡ length a = over-length a l i (omega arith) (omega arith) in
      let n' : length (over a l (suc i)) ≡ half = over-length a l (suc i) (omega arith) (omega arith) ∙ ea in
      rw (add-one)
      (ap (λ (r : List ℕ). set r (half + i) (get_or m i 0))
      (set-append_left (over a l i) (over b m i) i (get_or l i 0) (omega arith) ∙ ap (λ (r : List ℕ). r ++ over b m i) (over_next a
      l i (omega arith) (omega arith)))
      ∙ set_append_right (over a l (suc i)) (over b m i) half i (get_or m i 0) n'
      ∙ ap (λ (r : List ℕ). over a l (suc i) ++ r) (over_next b m i (omega arith) (omega arith)))

-- f of each pair is written to the lower half, g to the upper one, up to i
abbrev pub halfway : (ℕ → ℕ → ℕ) → (ℕ → ℕ → ℕ) → List ℕ → ℕ → ℕ → List ℕ
halfway f g c half i = over (take half c) (on_halves f half c) i ++ over (drop half c) (on_halves g half c) i

module _ (f g : ℕ → ℕ → ℕ) (c : List ℕ) (half : ℕ) (size : length c ≡ half + half) where
  lower : length (take half c) ≡ half
  lower = length-take-le half c (omega arith)

  upper : length (drop half c) ≡ half
  upper = length-drop half c ∙ omega arith

  halves : (h : ℕ → ℕ → ℕ) → length (on_halves h half c) ≡ half
  halves h = zip_length h (take half c) (drop half c) (upper ∙ sym lower) ∙ lower

  pub halfway_end : (i : ℕ) → i ≤ half → half ≤ i → halfway f g c half i ≡ on_halves f half c ++ on_halves g half c
  halfway_end i le ge =
      let e : i ≡ half = omega arith in
      rw (
        e,
        over_all (take half c) (on_halves f half c) half (halves f) lower,
        over_all (drop half c) (on_halves g half c) half
            (halves g) upper,
      )

  -- in a turn
  module _ (column : List ℕ) (i : ℕ) (h : i < half) (e : column ≡ halfway f g c half i) where
    first : get_or column i 0 ≡ get_or c i 0
    first =
        ap (λ (l : List ℕ). get_or l i 0) e
        ∙ first_at (take half c) (drop half c) (on_halves f half c) (on_halves g half c) half i lower upper (halves f) (halves g) h
        ∙ get_or-take half c i 0 h

    second : get_or column (half + i) 0 ≡ get_or c (half + i) 0
    second =
        ap (λ (l : List ℕ). get_or l (half + i) 0) e
        ∙ second_at (take half c) (drop half c) (on_halves f half c) (on_halves g half c) half i lower upper (halves f) (halves g) h
        ∙ get_or-drop half c i 0

    pair : (k : ℕ → ℕ → ℕ) (x : ℕ) → x ≡ k (get_or column i 0) (get_or column (half + i) 0) → get_or (on_halves k half c) i 0 ≡ x
    pair k x ex =
        zip-at 0 k (take half c) (drop half c) i (upper ∙ sym lower) (omega (arith, lower))
        ∙ rw (get_or-take half c i 0 h, get_or-drop) (sym (ex ∙ rw (first, second)))

    pub halfway_next : (x y : ℕ) → x ≡ f (get_or column i 0) (get_or column (half + i) 0) → y ≡ g (get_or column i 0) (get_or column
        (half + i) 0)
        → set (set column i x) (half + i) y ≡ halfway f g c half (i + 1)
    halfway_next x y ex ey =
        rw (e, ← pair f x ex, ← pair g y ey)
        (both_next (take half c) (drop half c) (on_halves f half c) (on_halves g half c) half i lower upper (halves f) (halves g) h)

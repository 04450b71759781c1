-- A column in the middle of a loop over its blocks: b of them are rewritten.
use Prim.Native.Nat.{ℕ, suc, ◌+◌, ◌-◌, ◌*◌, ◌<◌, ◌≤◌}
use mathlib.Core.Path.{◌≡◌, refl, sym, ◌∙◌, ap, ap₂, subst}
use mathlib.Core.List.{List, ◌++◌}
use native.Mathlib.Nat as N
use native.Mathlib.Omega.{arith}
use lib.ListN.{length, take, drop, length-drop}
use lib.Seq.{length-take-le, take-append-add, take_at}
use Rattle.column.specs.Blocks.{blocks, Keeps, blocks-length, blocks_next}
use Rattle.transform.specs.Tree.{Each, PartlyReduced, reduced_words}
use Rattle.transform.proofs.WordLaws.{each_append}
use Rattle.transform.proofs.Partly.{partly_take, partly_drop, partly_spliced, reduced-length, reduced-part, reduced_spliced}

-- F on the blocks of w words of c, from number i on, count of them
module _ (count w : ℕ) (F : ℕ → List ℕ → List ℕ) (i : ℕ) (c : List ℕ) where
  -- after b turns
  pub record Turn (b : ℕ) (column : List ℕ) : Type 0 where
    pub before : b ≤ count
    pub same : length column ≡ length c
    pub is : column ≡ blocks b w F i c

  pub turn_start : Turn 0 c
  unfolding blocks
  turn_start = record { before = omega arith; same = refl; is = refl }

  pub turn_end : (b : ℕ) (column : List ℕ) → Turn b column → count ≤ b → column ≡ blocks count w F i c
  turn_end b column t h = let all : b ≡ count = omega (arith, t.before) in t.is ∙ ap (λ (n : ℕ). blocks n w F i c) all

  -- in a turn
  module _ (size : length c ≡ count * w) (b : ℕ) (column : List ℕ) (t : Turn b column) (h : b < count) (start end : ℕ) (es : start ≡
      b * w) (ee : end ≡ start + w) where
    room : suc b * w ≤ length c
    room = omega (arith, N.mul-le-mul_right {m = suc b} {n = count} w h, size)

    pub inside : end ≤ length column
    inside = omega (arith, room, t.same, N.suc-mul b w)

    width : end - start ≡ w
    width = omega arith

    pub part_length : length (take (end - start) (drop start column)) ≡ w
    part_length = length-take-le (end - start) (drop start column) (omega (arith, length-drop start column, inside)) ∙ width

    pub turn_next : Keeps w F → (q : List ℕ) → q ≡ F (i + b) (take (end - start) (drop start column))
        → Turn (b + 1) (take start column ++ (q ++ drop (end - start) (drop start column)))
    turn_next keeps q e = record {
      before = omega arith;
      same = ap length is ∙ blocks-length (b + 1) w F keeps i c (omega (arith, room, ap (λ (n : ℕ). n * w) more));
      is = is;
    }
      where
        more : b + 1 ≡ suc b
        more = omega arith

        is : take start column ++ (q ++ drop (end - start) (drop start column)) ≡ blocks (b + 1) w F i c
        is =
            ap (λ (r : List ℕ). take start column ++ (r ++ drop (end - start) (drop start column))) e
            ∙ ap₂ (λ (s n : ℕ). take s column ++ (F (i + b) (take n (drop s column)) ++ drop n (drop s column))) es width
            ∙ ap (λ (l : List ℕ). take (b * w) l ++ (F (i + b) (take w (drop (b * w) l)) ++ drop w (drop (b * w) l))) t.is
            ∙ blocks_next b w F keeps i c room ∙ ap (λ (n : ℕ). blocks n w F i c) (sym more)

-- the same on what partly reduced words stand for
module _ (count w : ℕ) (F : ℕ → List ℕ → List ℕ) (i : ℕ) (c : List ℕ) where
  pub record PartlyTurn (b : ℕ) (column : List ℕ) : Type 0 where
    pub turn : Turn count w F i (reduced_words c) b (reduced_words column)
    pub partly : PartlyReduced column

  pub partly_start : PartlyReduced c → PartlyTurn 0 c
  partly_start p = record { turn = turn_start count w F i (reduced_words c); partly = p }

  pub partly_same : (b : ℕ) (column : List ℕ) → PartlyTurn b column → length column ≡ length c
  partly_same b column t = sym (reduced-length column) ∙ t.turn.same ∙ reduced-length c

  module _ (size : length c ≡ count * w) (b : ℕ) (column : List ℕ) (t : PartlyTurn b column) (h : b < count) (start end : ℕ)
      (es : start ≡ b * w) (ee : end ≡ start + w) where
    whole : length (reduced_words c) ≡ count * w
    whole = reduced-length c ∙ size

    pub partly_inside : (end ≤ length column) × (length column ≡ length c)
    partly_inside = (
      omega (
        arith,
        inside count w F i (reduced_words c) whole b (reduced_words column) t.turn h start end es ee,
        reduced-length
            column,
      ),
      partly_same b column t,
    )

    pub partly_part_length : length (take (end - start) (drop start column)) ≡ w
    partly_part_length =
        sym (reduced-length (take (end - start) (drop start column))) ∙ ap length (reduced-part (end - start) start column)
        ∙ part_length count w F i (reduced_words c) whole b (reduced_words column) t.turn h start end es ee

    pub partly_part : PartlyReduced (take (end - start) (drop start column))
    partly_part = partly_take (end - start) (drop start column) (partly_drop start column t.partly)

    pub partly_next : Keeps w F → (q : List ℕ) → reduced_words q ≡ F (i + b) (reduced_words (take (end - start) (drop start
        column))) → PartlyReduced q
        → PartlyTurn (b + 1) (take start column ++ (q ++ drop (end - start) (drop start column)))
    partly_next keeps q e p = record {
      turn = subst (Turn count w F i (reduced_words c) (b + 1)) (sym (reduced_spliced start (end - start) column q))
          (turn_next count w F i (reduced_words c) whole b (reduced_words column) t.turn h start end es ee keeps (reduced_words q)
          (e ∙ ap (F (i + b)) (reduced-part (end - start) start column)));
      partly = partly_spliced start (end - start) column q t.partly p;
    }

-- a property of the first n words is one of n + m where the m words after them are rewritten by such words
pub spliced_prefix : (fits : ℕ → Type 0) → fits 0 → (column q rest : List ℕ) (n m s : ℕ) → n ≤ length column → length q ≡ m → s ≡ n + m
    → Each fits (take n column) → Each fits q → Each fits (take s (take n column ++ (q ++ rest)))
spliced_prefix fits none column q rest n m s h e es wc wq =
    let first : length (take n column) ≡ n = length-take-le n column h in
    let at : s ≡ length (take n column) + m = omega arith in
    let is : take s (take n column ++ (q ++ rest)) ≡ take n column ++ q =
    ap (λ (k : ℕ). take k (take n column ++ (q ++ rest))) at ∙ take-append-add (take n column) (q ++ rest) m ∙ ap (λ (l : List ℕ).
    take n column ++ l) (take_at q rest m e) in
    λ k. rw is (each_append fits none (take n column) q wc wq k)

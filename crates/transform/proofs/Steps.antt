-- The steps that double the points of a level: with bit s, those found so far lie 2^(30 - s) further.
use Prim.Native.Nat.{ℕ, suc, ◌+◌, ◌-◌, ◌*◌, ◌/◌, ◌^◌, ◌≤◌, ◌<◌}
use mathlib.Core.Path.{◌≡◌, sym, ◌∙◌, ap, subst}
use mathlib.Core.List.{List}
use native.Mathlib.Nat as N
use native.Mathlib.Decide.{dec_lt}
use native.Mathlib.Omega.{arith}
use lib.ListN.{length, get_or}
use lib.Pow as W
use Rattle.algebra.specs.M31.{P}
use Rattle.algebra.specs.Circle.{plus}
use Rattle.fields.specs.Words.{words31}
use Rattle.fields.specs.Inverse.{m31_representation}
use Rattle.circle.specs.Index.{index_point}
use Rattle.circle.specs.Table.{point_at}
use Rattle.transform.specs.Tree.{Points, LastLevel, Extended, Stepped}
use Rattle.transform.specs.Twiddles.{even_or_odd}
use Rattle.transform.proofs.Pairs.{written, written-first, written_second}
use Rattle.transform.proofs.Filling.{first_point, points_next}

-- words two by two
by_points : (C : ℕ → Type 0) (count : ℕ) → ((c : ℕ) → c < count → C (2 * c) × C (2 * c + 1)) → (j : ℕ) → j < 2 * count → C j
by_points C count each j h =
    even_or_odd j
    (λ e. let at : j ≡ 2 * (j / 2) = omega arith in subst C (sym at) (each (j / 2) (omega arith)).0)
    (λ e. let at : j ≡ 2 * (j / 2) + 1 = omega arith in subst C (sym at) (each (j / 2) (omega arith)).1)

module _ (s count : ℕ) (lo : 2 ≤ s) (two : count ≡ 2 ^ (s - 2)) where
  pub half_points : 2 * count ≡ 2 ^ (s - 1)
  half_points =
      let bits : s - 1 ≡ suc (s - 2) = omega arith in
      omega (arith, ap (λ (t : ℕ). 2 ^ t) bits ∙ N.pow-succ' 2 (s - 2))

  pub all_points : 4 * count ≡ 2 ^ s
  all_points =
      let bits : s ≡ suc (s - 1) = omega arith in
      omega (arith, half_points, ap (λ (t : ℕ). 2 ^ t) bits ∙ N.pow-succ' 2 (s - 1))

  pub next_step : (step twice : ℕ × ℕ) (level middle exit : List ℕ) → s ≤ 28 → twice ≡ index_point (2 ^ (31 - s))
      → Stepped (s - 1) twice level middle → Extended count step middle exit → Stepped s step level exit
  next_step step twice level middle exit hi e t x = record {
    below = λ j h. by_points (λ j. get_or exit j 0 < P) (2 * count)
        (λ c l. elim (dec_lt c count) [ yes b ↦ kept c b | no g ↦ added c (c - count) (omega arith) (omega arith) ]) j
        (omega (arith, all_points));
    points = λ n a b f p.
        let before : Points n (2 ^ (s - 2)) middle =
        subst (λ (k : ℕ). Points n (2 ^ k) middle) less (t.points n (omega arith) b (e ∙ ap (λ (k : ℕ). index_point (2 ^ k)) bit) p) in
        subst (λ (k : ℕ). Points n (2 ^ k) exit) more (points_next s count lo (omega arith) b two before step exit f x);
  }
    where
      bit : 31 - s ≡ 30 - (s - 1)
      bit = omega arith

      less : s - 1 - 1 ≡ s - 2
      less = omega arith

      more : s + 1 - 2 ≡ s - 1
      more = omega arith

      kept : (c : ℕ) → c < count → (get_or exit (2 * c) 0 < P) × (get_or exit (2 * c + 1) 0 < P)
      kept c b =
          let point : point_at exit c ≡ point_at middle c = x.kept c b in (
            rw (ap (λ (p : ℕ × ℕ). p.0) point) (t.below (2 * c) (omega (arith, half_points))),
            rw (ap (λ (p : ℕ × ℕ). p.1) point) (t.below (2 * c + 1) (omega (arith, half_points))),
          )

      added : (c d : ℕ) → c ≡ count + d → d < count → (get_or exit (2 * c) 0 < P) × (get_or exit (2 * c + 1) 0 < P)
      added c d q l =
          let point : point_at exit c ≡ plus words31 (point_at middle d) step = ap (point_at exit) q ∙ x.added d l in (
            rw (ap (λ (p : ℕ × ℕ). p.0) point) (m31_representation.add-reduced _ _),
            rw (ap (λ (p : ℕ × ℕ). p.1) point) (m31_representation.add-reduced _ _),
          )

-- ---- the whole level, from its first point (x, y) of index 2^(30 - n)

module _ (n : ℕ) (level : List ℕ) (l : LastLevel n level) where
  pub level_room : 2 ^ (n - 2) ≡ length level
  level_room =
      let bits : n ≡ 2 + (n - 2) = omega (arith, l.least) in
      omega (arith, l.size, ap (λ (t : ℕ). 2 ^ t) bits ∙ W.pow-add 2 2 (n - 2))

  pub two_words : 2 ≤ length level
  two_words = omega (arith, level_room, W.pow_mono {i = 1} {j = n - 2} (omega (arith, l.least)))

  pub first_x : (x y : ℕ) → get_or (written level 0 x y) 0 0 ≡ x
  first_x x y = written-first level 0 x y (omega (arith, two_words))

  pub first_y : (x y : ℕ) → get_or (written level 0 x y) 1 0 ≡ y
  first_y x y = written_second level 0 x y (omega (arith, two_words))

  pub level_filled : (x y : ℕ) (step : ℕ × ℕ) (exit : List ℕ) → (x, y) ≡ index_point (2 ^ (30 - n)) → step ≡ index_point (2 ^ (32 - n))
      → Stepped (n - 2) step (written level 0 x y) exit → Points n (2 ^ (n - 3)) exit
  level_filled x y step exit e f t =
      let bit : 32 - n ≡ 30 - (n - 2) = omega (arith, l.least, l.most) in
      let fewer : n - 2 - 1 ≡ n - 3 = omega arith in
      subst (λ (k : ℕ). Points n (2 ^ k) exit) fewer
      (t.points n (omega (arith, l.least)) l.most (f ∙ ap (λ (k : ℕ). index_point (2 ^ k)) bit)
      (first_point n x y level (omega (arith, two_words)) e))

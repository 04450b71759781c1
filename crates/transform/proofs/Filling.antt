-- The steps that fill the tree: points by additions, then the levels above by doubling.
use Prim.Native.Nat.{ℕ, suc, ◌+◌, ◌-◌, ◌*◌, ◌/◌, ◌^◌, ◌≤◌, ◌<◌}
use mathlib.Core.Path.{◌≡◌, sym, ◌∙◌, ap, ap₂}
use mathlib.Core.List.{List, ◌++◌}
use native.Mathlib.Nat as N
use native.Mathlib.Decide.{dec_lt}
use native.Mathlib.Omega.{arith}
use lib.ListN.{length, get_or, set, take, drop, get_or-append}
use lib.Seq.{get_or-append-add, length-take-le}
use lib.Pow as W
use borrow.Rule.Slice.PartMut.{mid_of, put_mid, mid_len, same_len_mid}
use Rattle.algebra.specs.M31.{P}
use Rattle.algebra.specs.Circle.{plus, double_x}
use Rattle.fields.specs.Words.{words31}
use Rattle.circle.specs.Index.{index_point}
use Rattle.circle.specs.IndexPoints.{index_below}
use Rattle.domains.specs.BitReversed.{half_index, half_point}
use Rattle.domains.proofs.BitReversed.{half_further, half_index_start, half_add_quarter}
use Rattle.domains.proofs.Doubled.{half_double_x}
use Rattle.circle.specs.Table.{point_at}
use Rattle.transform.specs.Tree.{LinesFrom, Points, Extended, Doubled}
use Rattle.transform.specs.Twiddles.{even_or_odd}
use Rattle.transform.proofs.Pairs.{written, written-first, written_second}

-- ---- points count, .., count + c - 1 of a level are added

pub record Adding (count c : ℕ) (step : ℕ × ℕ) (level now : List ℕ) : Type 0 where
  pub size : length now ≡ length level
  pub kept : (j : ℕ) → j < 2 * count → get_or now j 0 ≡ get_or level j 0
  pub added : (k : ℕ) → k < c → point_at now (count + k) ≡ plus words31 (point_at level k) step

-- ---- the last level: every fourth point of the half coset

pub first_point : (n x y : ℕ) (level : List ℕ) → 1 < length level → (x, y) ≡ index_point (2 ^ (30 - n))
    → Points n 1 (set (set level 0 x) 1 y)
first_point n x y level l e = record {
  each = λ c h.
      let first : c ≡ 0 = omega arith in
      ap (point_at (written level 0 x y)) first
      ∙ (λ i. (written-first level 0 x y (omega arith) i, written_second level 0 x y l i))
      ∙ e ∙ ap index_point (sym (half_index_start n)) ∙ ap (λ (c : ℕ). half_point n (4 * c)) (sym first);
}

module _ {n : ℕ} {level : List ℕ} (s count : ℕ) (lo : 2 ≤ s) (more : s + 1 < n) (hi : n ≤ 30) (two : count ≡ 2 ^ (s - 2))
    (p : Points n (2 ^ (s - 2)) level) where
  four : 2 ^ s ≡ 4 * count
  four =
      let bits : s ≡ suc (suc (s - 2)) = omega arith in
      omega (arith, ap (λ (t : ℕ). 2 ^ t) bits, N.two-pow-succ (suc (s - 2)), N.two-pow-succ (s - 2))

  pub points_next : (step : ℕ × ℕ) (exit : List ℕ) → step ≡ index_point (2 ^ (30 - s)) → Extended count step level exit
      → Points n (2 ^ (s + 1 - 2)) exit
  points_next step exit e x = record {
    each = λ c h. elim (dec_lt c count) [
      | yes l ↦ x.kept c l ∙ p.each c (omega arith)
      | no g ↦ above c (c - count) (omega arith) (omega (arith, twice))
    ];
  }
    where
      twice : 2 ^ (s + 1 - 2) ≡ 2 * 2 ^ (s - 2)
      twice =
          let bits : s + 1 - 2 ≡ suc (s - 2) = omega arith in
          ap (λ (t : ℕ). 2 ^ t) bits ∙ N.pow-succ' 2 (s - 2)

      above : (c d : ℕ) → c ≡ count + d → d < count → point_at exit c ≡ half_point n (4 * c)
      above c d q l =
          let place : 2 ^ s + 4 * d ≡ 4 * c = omega (arith, four) in
          ap (point_at exit) q ∙ x.added d l ∙ ap₂ (plus words31) (p.each d (omega arith)) e
          ∙ sym (half_further n s (4 * d) (omega arith) hi (omega (arith, four))) ∙ ap (half_point n) place

-- ---- nodes first, .., first + b - 1 are doubled

pub record Doubling (first b : ℕ) (tree now : List ℕ) : Type 0 where
  pub size : length now ≡ length tree
  pub doubled : (j : ℕ) → first ≤ j → j < first + b → get_or now j 0 ≡ double_x words31 (get_or tree (2 * j) 0)
  pub kept : (j : ℕ) → first + b ≤ j → get_or now j 0 ≡ get_or tree j 0

-- ---- the level above

module _ (n m above first : ℕ) (tree : List ℕ) (next : above ≡ suc m) (h : above + 2 ≤ n) (hi : n ≤ 30)
    (two : first ≡ 2 ^ m) (t : LinesFrom n above tree) where
  pub lines_room : 2 * length tree ≡ 2 ^ n → 4 * first ≤ length tree
  lines_room e =
      omega (
        arith,
        N.two-pow-succ m,
        N.two-pow-succ (suc m),
        N.two-pow-succ (suc (suc m)),
        W.pow_mono {i = suc (suc (suc m))} {j = n} (omega arith),
      )

  pub lines_below : (j : ℕ) → 2 * first ≤ j → j < 4 * first → get_or tree j 0 < P
  lines_below j lo less =
      let level : 2 ^ above ≡ 2 * first = ap (λ (k : ℕ). 2 ^ k) next ∙ N.pow-succ' 2 m ∙ ap (λ (k : ℕ). 2 * k) (sym two) in
      let place : j ≡ 2 ^ above + (j - 2 ^ above) = omega arith in
      rw (ap (λ (k : ℕ). get_or tree k 0) place ∙ t above (j - 2 ^ above) (omega arith) h (omega arith))
      (index_below (half_index (above + 2) (2 * (j - 2 ^ above)))).0

  pub lines_next : (exit : List ℕ) → Doubled first tree exit → LinesFrom n m exit
  lines_next exit d k b a l c = elim (dec_lt m k) [ yes g ↦ kept g | no g ↦ level (omega arith) ]
    where
      kept : m < k → get_or exit (2 ^ k + b) 0 ≡ (half_point (k + 2) (2 * b)).0
      kept g = d.kept (2 ^ k + b) (omega (arith, N.two-pow-succ m, W.pow_mono {i = suc m} {j = k} g)) ∙ t k b (omega arith) l c

      level : k ≡ m → get_or exit (2 ^ k + b) 0 ≡ (half_point (k + 2) (2 * b)).0
      level e =
          let same : 2 ^ k ≡ 2 ^ m = ap (λ (t : ℕ). 2 ^ t) e in
          let child : 2 * (2 ^ k + b) ≡ 2 ^ suc k + 2 * b = omega (arith, N.two-pow-succ k) in
          let size : suc k + 2 ≡ suc (k + 2) = omega arith in
          d.doubled (2 ^ k + b) (omega arith) (omega arith)
          ∙ ap (λ (j : ℕ). double_x words31 (get_or tree j 0)) child
          ∙ ap (double_x words31) (t (suc k) (2 * b) (omega arith) (omega arith) (omega (arith, N.two-pow-succ k))
          ∙ ap (λ (m : ℕ). (half_point m (2 * (2 * b))).0) size)
          ∙ half_double_x (k + 2) (omega arith) (omega arith) (2 * (2 * b))
          ∙ ap (λ (j : ℕ). (half_point (k + 2) j).0) (omega arith)

-- ---- the whole tree: its second half is the last level

module _ (n : ℕ) (tree : List ℕ) (given : (3 ≤ n) × (n ≤ 30) × (2 * length tree ≡ 2 ^ n)) where
  abbrev last : ℕ
  last = length tree / 2

  eight : 2 ^ n ≡ 8 * 2 ^ (n - 3)
  eight =
      let bits : n ≡ suc (suc (suc (n - 3))) = omega arith in
      omega (
        arith,
        ap (λ (t : ℕ). 2 ^ t) bits,
        N.two-pow-succ (suc (suc (n - 3))),
        N.two-pow-succ (suc (n - 3)),
        N.two-pow-succ (n - 3),
      )

  part_length : length (mid_of last (length tree - last) tree) ≡ length tree - last
  part_length = mid_len last (length tree) tree (omega arith)

  pub level_size : 4 * length (mid_of last (length tree - last) tree) ≡ 2 ^ n
  level_size = omega (arith, part_length, eight)

  module _ (level : List ℕ) (same : length level ≡ length (mid_of last (length tree - last) tree)) where
    abbrev with_level : List ℕ
    with_level = put_mid last (length tree - last) tree level

    level_at : (j : ℕ) → j < length level → get_or with_level (last + j) 0 ≡ get_or level j 0
    level_at j h =
        let start : length (take last tree) ≡ last = length-take-le last tree (omega arith) in
        ap (λ (k : ℕ). get_or with_level (k + j) 0) (sym start)
        ∙ get_or-append-add (take last tree) (level ++ drop (length tree - last) (drop last tree)) j 0
        ∙ get_or-append level (drop (length tree - last) (drop last tree)) 0 j h

    pub tree_size : length with_level ≡ length tree
    tree_size = same_len_mid last (length tree - last) tree level same

    -- siblings hold x and y of a point, and its y is the x of the point a quarter of a turn further
    pub last_lines : Points n (2 ^ (n - 3)) level → LinesFrom n (n - 2) with_level
    last_lines p k b a l h =
        let bits : k ≡ suc (n - 3) = omega arith in
        let first : 2 ^ k ≡ 2 * 2 ^ (n - 3) = ap (λ (t : ℕ). 2 ^ t) bits ∙ N.pow-succ' 2 (n - 3) in
        let node : 2 ^ k + b ≡ last + b = omega (arith, eight) in
        ap (λ (j : ℕ). get_or with_level j 0) node ∙ level_at b (omega (arith, part_length, eight)) ∙ x b (b / 2) (omega arith)
        ∙ ap (λ (m : ℕ). (half_point m (2 * b)).0) (omega arith)
      where
        x : (b c : ℕ) → (c ≡ b / 2) × (c < 2 ^ (n - 3)) → get_or level b 0 ≡ (half_point n (2 * b)).0
        x b c h =
            even_or_odd b
            (λ e.
            let left : b ≡ 2 * c = omega arith in
            ap (λ (j : ℕ). get_or level j 0) left ∙ ap (λ (q : ℕ × ℕ). q.0) (p.each c h.1)
            ∙ ap (λ (j : ℕ). (half_point n j).0) (omega arith))
            (λ e.
            let right : b ≡ 2 * c + 1 = omega arith in
            ap (λ (j : ℕ). get_or level j 0) right ∙ ap (λ (q : ℕ × ℕ). q.1) (p.each c h.1)
            ∙ sym (ap (λ (q : ℕ × ℕ). q.0) (half_add_quarter n c given.0 given.1))
            ∙ ap (λ (j : ℕ). (half_point n j).0) (omega arith))

    module _ (filled : List ℕ) (long : length filled ≡ length with_level) where
      filled-size : length filled ≡ length tree
      filled-size = long ∙ tree_size

      pub some_nodes : 1 < length filled
      some_nodes = omega (arith, filled-size, eight, W.pow_pos (n - 3))

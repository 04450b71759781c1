-- The tree holds the domain's twiddles, and its inverse holds theirs.
use Prim.Native.Nat.{ℕ, zero, suc, ◌+◌, ◌-◌, ◌*◌, ◌/◌, ◌%◌, ◌^◌, ◌≤◌, ◌<◌}
use Rattle.std.specs.Prelude.{◌≡◌, cond, List, [], ◌∷◌, eqb, get_or}
use Rattle.std.proofs.Math.Path.{sym, ap, ap₂}
use Rattle.std.proofs.Common.{◌∙◌}
use Rattle.std.proofs.Math.Nat as N
use Rattle.std.proofs.Math.Decide.{dec_lt}
use native.Mathlib.Omega.{arith}
use Rattle.std.proofs.Math.ListN.{length, get_or-eq_default}
use Rattle.std.proofs.Math.Pow as W
use Rattle.algebra.specs.Field as F
use Rattle.algebra.specs.Polynomial.{◌:*◌, :-◌, v0, v1}
use Rattle.algebra.specs.Circle.{double_x}
use Rattle.algebra.specs.M31.{P, P_pos, m31, m31_laws, element}
use Rattle.algebra.proofs.M31.{m31_field}
use Rattle.fields.specs.Words.{mul_p, neg_p, words31}
use Rattle.fields.specs.Elements.{element_homomorphism}
use Rattle.fields.specs.Representation.{solve_words}
use Rattle.fields.specs.Inverse.{m31_representation}
use Rattle.circle.specs.IndexPoints.{index_below}
use Rattle.domains.specs.BitReversed.{half_index, half_point}
use Rattle.domains.proofs.BitReversed.{half_neighbour, half_add_quarter, half_point-one}
use Rattle.domains.proofs.Doubled.{half_double_x, half_double_y, half_two}
use Rattle.column.specs.Tree.{HoldsTwiddles}
use Rattle.transform.specs.Tree.{Words, LineTree, circle_twiddle, node_twiddle, beside, Invertible, InvertedTree}
use Rattle.transform.specs.Twiddles.{twiddle, even_or_odd}
use Rattle.transform.specs.Elements.{field_twiddle, field_inverse}

-- a number from 1 to 2^m - 1 is a place on a level
pub by_level : (C : ℕ → Type 0) (m : ℕ) → ((k b : ℕ) → k < m → b < 2 ^ k → C (2 ^ k + b)) → (j : ℕ) → 0 < j → j < 2 ^ m → C j
by_level C zero each j pos h = absurd (omega arith)
by_level C (suc m) each j pos h = elim (dec_lt j (2 ^ m)) [
  | yes l ↦ by_level C m (λ k b a l. each k b (omega arith) l) j pos l
  | no g ↦ last (omega arith) (each m (j - 2 ^ m) (omega arith) (omega (arith, N.two-pow-succ m)))
]
  where
    last : 2 ^ m + (j - 2 ^ m) ≡ j → C (2 ^ m + (j - 2 ^ m)) → C j
    last e r = rw (← e) r

-- - - x = x
pub neg-neg : (x : ℕ) → x < P → neg_p (neg_p x) ≡ x
neg-neg x h = solve_words words31 m31 m31_representation (x ∷ []) (:- :- v0) v0 (m31_representation.neg-reduced _) h tt

-- (- u) (- x) = u x
pub neg-mul-neg : (u x : ℕ) → mul_p (neg_p u) (neg_p x) ≡ mul_p u x
neg-mul-neg u x =
    solve_words words31 m31 m31_representation (u ∷ x ∷ []) (:- v0 :* :- v1) (v0 :* v1) (m31_representation.mul-reduced _ _)
    (m31_representation.mul-reduced _ _) tt

beside_even : (tree : List ℕ) (j : ℕ) → beside tree (2 * j) ≡ get_or tree (2 * j + 1) 0
beside_even tree j =
    let even : 2 * j % 2 ≡ 0 = omega arith in
    ap (λ (r : ℕ). cond (eqb r 0) (get_or tree (2 * j + 1) 0) (neg_p (get_or tree (2 * j - 1) 0))) even

beside_odd : (tree : List ℕ) (j : ℕ) → beside tree (2 * j + 1) ≡ neg_p (get_or tree (2 * j) 0)
beside_odd tree j =
    let odd : (2 * j + 1) % 2 ≡ 1 = omega arith in
    let less : 2 * j + 1 - 1 ≡ 2 * j = omega arith in
    ap₂ (λ (r k : ℕ). cond (eqb r 0) (get_or tree (2 * j + 1 + 1) 0) (neg_p (get_or tree k 0))) odd less

-- where a tree holds the twiddles, and the products with another's nodes are 1, that one holds their inverses
pub holds_inverse : (n : ℕ) (tree other : ℕ → ℕ → ℕ) → HoldsTwiddles words31 n tree (twiddle n)
    → ((s d : ℕ) → s + suc d ≡ n → (j : ℕ) → j < 2 ^ d → mul_p (other s (2 ^ d + j)) (tree s (2 ^ d + j)) ≡ 1)
    → HoldsTwiddles m31 n (λ s j. element (other s j)) (field_inverse n)
holds_inverse n tree other holds inverse s d e j h =
    F.inv_unique m31 m31_field (field_twiddle n s j) (element (other s (2 ^ d + j)))
    (ap (λ (w : ℕ). m31.mul (element w) (element (other s (2 ^ d + j)))) (sym (holds s d e j h))
    ∙ m31_laws.mul_comm (element (tree s (2 ^ d + j))) (element (other s (2 ^ d + j)))
    ∙ sym (element_homomorphism.to_mul (other s (2 ^ d + j)) (tree s (2 ^ d + j)))
    ∙ ap element (inverse s d e j h))

-- 2x² = 1 at log size 2
pub root_square : (x : ℕ) → x ≡ (half_point 2 0).0 → mul_p 2 (mul_p x x) ≡ 1
root_square x e =
    one_more (mul_p 2 (mul_p x x)) (m31_representation.mul-reduced 2 (mul_p x x))
    (ap (double_x words31) e ∙ half_double_x 1 (omega arith) (omega arith) 0 ∙ ap (λ (p : ℕ × ℕ). p.0) (half_point-one 0))
  where
    one_more : (a : ℕ) → a < P → (a + 2147483646) % P ≡ 0 → a ≡ 1
    one_more a h e = omega arith

-- ---- the y of half coset points, from x and y of every fourth

module _ (n c : ℕ) (lo : 3 ≤ n) (hi : n ≤ 30) where
  circle_twiddle_y : (r : ℕ) → r < 4 → circle_twiddle r (half_point n (4 * c)).0 (half_point n (4 * c)).1 ≡ (half_point n (4 * c + r)).1
  unfolding circle_twiddle
  circle_twiddle_y zero h = ap (λ (k : ℕ). (half_point n k).1) (omega arith)
  circle_twiddle_y (suc zero) h =
      let even : 2 * (2 * c) ≡ 4 * c = omega arith in
      let odd : 2 * (2 * c) + 1 ≡ 4 * c + 1 = omega arith in
      ap (λ (k : ℕ). neg_p (half_point n k).1) (sym even) ∙ sym (ap (λ (p : ℕ × ℕ). p.1) (half_neighbour n (2 * c) (omega arith) hi))
      ∙ ap (λ (k : ℕ). (half_point n k).1) odd
  circle_twiddle_y (suc (suc zero)) h = sym (ap (λ (p : ℕ × ℕ). p.1) (half_add_quarter n c lo hi))
  circle_twiddle_y (suc (suc (suc zero))) h =
      let even : 2 * (2 * c + 1) ≡ 4 * c + 2 = omega arith in
      let odd : 2 * (2 * c + 1) + 1 ≡ 4 * c + 3 = omega arith in
      sym (ap (λ (k : ℕ). (half_point n k).1) (sym odd) ∙ ap (λ (p : ℕ × ℕ). p.1) (half_neighbour n (2 * c + 1) (omega arith) hi)
      ∙ ap (λ (k : ℕ). neg_p (half_point n k).1) even ∙ ap neg_p (ap (λ (p : ℕ × ℕ). p.1) (half_add_quarter n c lo hi))
      ∙ neg-neg (half_point n (4 * c)).0 (index_below (half_index n (4 * c))).0)
  circle_twiddle_y (suc (suc (suc (suc r)))) h = absurd (omega arith)

module _ (n : ℕ) (tree : List ℕ) (lo : 3 ≤ n) (hi : n ≤ 30) (t : LineTree n tree) where
  -- siblings: x and y of one point
  module _ (e b : ℕ) (h : e + 3 ≤ n) (l : b < 2 ^ e) where
    child_x : get_or tree (2 * (2 ^ e + b)) 0 ≡ (half_point (e + 3) (4 * b)).0
    child_x =
        let node : 2 * (2 ^ e + b) ≡ 2 ^ suc e + 2 * b = omega (arith, N.two-pow-succ e) in
        let level : suc e + 2 ≡ e + 3 = omega arith in
        let place : 2 * (2 * b) ≡ 4 * b = omega arith in
        ap (λ (j : ℕ). get_or tree j 0) node ∙ t.lines (suc e) (2 * b) (omega arith) (omega arith) (omega (arith, N.two-pow-succ e))
        ∙ ap₂ (λ (m k : ℕ). (half_point m k).0) level place

    child_y : get_or tree (2 * (2 ^ e + b) + 1) 0 ≡ (half_point (e + 3) (4 * b)).1
    child_y =
        let node : 2 * (2 ^ e + b) + 1 ≡ 2 ^ suc e + (2 * b + 1) = omega (arith, N.two-pow-succ e) in
        let level : suc e + 2 ≡ e + 3 = omega arith in
        let place : 2 * (2 * b + 1) ≡ 4 * b + 2 = omega arith in
        ap (λ (j : ℕ). get_or tree j 0) node ∙ t.lines (suc e) (2 * b + 1) (omega arith) (omega arith) (omega (arith, N.two-pow-succ e))
        ∙ ap₂ (λ (m k : ℕ). (half_point m k).0) level place
        ∙ ap (λ (p : ℕ × ℕ). p.0) (half_add_quarter (e + 3) b (omega arith) (omega arith))

  node_pair_y : (e i : ℕ) → e + 3 ≡ n → i < 2 ^ suc (suc e) → node_twiddle tree zero (2 ^ suc (suc e) + i) ≡ (half_point n i).1
  unfolding node_twiddle
  node_pair_y e i s h =
      ap₂ (λ (r q : ℕ). circle_twiddle r (get_or tree (2 * q) 0) (get_or tree (2 * q + 1) 0)) node_mod_4 node_div_4
      ∙ ap₂ (circle_twiddle (i % 4)) (child_x e (i / 4) (omega arith) small) (child_y e (i / 4) (omega arith) small)
      ∙ circle_twiddle_y (e + 3) (i / 4) (omega arith) (omega arith) (i % 4) (omega arith)
      ∙ ap₂ (λ (m k : ℕ). (half_point m k).1) s (omega arith)
    where
      pow_is_four_times : 2 ^ suc (suc e) ≡ 4 * 2 ^ e
      pow_is_four_times = omega (arith, N.two-pow-succ e, N.two-pow-succ (suc e))

      node_mod_4 : (2 ^ suc (suc e) + i) % 4 ≡ i % 4
      node_mod_4 = omega (arith, pow_is_four_times)

      node_div_4 : (2 ^ suc (suc e) + i) / 4 ≡ 2 ^ e + i / 4
      node_div_4 = omega (arith, pow_is_four_times)

      small : i / 4 < 2 ^ e
      small = omega (arith, pow_is_four_times)

  pub tree_holds : HoldsTwiddles words31 n (node_twiddle tree) (twiddle n)
  unfolding twiddle node_twiddle
  tree_holds zero zero e i h = absurd (omega arith)
  tree_holds zero (suc zero) e i h = absurd (omega arith)
  tree_holds zero (suc (suc d)) e i h = node_pair_y d i (omega arith) h
  tree_holds (suc s) d e i h =
      let level : d + 2 ≡ n - s = omega arith in
      t.lines d i (omega arith) (omega arith) h ∙ ap (λ (m : ℕ). (half_point m (2 * i)).0) level

  -- ---- the tree can be inverted

  nodes : length tree ≡ 2 ^ (n - 1)
  nodes =
      let bits : n ≡ suc (n - 1) = omega arith in
      omega (arith, t.size, ap (λ (m : ℕ). 2 ^ m) bits ∙ N.two-pow-succ (n - 1))

  node_below : (j : ℕ) → 0 < j → j < 2 ^ (n - 1) → get_or tree j 0 < P
  node_below =
      by_level (λ j. get_or tree j 0 < P) (n - 1)
      (λ k b a l. rw (t.lines k b (omega arith) (omega arith) l) (index_below (half_index (k + 2) (2 * b))).0)

  pub tree_words : Words tree
  tree_words zero = rw t.copied (node_below 1 (omega arith) (omega (arith, half_is_two_quarters, W.pow_pos (n - 1 - 1))))
    where
      half_is_two_quarters : 2 ^ (n - 1) ≡ 2 * 2 ^ (n - 1 - 1)
      half_is_two_quarters = ap (λ (m : ℕ). 2 ^ m) (omega arith) ∙ N.pow-succ' 2 (n - 1 - 1)
  tree_words (suc k) = elim (dec_lt (suc k) (length tree)) [
    | yes l ↦ node_below (suc k) (omega arith) (omega (arith, nodes))
    | no g ↦ rw (get_or-eq_default tree 0 {n = suc k} (omega arith)) P_pos
  ]

  -- what stands beside a node is the y of its point
  beside_y : (k b : ℕ) → k + 3 ≤ n → b < 2 ^ k → beside tree (2 ^ k + b) ≡ (half_point (k + 2) (2 * b)).1
  beside_y zero b h l =
      let first : b ≡ 0 = omega arith in
      ap (λ (c : ℕ). beside tree (1 + c)) first
      ∙ ap neg_p (t.copied ∙ t.lines 0 0 (omega arith) (omega arith) (W.pow_pos 0)) ∙ sym (half_two 0)
      ∙ ap (λ (c : ℕ). (half_point 2 (2 * c)).1) (sym first)
  beside_y (suc e) b h l = even_or_odd b even odd
    where
      c : ℕ
      c = b / 2

      small : c < 2 ^ e
      small = omega (arith, N.two-pow-succ e)

      level : e + 3 ≡ suc e + 2
      level = omega arith

      even : b % 2 ≡ 0 → beside tree (2 ^ suc e + b) ≡ (half_point (suc e + 2) (2 * b)).1
      even z =
          let node : 2 ^ suc e + b ≡ 2 * (2 ^ e + c) = omega (arith, N.two-pow-succ e) in
          ap (beside tree) node ∙ beside_even tree (2 ^ e + c) ∙ child_y e c (omega arith) small
          ∙ ap₂ (λ (m k : ℕ). (half_point m k).1) level (omega arith)

      odd : b % 2 ≡ 1 → beside tree (2 ^ suc e + b) ≡ (half_point (suc e + 2) (2 * b)).1
      odd z =
          let node : 2 ^ suc e + b ≡ 2 * (2 ^ e + c) + 1 = omega (arith, N.two-pow-succ e) in
          ap (beside tree) node ∙ beside_odd tree (2 ^ e + c) ∙ ap neg_p (child_x e c (omega arith) small)
          ∙ sym (ap (λ (p : ℕ × ℕ). p.1) (half_add_quarter (e + 3) c (omega arith) (omega arith)))
          ∙ ap₂ (λ (m k : ℕ). (half_point m k).1) level (omega arith)

  children_double : (k b : ℕ) → k + 3 ≤ n → b < 2 ^ k
      → mul_p 2 (mul_p (get_or tree (2 * (2 ^ k + b)) 0) (get_or tree (2 * (2 ^ k + b) + 1) 0)) ≡ beside tree (2 ^ k + b)
  children_double k b h l =
      let level : k + 3 ≡ suc (k + 2) = omega arith in
      ap₂ (λ (x y : ℕ). mul_p 2 (mul_p x y)) (child_x k b h l) (child_y k b h l)
      ∙ ap (λ (m : ℕ). mul_p 2 (mul_p (half_point m (4 * b)).0 (half_point m (4 * b)).1)) level
      ∙ half_double_y (k + 2) (omega arith) (omega arith) (4 * b) ∙ ap (λ (j : ℕ). (half_point (k + 2) j).1) (omega arith)
      ∙ sym (beside_y k b h l)

  pub tree_invertible : Invertible tree
  tree_invertible = record {
    even = omega (arith, nodes, half_is_two_quarters);
    least = omega (arith, nodes, half_is_two_quarters, W.pow_pos (n - 1 - 1));
    words = tree_words;
    copied = t.copied;
    root = root_square (get_or tree 1 0) (t.lines 0 0 (omega arith) (omega arith) (W.pow_pos 0));
    children = λ i pos l. by_level (λ i. mul_p 2 (mul_p (get_or tree (2 * i) 0) (get_or tree (2 * i + 1) 0)) ≡ beside tree i) (n - 1 - 1)
        (λ k b a l. children_double k b (omega arith) l) i pos (omega (arith, nodes, half_is_two_quarters));
  }
    where
      half_is_two_quarters : 2 ^ (n - 1) ≡ 2 * 2 ^ (n - 1 - 1)
      half_is_two_quarters =
          let bits : n - 1 ≡ suc (n - 1 - 1) = omega arith in
          ap (λ (m : ℕ). 2 ^ m) bits ∙ N.pow-succ' 2 (n - 1 - 1)

  -- ---- the inverted tree holds the inverses

  module _ (exit : List ℕ) (i : InvertedTree tree exit) where
    circle_twiddle_inverse : (r x y u v : ℕ) → mul_p u x ≡ 1 → mul_p v y ≡ 1 → mul_p (circle_twiddle r u v) (circle_twiddle r x y) ≡ 1
    unfolding circle_twiddle
    circle_twiddle_inverse zero x y u v e f = f
    circle_twiddle_inverse (suc zero) x y u v e f = neg-mul-neg v y ∙ f
    circle_twiddle_inverse (suc (suc zero)) x y u v e f = neg-mul-neg u x ∙ e
    circle_twiddle_inverse (suc (suc (suc r))) x y u v e f = e

    node_inverse : (s d : ℕ) → s + suc d ≡ n → (j : ℕ) → j < 2 ^ d
        → mul_p (node_twiddle exit s (2 ^ d + j)) (node_twiddle tree s (2 ^ d + j)) ≡ 1
    unfolding node_twiddle
    node_inverse zero d e j h =
        let q : ℕ = (2 ^ d + j) / 4 in
        let room : 2 * q + 1 < length tree = omega (arith, nodes, half_is_four_eighths, (ap (λ (m : ℕ). 2 ^ m) bits)) in
        circle_twiddle_inverse ((2 ^ d + j) % 4) (get_or tree (2 * q) 0) (get_or tree (2 * q + 1) 0) (get_or exit (2 * q) 0)
        (get_or exit (2 * q + 1) 0)
        (i.inverse (2 * q) (omega arith)) (i.inverse (2 * q + 1) room)
      where
        bits : n - 1 ≡ d
        bits = omega arith

        half_is_four_eighths : 2 ^ (n - 1) ≡ 4 * 2 ^ (n - 1 - 1 - 1)
        half_is_four_eighths =
            let less : n - 1 ≡ suc (suc (n - 1 - 1 - 1)) = omega arith in
            omega (arith, ap (λ (m : ℕ). 2 ^ m) less, N.two-pow-succ (suc (n - 1 - 1 - 1)), N.two-pow-succ (n - 1 - 1 - 1))
    node_inverse (suc s) d e j h =
        i.inverse (2 ^ d + j) (omega (arith, nodes, N.two-pow-succ d, W.pow_mono {i = suc d} {j = n - 1} (omega arith)))

    pub inverse_holds : HoldsTwiddles m31 n (λ s j. element (node_twiddle exit s j)) (field_inverse n)
    inverse_holds = holds_inverse n (node_twiddle tree) (node_twiddle exit) tree_holds node_inverse

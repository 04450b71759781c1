-- Twiddles in a tree: block i of 2^(t + 1) elements, of 2^d such, has its twiddle at node 2^d + i, so that the root is node 1
-- and the children of node j are 2j and 2j + 1.
use Prim.Native.Nat.{ℕ, zero, suc, ◌+◌, ◌*◌, ◌^◌, ◌<◌}
use Rattle.std.specs.Prelude.{◌≡◌, take, drop}
use Rattle.std.proofs.Math.Path.{refl, ap, ap₂}
use Rattle.std.proofs.Common.{◌∙◌}
use mathlib.Core.List.{List, ◌++◌, zip_with}
use Rattle.std.proofs.Math.Nat as N
use native.Mathlib.Omega.{arith}
use Rattle.algebra.specs.Ring.{Ops}
use Rattle.column.specs.Butterflies.{on_halves, butterfly_sum, butterfly_difference, evaluate_block}
use Rattle.column.specs.Butterflies.{inverse_sum, inverse_difference, interpolate_block}

module _ (O : Ops) (n : ℕ) (tree tw : ℕ → ℕ → O.El) where
  open O use {El}

  -- the tree of log size n holds the twiddles tw
  abbrev pub HoldsTwiddles : Type 0
  HoldsTwiddles = (t d : ℕ) → t + suc d ≡ n → (i : ℕ) → i < 2 ^ d → tree t (2 ^ d + i) ≡ tw t i

  module _ (holds : HoldsTwiddles) where
    lower_child : (d i : ℕ) → 2 * (2 ^ d + i) ≡ 2 ^ suc d + 2 * i
    lower_child d i = omega (arith, N.two-pow-succ d)

    upper_child : (d i : ℕ) → 2 * (2 ^ d + i) + 1 ≡ 2 ^ suc d + (2 * i + 1)
    upper_child d i = omega (arith, N.two-pow-succ d)

    pub tree_evaluate : (k d : ℕ) → k + d ≡ n → (i : ℕ) → i < 2 ^ d → (c : List El)
        → evaluate_block O k tree (2 ^ d + i) c ≡ evaluate_block O k tw i c
    unfolding evaluate_block
    tree_evaluate zero d e i h c = refl
    tree_evaluate (suc k) d e i h c =
        let own : tree k (2 ^ d + i) ≡ tw k i = holds k d (omega arith) i h in
        let deeper : k + suc d ≡ n = omega arith in
        ap (λ (w : El). evaluate_block O k tree (2 * (2 ^ d + i)) (on_halves (butterfly_sum O w) (2 ^ k) c)
        ++ evaluate_block O k tree (2 * (2 ^ d + i) + 1) (on_halves (butterfly_difference O w) (2 ^ k) c)) own
        ∙ ap₂ ◌++◌
        (ap (λ (j : ℕ). evaluate_block O k tree j (on_halves (butterfly_sum O (tw k i)) (2 ^ k) c)) (lower_child d i)
        ∙ tree_evaluate k (suc d) deeper (2 * i) (omega (arith, N.two-pow-succ d)) (on_halves (butterfly_sum O (tw k i)) (2 ^ k) c))
        (ap (λ (j : ℕ). evaluate_block O k tree j (on_halves (butterfly_difference O (tw k i)) (2 ^ k) c)) (upper_child d i)
        ∙ tree_evaluate k (suc d) deeper (2 * i + 1) (omega (arith, N.two-pow-succ d))
        (on_halves (butterfly_difference O (tw k i)) (2 ^ k) c))

    pub tree_interpolate : (k d : ℕ) → k + d ≡ n → (i : ℕ) → i < 2 ^ d → (v : List El)
        → interpolate_block O k tree (2 ^ d + i) v ≡ interpolate_block O k tw i v
    unfolding interpolate_block
    tree_interpolate zero d e i h v = refl
    tree_interpolate (suc k) d e i h v =
        let own : tree k (2 ^ d + i) ≡ tw k i = holds k d (omega arith) i h in
        let deeper : k + suc d ≡ n = omega arith in
        let first : interpolate_block O k tree (2 * (2 ^ d + i)) (take (2 ^ k) v) ≡ interpolate_block O k tw (2 * i) (take (2 ^ k) v) =
        ap (λ (j : ℕ). interpolate_block O k tree j (take (2 ^ k) v)) (lower_child d i)
        ∙ tree_interpolate k (suc d) deeper (2 * i) (omega (arith, N.two-pow-succ d)) (take (2 ^ k) v) in
        let second : interpolate_block O k tree (2 * (2 ^ d + i) + 1) (drop (2 ^ k) v)
        ≡ interpolate_block O k tw (2 * i + 1) (drop (2 ^ k) v) =
        ap (λ (j : ℕ). interpolate_block O k tree j (drop (2 ^ k) v)) (upper_child d i)
        ∙ tree_interpolate k (suc d) deeper (2 * i + 1) (omega (arith, N.two-pow-succ d)) (drop (2 ^ k) v) in
        ap (λ (w : El). zip_with (inverse_sum O) (interpolate_block O k tree (2 * (2 ^ d + i)) (take (2 ^ k) v))
        (interpolate_block O k tree (2 * (2 ^ d + i) + 1) (drop (2 ^ k) v))
        ++ zip_with (inverse_difference O w) (interpolate_block O k tree (2 * (2 ^ d + i)) (take (2 ^ k) v))
        (interpolate_block O k tree (2 * (2 ^ d + i) + 1) (drop (2 ^ k) v))) own
        ∙ ap₂ (λ (x y : List El). zip_with (inverse_sum O) x y ++ zip_with (inverse_difference O (tw k i)) x y) first second

-- Every point of the circle has exactly one index below 2^31. Adding points adds indices modulo 2^31, and `from_point` and `to_point`
-- undo one another.
use Rattle.std.specs.Prelude.{◌≡◌, ℕ, ◌+◌, ◌%◌, ◌^◌, ◌<◌, ◌≤◌, true, false, ◌&&◌, ◌==◌}
use Rattle.std.proofs.Common.{sym, ◌∙◌, ap, ap₂, arith, eqb-true, eq-eqb}
use Rattle.std.proofs.Math.Bool.{not-eq-not, and-eq-true_iff}
use Rattle.std.proofs.Math.Nat as N
use Rattle.algebra.specs.M31.{P, m31, element}
use Rattle.algebra.specs.Homomorphism.{on_pair}
use Rattle.algebra.specs.Circle.{plus, OnCircle}
use Rattle.algebra.specs.CircleHomomorphism.{to_squares}
use Rattle.algebra.proofs.AllPoints.{all_multiples}
use Rattle.fields.specs.Words.{words31}
use Rattle.fields.specs.Elements.{element_homomorphism}
use Rattle.fields.specs.Search.{first}
use Rattle.fields.specs.SearchLaws.{first_at}
use Rattle.circle.specs.Index.{of_index, index_point, is_point_of, index_of}
use Rattle.circle.specs.IndexPoints.{index_unique, index_add, same_point_same_index}

-- both words are below P, and x² + y² = 1 modulo P
pub record CircleWords (p : ℕ × ℕ) : Type 0 where
  pub x_below : p.0 < P
  pub y_below : p.1 < P
  pub on_circle : OnCircle words31 p

-- p has an index below 2^31, and no other
pub record OneIndex (p : ℕ × ℕ) : Type 0 where
  pub below : index_of p < 2 ^ 31
  pub point : p ≡ index_point (index_of p)
  pub only : (k : ℕ) → k < 2 ^ 31 → p ≡ index_point k → k ≡ index_of p

-- ---- the test

pub is_point : (p : ℕ × ℕ) (k : ℕ) → is_point_of p k ≡ true → p ≡ index_point k
is_point p k e =
    let h = (and-eq-true_iff (p.0 == (index_point k).0) (p.1 == (index_point k).1)).0 e in
    λ i. (eqb-true p.0 (index_point k).0 h.0 i, eqb-true p.1 (index_point k).1 h.1 i)

pub point_is : (p : ℕ × ℕ) (k : ℕ) → p ≡ index_point k → is_point_of p k ≡ true
point_is p k e = ap₂ ◌&&◌ (eq-eqb p.0 (index_point k).0 (ap (λ t. t.0) e)) (eq-eqb p.1 (index_point k).1 (ap (λ t. t.1) e))

-- ---- exactly one index

-- under any bound up to 2^31 the search for the point of k finds k
first_index : (n k : ℕ) → n ≤ 2 ^ 31 → k < n → (p : ℕ × ℕ) → p ≡ index_point k → k ≡ first (is_point_of p) n
first_index n k b l p e = first_at (is_point_of p) n k l (record { none = none }) (point_is p k e)
  where
    same : (j : ℕ) → j < k → is_point_of p j ≡ true → j ≡ k
    same j h t =
        ap (λ k. k.0) (same_point_same_index (of_index j) (of_index k) (omega arith) (omega arith) (sym (is_point p j t) ∙ e))

    none : (j : ℕ) → j < k → is_point_of p j ≡ false
    none j h = not-eq-not.0 (λ t. let q = same j h t in omega arith)

-- an index below 2^31 is that of its point
pub index_of_point : (k : ℕ) → k < 2 ^ 31 → (p : ℕ × ℕ) → p ≡ index_point k → k ≡ index_of p
unfolding index_of
index_of_point k l p e = first_index (2 ^ 31) k (N.le_refl (2 ^ 31)) l p e

-- every point of the circle has one
index_exists : (p : ℕ × ℕ) → CircleWords p → (k : ℕ) × (k < 2 ^ 31) × (p ≡ index_point k)
index_exists p h =
    let r = all_multiples (on_pair element p) (sym (to_squares words31 m31 element element_homomorphism p) ∙ ap element h.on_circle) in
    (r.0, r.1, index_unique p r.0 (h.x_below, h.y_below) r.2)

-- theorem: every point with words below P and x² + y² = 1 has exactly one index below 2^31
pub one_index : (p : ℕ × ℕ) → CircleWords p → OneIndex p
one_index p h =
    let r = index_exists p h in
    let e : r.0 ≡ index_of p = index_of_point r.0 r.1 p r.2 in
    record { below = rw e at r.1; point = r.2 ∙ ap index_point e; only = λ k l f. index_of_point k l p f }

-- theorem: the index of a sum of two points is the sum of their indices modulo 2^31
pub index_of-plus : (p q : ℕ × ℕ) → CircleWords p → CircleWords q → index_of (plus words31 p q) ≡ (index_of p + index_of q) % 2 ^ 31
index_of-plus p q h k =
    sym (index_of_point ((index_of p + index_of q) % 2 ^ 31) (omega arith) (plus words31 p q)
    (ap₂ (plus words31) (one_index p h).point (one_index q k).point ∙ sym (index_add (index_of p) (index_of q))))

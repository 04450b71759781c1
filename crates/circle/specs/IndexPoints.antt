-- Indices and their points: adding indices adds points, and two numbers have one point exactly where they agree modulo 2^31.
use Rattle.std.specs.Prelude.{◌≡◌, ℕ, ◌+◌, ◌-◌, ◌*◌, ◌%◌, ◌^◌, ◌<◌, ◌≤◌, ◌⊎◌, ◌↔◌, [], ◌∷◌}
use Rattle.std.proofs.Common.{sym, ◌∙◌, ap, inl, inr, arith, lit<}
use Rattle.std.proofs.Math.Nat as N
use Rattle.std.proofs.Math.Decide.{dec_lt}
use Rattle.algebra.specs.Polynomial.{Expr, :-◌, exprs, v0, v1}
use Rattle.algebra.specs.Extension.{conjugate}
use Rattle.algebra.specs.M31.{P, P_pos, m31, m31_laws, element}
use Rattle.algebra.specs.Tower.{cm31}
use Rattle.algebra.specs.Homomorphism.{on_pair}
use Rattle.algebra.specs.Circle.{plus, multiple, squares, OnCircle, on_multiple}
use Rattle.algebra.specs.CircleHomomorphism.{to_multiple, to_squares}
use Rattle.algebra.specs.Doubling.{double}
use Rattle.algebra.specs.Generator.{G}
use Rattle.algebra.proofs.Generator.{G_on, G_equal, G_quarter, G_antipode, G_conjugate}
use Rattle.fields.specs.Words.{neg_p, words31}
use Rattle.fields.specs.Elements.{element_homomorphism}
use Rattle.fields.specs.Representation.{solve_words}
use Rattle.fields.specs.Inverse.{m31_representation, element_minus_one}
use Rattle.circle.specs.Formulas.{antipode}
use Rattle.circle.specs.Point.{generator}
use Rattle.circle.specs.Index.{of_index, IsIndex, index_point}
use Rattle.circle.specs.declared.index.CirclePointIndex.{CirclePointIndex}
use Rattle.circle.specs.Points.{point_injective, multiple-reduced, multiple-add, multiple-mul}

-- the words of k G stand for k G
pub to_index_point : (k : ℕ) → on_pair element (index_point k) ≡ multiple m31 k G
to_index_point k = to_multiple words31 m31 element element_homomorphism k generator

pub index_below : (k : ℕ) → ((index_point k).0 < P) × ((index_point k).1 < P)
index_below k = multiple-reduced words31 m31 m31_representation k generator

-- words below P that stand for k G are those of index k
pub index_unique : (p : ℕ × ℕ) (k : ℕ) → (p.0 < P) × (p.1 < P) → on_pair element p ≡ multiple m31 k G → p ≡ index_point k
index_unique p k h e = point_injective words31 m31 m31_representation p (index_point k) h (index_below k) (e ∙ sym (to_index_point k))

pub index_on : (k : ℕ) → OnCircle words31 (index_point k)
index_on k =
    m31_representation.injective (squares words31 (index_point k)) 1 (m31_representation.add-reduced _ _) m31_representation.one_reduced
    (to_squares words31 m31 element element_homomorphism (index_point k) ∙ ap (squares m31) (to_index_point k)
    ∙ on_multiple m31 m31_laws k G G_on)

pub index_equal : (j k : ℕ) → (index_point j ≡ index_point k) ↔ (j % 2 ^ 31 ≡ k % 2 ^ 31)
index_equal j k = (
  λ e. (G_equal j k).0 (sym (to_index_point j) ∙ ap (on_pair element) e ∙ to_index_point k),
  λ e. index_unique (index_point j) k (index_below j) (to_index_point j ∙ (G_equal j k).1 e),
)

-- no two indices have the same point
pub same_point_same_index : (j k : CirclePointIndex) → IsIndex j → IsIndex k → index_point j.0 ≡ index_point k.0 → j ≡ k
same_point_same_index j k h l e =
    ap of_index (sym (N.mod-eq_of_lt h) ∙ (index_equal j.0 k.0).0 e ∙ N.mod-eq_of_lt l)

pub index_reduce : (k : ℕ) → index_point (k % 2 ^ 31) ≡ index_point k
index_reduce k = (index_equal (k % 2 ^ 31) k).1 (mod-mod k)
  where
    mod-mod : (k : ℕ) → k % 2 ^ 31 % 2 ^ 31 ≡ k % 2 ^ 31
    mod-mod k = omega arith

pub index_add : (j k : ℕ) → index_point ((j + k) % 2 ^ 31) ≡ plus words31 (index_point j) (index_point k)
index_add j k = index_reduce (j + k) ∙ multiple-add words31 m31 m31_representation j k generator

-- doubling an index doubles its point, also where a multiple of 2^31 is taken away
pub index_double : (j k turns : ℕ) → 2 * j ≡ k + turns * 2 ^ 31 → double words31 (index_point j) ≡ index_point k
index_double j k turns e =
    let twice : j + j ≡ k + turns * 2 ^ 31 = omega arith in
    sym (index_add j j) ∙ index_reduce (j + j)
    ∙ (index_equal (j + j) k).1 (ap (λ (t : ℕ). t % 2 ^ 31) twice ∙ N.add-mul-mod_self_right k turns (2 ^ 31))

-- 2^31 divides 2^64
pub mod_64_mod_31 : (m : ℕ) → m % 2 ^ 31 ≡ m % 2 ^ 64 % 2 ^ 31
mod_64_mod_31 m = omega arith

-- the product modulo 2^64 has the point of the product
pub index_mul : (k n : ℕ) → index_point ((k * n) % 2 ^ 64 % 2 ^ 31) ≡ multiple words31 n (index_point k)
index_mul k n =
    ap index_point (sym (mod_64_mod_31 (k * n))) ∙ index_reduce (k * n) ∙ ap index_point (N.mul_comm k n)
    ∙ multiple-mul words31 m31 m31_representation n k generator

-- 2^29 G = (0, -1)
pub index_quarter : index_point (2 ^ 29) ≡ (0, P - 1)
index_quarter = sym (index_unique (0, P - 1) (2 ^ 29) (P_pos, lit< tt) ((λ i. (m31.zero, element_minus_one i)) ∙ sym G_quarter))

-- a quarter of a turn further lies (y, -x)
pub index_add_quarter : (k : ℕ) → index_point (k + 2 ^ 29) ≡ ((index_point k).1, neg_p (index_point k).0)
index_add_quarter k =
    sym (index_reduce (k + 2 ^ 29)) ∙ index_add k (2 ^ 29) ∙ ap (plus words31 (index_point k)) index_quarter
    ∙ (λ i. (
      solve_words words31 m31 m31_representation ((index_point k).0 ∷ (index_point k).1 ∷ [])
          (plus exprs (v0, v1) (Expr.:0, :- Expr.:1)).0 v1 (m31_representation.add-reduced _ _) (index_below k).1 tt i,
      solve_words words31 m31 m31_representation ((index_point k).0 ∷ (index_point k).1 ∷ [])
          (plus exprs (v0, v1) (Expr.:0, :- Expr.:1)).1 (:- v0) (m31_representation.add-reduced _ _)
          (m31_representation.neg-reduced _) tt i,
    ))

-- half a turn further lies the antipode
pub index_antipode : (k : ℕ) → index_point (k + 2 ^ 30) ≡ antipode words31 (index_point k)
index_antipode k =
    sym (index_unique (antipode words31 (index_point k)) (k + 2 ^ 30) (m31_representation.neg-reduced _, m31_representation.neg-reduced _)
    ((λ i. (element_homomorphism.to_neg (index_point k).0 i, element_homomorphism.to_neg (index_point k).1 i))
    ∙ ap cm31.neg (to_index_point k) ∙ sym (G_antipode k)))

pub index_conjugate : (k : ℕ) → k ≤ 2 ^ 31 → index_point (2 ^ 31 - k) ≡ conjugate words31 (index_point k)
index_conjugate k h =
    sym (index_unique (conjugate words31 (index_point k)) (2 ^ 31 - k) ((index_below k).0, m31_representation.neg-reduced _)
    ((λ i. (element (index_point k).0, element_homomorphism.to_neg (index_point k).1 i)) ∙ ap (conjugate m31) (to_index_point k)
    ∙ sym (G_conjugate k h)))

-- where y = 0 the point is its own conjugate, where x = 0 the conjugate is the antipode
module _ (k : ℕ) (lo : 0 < k) (hi : k < 2 ^ 31) where
  negative_mod : (2 ^ 31 - k) % 2 ^ 31 ≡ 2 ^ 31 - k
  negative_mod = N.mod-eq_of_lt (omega arith)

  pub index_y_zero : (index_point k).1 ≡ 0 → k ≡ 2 ^ 30
  index_y_zero e =
      let own_conjugate : conjugate words31 (index_point k) ≡ index_point k = λ i. ((index_point k).0, (ap neg_p e ∙ sym e) i) in
      omega (arith, (index_equal (2 ^ 31 - k) k).0 (index_conjugate k (omega arith) ∙ own_conjugate), negative_mod, N.mod-eq_of_lt hi)

  pub index_x_zero : (index_point k).0 ≡ 0 → (k ≡ 2 ^ 29) ⊎ (k ≡ 3 * 2 ^ 29)
  index_x_zero e = elim (dec_lt k (2 ^ 30)) [
    | yes l ↦ inl (omega (arith, negative_is_antipode, N.mod-eq_of_lt {n = k + 2 ^ 30} {m = 2 ^ 31} (omega arith)))
    | no g ↦ inr
        (omega (arith, negative_is_antipode, N.mod-eq-sub-mod {n = k + 2 ^ 30} {m = 2 ^ 31} (omega arith) ∙ N.mod-eq_of_lt (omega arith)))
  ]
    where
      conjugate_is_antipode : conjugate words31 (index_point k) ≡ antipode words31 (index_point k)
      conjugate_is_antipode = λ i. ((e ∙ sym (ap neg_p e)) i, neg_p (index_point k).1)

      negative_is_antipode : 2 ^ 31 - k ≡ (k + 2 ^ 30) % 2 ^ 31
      negative_is_antipode = sym negative_mod
          ∙ (index_equal (2 ^ 31 - k) (k + 2 ^ 30)).0 (index_conjugate k (omega arith) ∙ conjugate_is_antipode ∙ sym (index_antipode k))

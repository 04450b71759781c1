-- The steps that invert a tree from its root down.
use Prim.Native.Nat.{ℕ, zero, suc, ◌+◌, ◌-◌, ◌*◌, ◌%◌, ◌≤◌, ◌<◌}
use mathlib.Core.Path.{◌≡◌, refl, sym, ◌∙◌, ap, ap₂}
use mathlib.Core.Bool.{Bool, cond}
use mathlib.Core.List.{List, [], ◌∷◌}
use native.Mathlib.Decide.{dec_lt}
use native.Mathlib.Omega.{arith}
use borrow.Author.Tests.{eq-eqb, ne_eqb}
use lib.ListN.{length, get_or, set}
use Rattle.algebra.specs.Ring.{two}
use Rattle.algebra.specs.Polynomial.{◌:+◌, ◌:*◌, exprs, v0, v1, v2}
use Rattle.algebra.specs.M31.{P, m31}
use Rattle.fields.specs.Words.{add_p, mul_p, neg_p, words31}
use Rattle.fields.specs.Representation.{solve_words}
use Rattle.fields.specs.Inverse.{m31_representation}
use Rattle.transform.specs.Tree.{Words, beside, Invertible, InvertedTree}
use Rattle.transform.specs.Twiddles.{even_or_odd}
use Rattle.transform.specs.TreeLaws.{neg-mul-neg}
use Rattle.transform.proofs.Pairs.{written, written-length, written-first, written_second, written_below, written_above}

pub even_beside : (tree : List ℕ) (i : ℕ) → i % 2 ≡ 0 → get_or tree (i + 1) 0 ≡ beside tree i
even_beside tree i e = sym (ap (λ (t : Bool). cond t (get_or tree (i + 1) 0) (neg_p (get_or tree (i - 1) 0))) (eq-eqb (i % 2) 0 e))

pub odd_beside : (tree : List ℕ) (i : ℕ) → (i % 2 ≡ 0 → ⊥) → neg_p (get_or tree (i - 1) 0) ≡ beside tree i
odd_beside tree i e = sym (ap (λ (t : Bool). cond t (get_or tree (i + 1) 0) (neg_p (get_or tree (i - 1) 0))) (ne_eqb (i % 2) 0 e))

words-set : (l : List ℕ) (i a : ℕ) → Words l → a < P → Words (set l i a)
words-set [] i a w h k = w k
words-set (x ∷ l) zero a w h zero = h
words-set (x ∷ l) zero a w h (suc k) = w (suc k)
words-set (x ∷ l) (suc i) a w h zero = w 0
words-set (x ∷ l) (suc i) a w h (suc k) = words-set l i a (λ n. w (suc n)) h k

-- words 0 and 1 of a tree, written and put back
pub put_back : (tree : List ℕ) (a b : ℕ) → Invertible tree → set (set (set (set tree 0 a) 1 b) 0 (get_or tree 1 0)) 1 (get_or tree 1
    0) ≡ tree
put_back [] a b t = refl
put_back (x ∷ []) a b t = let least : 2 ≤ 1 = t.least in absurd (omega arith)
put_back (x ∷ y ∷ tree) a b t = ap (λ (z : ℕ). z ∷ y ∷ tree) (sym t.copied)

-- words 0, .., 2i - 1 are inverted, the others as they were
pub record Inverting (i : ℕ) (tree now : List ℕ) : Type 0 where
  pub size : length now ≡ length tree
  pub words : Words now
  pub done : (j : ℕ) → j < 2 * i → mul_p (get_or now j 0) (get_or tree j 0) ≡ 1
  pub kept : (j : ℕ) → 2 * i ≤ j → get_or now j 0 ≡ get_or tree j 0

module _ {tree : List ℕ} (t : Invertible tree) where
  -- the root x and its copy: 2x x = 1
  pub root_inverted : (r : ℕ) → r ≡ add_p (get_or tree 1 0) (get_or tree 1 0) → Inverting 1 tree (set (set tree 0 r) 1 r)
  root_inverted r e = record {
    size = written-length tree 0 r r;
    words = words-set (set tree 0 r) 1 r (words-set tree 0 r t.words below) below;
    done = λ j h. elim (dec_lt j 1) [ yes l ↦ copy j (omega arith) | no g ↦ first j (omega arith) ];
    kept = λ j h. written_above tree 0 r r j (omega arith);
  }
    where
      x : ℕ
      x = get_or tree 1 0

      below : r < P
      below = omega arith

      inverse : mul_p r x ≡ 1
      inverse =
          ap (λ (r : ℕ). mul_p r x) e
          ∙ solve_words words31 m31 m31_representation (x ∷ []) ((v0 :+ v0) :* v0) (two exprs :* (v0 :* v0))
          (m31_representation.mul-reduced _ _) (m31_representation.mul-reduced _ _) tt
          ∙ t.root

      first : (j : ℕ) → j ≡ 1 → mul_p (get_or (written tree 0 r r) j 0) (get_or tree j 0) ≡ 1
      first j q =
          ap (λ (j : ℕ). mul_p (get_or (written tree 0 r r) j 0) (get_or tree j 0)) q
          ∙ ap (λ (a : ℕ). mul_p a x) (written_second tree 0 r r (omega (arith, t.least))) ∙ inverse

      copy : (j : ℕ) → j ≡ 0 → mul_p (get_or (written tree 0 r r) j 0) (get_or tree j 0) ≡ 1
      copy j q =
          ap (λ (j : ℕ). mul_p (get_or (written tree 0 r r) j 0) (get_or tree j 0)) q
          ∙ ap₂ mul_p (written-first tree 0 r r (omega (arith, t.least))) t.copied ∙ inverse

  module _ {i : ℕ} {now : List ℕ} (v : Inverting i tree now) where
    beside_inverse : 0 < i → mul_p (beside now i) (beside tree i) ≡ 1
    beside_inverse pos =
        even_or_odd i
        (λ e. sym (ap₂ mul_p (even_beside now i e) (even_beside tree i e)) ∙ v.done (i + 1) (omega arith))
        (λ e.
        let odd : i % 2 ≡ 0 → ⊥ = λ z. omega arith in
        sym (ap₂ mul_p (odd_beside now i odd) (odd_beside tree i odd)) ∙ neg-mul-neg (get_or now (i - 1) 0) (get_or tree (i - 1) 0)
        ∙ v.done (i - 1) (omega arith))

    -- the children x and y of node i, where 2xy is beside it and s its inverse: 2ys x = 1 and 2xs y = 1
    pub children_inverted : (s a b : ℕ) → 0 < i → 2 * i + 1 < length now → s ≡ beside now i
        → (a ≡ mul_p 2 (mul_p (get_or now (2 * i + 1) 0) s)) × (a < P) → (b ≡ mul_p 2 (mul_p (get_or now (2 * i) 0) s)) × (b < P)
        → Inverting (i + 1) tree (set (set now (2 * i) a) (2 * i + 1) b)
    children_inverted s a b pos room e f g = record {
      size = written-length now (2 * i) a b ∙ v.size;
      words = words-set (set now (2 * i) a) (2 * i + 1) b (words-set now (2 * i) a v.words f.1) g.1;
      done = λ j h. elim (dec_lt j (2 * i)) [
        | yes l ↦ ap (λ (w : ℕ). mul_p w (get_or tree j 0)) (written_below now (2 * i) a b j l) ∙ v.done j l
        | no z ↦ elim (dec_lt j (2 * i + 1)) [ yes l ↦ left j (omega arith) | no z ↦ right j (omega arith) ]
      ];
      kept = λ j h. written_above now (2 * i) a b j (omega arith) ∙ v.kept j (omega arith);
    }
      where
        x : ℕ
        x = get_or tree (2 * i) 0

        y : ℕ
        y = get_or tree (2 * i + 1) 0

        whole : mul_p s (mul_p 2 (mul_p x y)) ≡ 1
        whole = ap₂ mul_p e (t.children i pos (omega (arith, v.size))) ∙ beside_inverse pos

        after : List ℕ
        after = written now (2 * i) a b

        left : (j : ℕ) → j ≡ 2 * i → mul_p (get_or after j 0) (get_or tree j 0) ≡ 1
        left j q =
            ap (λ (j : ℕ). mul_p (get_or after j 0) (get_or tree j 0)) q
            ∙ ap (λ (w : ℕ). mul_p w x)
            (written-first now (2 * i) a b (omega arith) ∙ f.0 ∙ ap (λ (y : ℕ). mul_p 2 (mul_p y s)) (v.kept (2 * i + 1) (omega arith)))
            ∙ solve_words words31 m31 m31_representation (x ∷ y ∷ s ∷ []) (two exprs :* (v1 :* v2) :* v0) (v2 :* (two exprs :* (v0 :* v1)))
            (m31_representation.mul-reduced _ _) (m31_representation.mul-reduced _ _) tt
            ∙ whole

        right : (j : ℕ) → j ≡ 2 * i + 1 → mul_p (get_or after j 0) (get_or tree j 0) ≡ 1
        right j q =
            ap (λ (j : ℕ). mul_p (get_or after j 0) (get_or tree j 0)) q
            ∙ ap (λ (w : ℕ). mul_p w y)
            (written_second now (2 * i) a b room ∙ g.0 ∙ ap (λ (x : ℕ). mul_p 2 (mul_p x s)) (v.kept (2 * i) (omega arith)))
            ∙ solve_words words31 m31 m31_representation (x ∷ y ∷ s ∷ []) (two exprs :* (v0 :* v2) :* v1) (v2 :* (two exprs :* (v0 :* v1)))
            (m31_representation.mul-reduced _ _) (m31_representation.mul-reduced _ _) tt
            ∙ whole

    pub all_inverted : length now ≤ 2 * i → InvertedTree tree now
    all_inverted h = record { size = v.size; words = v.words; inverse = λ j l. v.done j (omega (arith, v.size)) }

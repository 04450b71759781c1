-- Z/p is a field for a prime p, and Fermat's little theorem.
use Prim.Native.Nat.{ℕ, zero, suc, ◌*◌, ◌/◌, ◌%◌, ◌<◌, ◌≤◌}
use Rattle.std.specs.Prelude.{◌≡◌, [], ◌∷◌}
use Rattle.std.proofs.Math.Path.{refl, sym, ap, ap₂}
use Rattle.std.proofs.Common.{◌∙◌, arith}
use Rattle.std.proofs.Math.Nat as N
use Rattle.std.proofs.Math.Decide.{dec_le}
use Rattle.algebra.specs.Ring.{Ops, Laws}
use Rattle.algebra.specs.Ring as R
use Rattle.algebra.specs.Polynomial.{Expr, ◌:+◌, ◌:*◌, :-◌, given, v0, v1, v2, v3}
use Rattle.algebra.specs.Solver.{solve_from}
use Rattle.algebra.specs.Power.{pow}
use Rattle.algebra.specs.Binomial.{choose, choose_absorb, choose_all, series, series-last, binomial}
use Rattle.algebra.specs.ZMod.{Z, Z_discrete, val_below, residue, zmod, zmod_laws, residue-add}
use Rattle.algebra.specs.ZMod.{residue-mul, residue_self, residue-val, residue_injective}
use Rattle.algebra.specs.Field.{Field}
use Rattle.algebra.specs.Field as F
use Rattle.algebra.specs.Prime.{Prime}

-- p = q + 1
module _ (q : ℕ) (pos : zero < suc q) (large : 0 < q) (prime : Prime (suc q)) where
  abbrev O : Ops
  O = zmod (suc q) pos

  abbrev L : Laws O
  L = zmod_laws (suc q) pos

  abbrev class : ℕ → Z (suc q)
  class = residue (suc q) pos

  -- Euclid: with p = a c + s, 0 < s < a, and t the inverse of s, the inverse of a is - c t
  inverse : (k a : ℕ) → a ≤ k → 0 < a → a < suc q → (b : Z (suc q)) × (O.mul (class a) b ≡ O.one)
  inverse zero a h l m = absurd (let f : a < 0 = omega arith in N.not-suc-le-zero f)
  inverse (suc k) a h l m = elim (dec_le a 1) [
    | yes d ↦ (class 1, ap (λ t. O.mul (class t) (class 1)) (one_of d) ∙ L.mul-one (class 1))
    | no d ↦ step (prime a (omega arith) m) (N.mod-lt (suc q) l) (λ s u v w. inverse k s (omega arith) v w)
  ]
    where
      one_of : a ≤ 1 → a ≡ 1
      one_of d = omega arith

      division : O.add (O.mul (class a) (class (suc q / a))) (class (suc q % a)) ≡ O.zero
      division =
          ap (λ t. O.add t (class (suc q % a))) (sym (residue-mul (suc q) pos a (suc q / a)))
          ∙ sym (residue-add (suc q) pos (a * (suc q / a)) (suc q % a)) ∙ ap class (N.div-add-mod (suc q) a) ∙ residue_self (suc q) pos

      step : ¬ (suc q % a ≡ 0) → suc q % a < a
          → ((s : ℕ) → s < a → 0 < s → s < suc q → (b : Z (suc q)) × (O.mul (class s) b ≡ O.one))
          → (b : Z (suc q)) × (O.mul (class a) b ≡ O.one)
      step n lt ih =
          let r : (b : Z (suc q)) × (O.mul (class (suc q % a)) b ≡ O.one) = ih (suc q % a) lt (omega arith) (omega arith) in (
            O.neg (O.mul (class (suc q / a)) r.0),
            solve_from O L (class a ∷ class (suc q / a) ∷ class (suc q % a) ∷ r.0 ∷ [])
                (given (:- v3) (v0 :* v1 :+ v2) Expr.:0 ∷ given Expr.:1 (v2 :* v3) Expr.:1 ∷ []) (division, (r.1, tt))
                (v0 :* :- (v1 :* v3)) Expr.:1 tt,
          )

  nonzero_pos : (a : Z (suc q)) → ¬ (a ≡ class 0) → 0 < a.val
  nonzero_pos a n = go a.val refl
    where
      go : (v : ℕ) → a.val ≡ v → 0 < v
      go zero e = absurd (n (sym (residue-val (suc q) pos a) ∙ ap class e))
      go (suc v) e = omega arith

  inverse_of : (a : Z (suc q)) → Dec (a ≡ class 0) → (b : Z (suc q)) × (¬ (a ≡ class 0) → O.mul a b ≡ O.one)
  inverse_of a (yes z) = (class 0, λ n. absurd (n z))
  inverse_of a (no n) =
      let r : (b : Z (suc q)) × (O.mul (class a.val) b ≡ O.one) =
      inverse a.val a.val (omega arith) (nonzero_pos a n) (val_below a) in
      (r.0, λ _. ap (λ t. O.mul t r.0) (sym (residue-val (suc q) pos a)) ∙ r.1)

  class-nonzero : (a : ℕ) → 0 < a → a < suc q → ¬ (class a ≡ class 0)
  class-nonzero a h l e = let z : a ≡ 0 = residue_injective (suc q) pos a 0 l pos e in omega arith

  pub zmod_field : Field O
  zmod_field = record {
    laws = L;
    inv = λ a. (inverse_of a (Z_discrete a (class 0))).0;
    mul_inv = λ a. (inverse_of a (Z_discrete a (class 0))).1;
    one_nonzero = class-nonzero 1 (omega arith) (omega arith);
    is_zero = λ a. Z_discrete a (class 0);
  }

  -- p divides (p over k + 1) for k + 1 < p
  pub choose_vanishes : (k : ℕ) → suc k < suc q → class (choose (suc q) (suc k)) ≡ class 0
  choose_vanishes k l =
      F.zero_factor O zmod_field (class (suc k)) (class (choose (suc q) (suc k))) (class-nonzero (suc k) (omega arith) l)
      (sym (residue-mul (suc q) pos (suc k) (choose (suc q) (suc k))) ∙ ap class (choose_absorb q k)
      ∙ residue-mul (suc q) pos (suc q) (choose q k)
      ∙ ap (λ t. O.mul t (class (choose q k))) (residue_self (suc q) pos) ∙ R.zero-mul O L (class (choose q k)))

  -- (1 + x)^p = 1 + x^p, in any ring that the numbers modulo p map into
  module _ (X : Ops) (XL : Laws X) (embed : Z (suc q) → X.El) (embed-zero : embed (class 0) ≡ X.zero)
      (embed-one : embed (class 1) ≡ X.one)
      (embed-add : (a b : Z (suc q)) → embed (O.add a b) ≡ X.add (embed a) (embed b)) where
    pub one-add-pow : (x : X.El) → pow X (X.add X.one x) (suc q) ≡ X.add X.one (pow X x (suc q))
    unfolding series choose pow
    one-add-pow x =
        sym (binomial X XL (λ n. embed (class n)) embed-zero embed-one
        (λ a b. ap embed (residue-add (suc q) pos a b) ∙ embed-add (class a) (class b))
        (suc q) (suc (suc q)) x (omega arith))
        ∙ ap₂ (λ s t. X.add s (X.mul x t)) embed-one
        (series-last X XL q (λ k. embed (class (choose (suc q) (suc k)))) x (λ k l. ap embed (choose_vanishes k (omega arith)) ∙ embed-zero)
        ∙ ap (λ t. X.mul (embed (class t)) (pow X x q)) (choose_all (suc q)) ∙ ap (λ t. X.mul t (pow X x q)) embed-one
        ∙ R.one-mul X XL (pow X x q))

  fermat_class : (n : ℕ) → pow O (class n) (suc q) ≡ class n
  unfolding pow
  fermat_class zero = R.zero-mul O L (pow O (class 0) q)
  fermat_class (suc n) =
      ap (λ t. pow O t (suc q)) (more n) ∙ one-add-pow O L (λ a. a) refl refl (λ a b. refl) (class n)
      ∙ ap (O.add O.one) (fermat_class n) ∙ sym (more n)
    where
      more : (n : ℕ) → class (suc n) ≡ O.add O.one (class n)
      more n = ap class (omega arith) ∙ residue-add (suc q) pos 1 n

  -- a^p = a
  pub fermat : (a : Z (suc q)) → pow O a (suc q) ≡ a
  fermat a = ap (λ t. pow O t (suc q)) (sym (residue-val (suc q) pos a)) ∙ fermat_class a.val ∙ residue-val (suc q) pos a

  -- a^(p - 1) = 1 for a ≠ 0
  pub fermat_one : (a : Z (suc q)) → ¬ (a ≡ class 0) → pow O a q ≡ O.one
  unfolding pow
  fermat_one a n = F.cancel O zmod_field a (pow O a q) O.one n (fermat a ∙ sym (L.mul-one a))
